-- Packed numbers: one byte up to 250, or the byte 252, 253 or 254 and then 2, 3 or 8 bytes, the lowest first.
use Rattle.std.specs.Prelude.{ℕ, ◌+◌, ◌==◌, nat_le, nat_lt, if◌then◌else◌, List, [], ◌∷◌, length, Option, Some, None}
use Rattle.byteorder.specs.Endian.{little_number}

-- the number of so many bytes behind the first, and the bytes of both; or none, where they aren't there
abbrev pub long_in : ℕ → List ℕ → Option (ℕ × ℕ)
long_in n rest = if nat_lt (length rest) n then None else Some (little_number n rest, n + 1)

-- the number at the front, and its bytes; or none, where no number stands there
unfoldable pub packed_in : List ℕ → Option (ℕ × ℕ)
packed_in [] = None
packed_in (b ∷ rest) =
    if nat_le b 250 then Some (b, 1)
    else if b == 252 then long_in 2 rest
    else if b == 253 then long_in 3 rest
    else if b == 254 then long_in 8 rest
    else None
