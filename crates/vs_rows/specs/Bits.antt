-- Bits in bytes: eight in a byte, the lowest first.
use Rattle.std.specs.Prelude.{ℕ, zero, suc, ◌+◌, ◌/◌, ◌%◌, ◌==◌, Bool, true, ◌&&◌, List, slice_index}
use Rattle.std.specs.Int.{bit_at}

-- the bytes that so many bits take
abbrev pub bit_bytes : ℕ → ℕ
bit_bytes n = (n + 7) / 8

unfoldable pub has_bit : List ℕ → ℕ → Bool
has_bit bytes i = bit_at (slice_index bytes (i / 8)) (i % 8) == 1

-- each of the first n bits is 1
unfoldable pub all_set : ℕ → List ℕ → Bool
all_set zero bytes = true
all_set (suc n) bytes = all_set n bytes && has_bit bytes n
