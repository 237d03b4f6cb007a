-- Decimals, as MySQL packs them: groups of nine digits in four bytes, and the digits left over in as few as they need.
use Rattle.std.specs.Prelude.{ℕ, zero, suc, ◌+◌, ◌-◌, ◌*◌, ◌/◌, ◌%◌, ◌^◌, ◌==◌, Bool, true, ◌&&◌, nat_lt, if◌then◌else◌, List, [], ◌∷◌, ◌++◌, drop, map, min, codes, slice_index, Result, Ok, Err}
use Rattle.byteorder.specs.Endian.{big_number}
use Rattle.vs_columns.specs.declared.refusal.ValueRefusal.{ValueRefusal}
use Rattle.vs_columns.specs.declared.refusal.ValueRefusal.TheVariants.{BadValue}
use Rattle.vs_columns.specs.Digits.{padded, without_zeros, has_some}

-- the bytes of up to nine digits
abbrev pub group_size : ℕ → ℕ
group_size k = min 4 ((k + 1) / 2)

-- the bytes of the digits in front of the point, whose group left over stands first
abbrev pub whole_size : ℕ → ℕ
whole_size i = group_size (i % 9) + 4 * (i / 9)

-- and of those behind it, whose group left over stands last
abbrev pub scale_size : ℕ → ℕ
scale_size s = 4 * (s / 9) + group_size (s % 9)

abbrev pub decimal_size : ℕ → ℕ → ℕ
decimal_size p s = whole_size (p - s) + scale_size s

-- the digits of a group, and whether it has no more of them
unfoldable pub group_digits : ℕ → List ℕ → List ℕ
group_digits k bytes = padded k (big_number (group_size k) bytes)

unfoldable pub fits_group : ℕ → List ℕ → Bool
fits_group k bytes = nat_lt (big_number (group_size k) bytes) (10 ^ k)

-- the same for so many groups of nine
unfoldable pub nines_digits : ℕ → List ℕ → List ℕ
nines_digits zero bytes = []
nines_digits (suc count) bytes = group_digits 9 bytes ++ nines_digits count (drop 4 bytes)

unfoldable pub fit_nines : ℕ → List ℕ → Bool
fit_nines zero bytes = true
fit_nines (suc count) bytes = fits_group 9 bytes && fit_nines count (drop 4 bytes)

-- the digits in front of the point
unfoldable pub whole_digits : ℕ → List ℕ → List ℕ
whole_digits i bytes = group_digits (i % 9) bytes ++ nines_digits (i / 9) (drop (group_size (i % 9)) bytes)

unfoldable pub fits_whole : ℕ → List ℕ → Bool
fits_whole i bytes = fits_group (i % 9) bytes && fit_nines (i / 9) (drop (group_size (i % 9)) bytes)

-- and behind it
unfoldable pub scale_digits : ℕ → List ℕ → List ℕ
scale_digits s bytes = nines_digits (s / 9) bytes ++ group_digits (s % 9) (drop (4 * (s / 9)) bytes)

unfoldable pub fits_scale : ℕ → List ℕ → Bool
fits_scale s bytes = fit_nines (s / 9) bytes && fits_group (s % 9) (drop (4 * (s / 9)) bytes)

-- the first bit is 0
abbrev pub is_negative : List ℕ → Bool
is_negative stored = nat_lt (slice_index stored 0) 128

-- The bytes of the digits: the first bit is flipped, and in a negative value each bit.
unfoldable pub plain : List ℕ → List ℕ
plain [] = []
plain (b ∷ rest) = if nat_lt b 128 then (127 - b) ∷ map (λ x. 255 - x) rest else (b - 128) ∷ rest

abbrev pub sign_text : Bool → List ℕ
sign_text negative = if negative then codes "-" else []

-- the digits in front of the point without zeros in front of others
abbrev pub whole_text : ℕ → List ℕ → List ℕ
whole_text i bytes = let ds = without_zeros (whole_digits i bytes) in if has_some ds then ds else codes "0"

-- a point and s digits, where s isn't 0
abbrev pub scale_text : ℕ → List ℕ → List ℕ
scale_text s bytes = if s == 0 then [] else codes "." ++ scale_digits s bytes

-- the text of a decimal of p digits, s of them behind the point
abbrev pub decimal_text : ℕ → ℕ → List ℕ → Result (List ℕ) ValueRefusal
decimal_text p s stored =
    let bytes = plain stored in
    let behind = drop (whole_size (p - s)) bytes in
    if fits_whole (p - s) bytes && fits_scale s behind
    then Ok (sign_text (is_negative stored) ++ whole_text (p - s) bytes ++ scale_text s behind)
    else Err BadValue
