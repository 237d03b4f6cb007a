-- The bytes of a decimal's digits.
use Rattle.std.proofs.Common.{◌≡◌, ◌≤◌, ◌<◌, ℕ, zero, suc, ◌-◌, List, [], ◌∷◌, ◌++◌, drop, length, map, slice_set, get_or, refl, ap, ◌∙◌, arith}
use Rattle.std.proofs.lemmas.Bool.Decides.{nat_tests}
use Rattle.byteorder.specs.Endian.{big_number}
use Rattle.vs_columns.specs.Digits.{padded}
use Rattle.vs_columns.specs.Decimals.{plain, group_size, group_digits, nines_digits}
use Rattle.vs_columns.proofs.DigitLemmas.{last_of_nine}

pub plain_flipped : (xs ys : List ℕ) → 1 ≤ length xs → get_or xs 0 0 < 128 → ys ≡ map (λ x. 255 - x) xs → slice_set ys 0 (get_or ys 0 0 - 128) ≡ plain xs
unfolding plain
plain_flipped [] ys h low e = absurd (omega arith)
plain_flipped (x ∷ xs) ys h low e = rw e (grind (arith, nat_tests))

pub plain_kept : (xs ys : List ℕ) → 1 ≤ length xs → 128 ≤ get_or xs 0 0 → ys ≡ xs → slice_set ys 0 (get_or ys 0 0 - 128) ≡ plain xs
unfolding plain
plain_kept [] ys h high e = absurd (omega arith)
plain_kept (x ∷ xs) ys h high e = rw e (grind (arith, nat_tests))

-- the digits of a group are the last of nine
pub group_last : (k n : ℕ) (bytes all : List ℕ) → k ≤ 9 → n ≡ big_number (group_size k) bytes → all ≡ padded 9 n → drop (9 - k) all ≡ group_digits k bytes
unfolding group_digits
group_last k n bytes all h e p = ap (λ ds. drop (9 - k) ds) p ∙ last_of_nine k n h ∙ ap (λ m. padded k m) e

-- groups of nine, from the first on
pub nines_step : (count : ℕ) (bytes : List ℕ) → (count ≡ 0 → ⊥) → nines_digits count bytes ≡ group_digits 9 bytes ++ nines_digits (count - 1) (drop 4 bytes)
unfolding nines_digits
nines_step zero bytes h = absurd (h refl)
nines_step (suc count) bytes h = let e : suc count - 1 ≡ count = omega arith in rw e
