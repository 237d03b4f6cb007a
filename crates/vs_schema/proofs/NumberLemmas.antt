-- A number only grows with the digits behind it.
use Rattle.std.proofs.Common.{◌≡◌, ◌≤◌, ◌<◌, ◌+◌, ◌*◌, ◌-◌, ℕ, Bool, true, false, List, [], ◌∷◌, nat_le, refl, arith}
use Rattle.std.specs.Prelude.{◌&&◌, Some, None, if◌then◌else◌}
use Rattle.std.proofs.lemmas.Bool.{leb-true}
use Rattle.vs_schema.specs.Kinds.{is_numeral, number_from, number_of}

pub number_grows : (n : ℕ) (digits : List ℕ) → n ≤ number_from n digits
number_grows n [] = omega arith
number_grows n (c ∷ cs) = omega (arith, number_grows (n * 10 + (c - 48)) cs)

past : (a b : Bool) (n : ℕ) → b ≡ false → (if a && b then Some n else None) ≡ None
past true b n h = rw h refl
past false b n h = refl

-- it has passed the limit for good
pub too_large : (limit n : ℕ) (text rest : List ℕ) → limit < n → number_from n rest ≡ number_from 0 text → number_of limit text ≡ None
too_large limit n text rest over same = past (is_numeral text) (nat_le (number_from 0 text) limit) (number_from 0 text) (go (nat_le (number_from 0 text) limit) refl)
  where
    go : (b : Bool) → nat_le (number_from 0 text) limit ≡ b → b ≡ false
    go true e = absurd (omega (arith, leb-true (number_from 0 text) limit e, number_grows n rest, same, over))
    go false e = refl
