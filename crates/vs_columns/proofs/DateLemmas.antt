-- The digits of fractions.
use Rattle.std.proofs.Common.{◌≡◌, ◌≤◌, ℕ, ◌-◌, ◌*◌, List, [], ◌∷◌, ◌++◌, take, drop, codes, sym, ap, ◌∙◌, arith}
use Rattle.std.proofs.lemmas.Bool.Decides.{nat_tests}
use Rattle.vs_columns.specs.Digits.{padded}
use Rattle.vs_columns.specs.Dates.{fraction_size, fraction_text}
use Rattle.vs_columns.proofs.DigitLemmas.{last_of_six}
use Rattle.vs_columns.proofs.KeptLemmas.{appended}

some_fraction : (p n : ℕ) → (p ≡ 0 → ⊥) → fraction_text p n ≡ codes "." ++ take p (padded (2 * fraction_size p) n)
some_fraction p n h = grind (arith, nat_tests)

-- a point and the first of the last digits of six are the text of a fraction
pub fraction_behind : (p n size : ℕ) (digits rest old mid new : List ℕ) → p ≤ 6 → (p ≡ 0 → ⊥) → size ≡ fraction_size p → digits ≡ padded 6 n → rest ≡ drop (6 - 2 * size) digits → mid ≡ old ++ 46 ∷ [] → new ≡ mid ++ take p rest → new ≡ old ++ fraction_text p n
fraction_behind p n size digits rest old mid new few some s d r m e =
    let last : rest ≡ padded (2 * fraction_size p) n =
    r ∙ ap (λ ds. drop (6 - 2 * size) ds) d ∙ ap (λ k. drop (6 - 2 * k) (padded 6 n)) s ∙ last_of_six (2 * fraction_size p) n (omega arith) in
    appended old mid new (46 ∷ []) (take p rest) m e
    ∙ ap (λ ds. old ++ (46 ∷ [] ++ take p ds)) last
    ∙ ap (λ ds. old ++ ds) (sym (some_fraction p n some))
