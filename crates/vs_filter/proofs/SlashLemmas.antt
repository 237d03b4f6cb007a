-- Slashes at the ends of a text.
use Rattle.std.proofs.Common.{◌≡◌, ℕ, List, [], ◌∷◌, ◌++◌, reverse, sym, ap, ◌∙◌}
use Rattle.std.proofs.lemmas.Bool.{cond-true, cond-false, eq-eqb, ne_eqb}
use Rattle.std.proofs.lemmas.List.{reverse-append, reverse-reverse}
use Rattle.vs_filter.specs.Fits.{before_slashes, behind_slashes}

pub slash_in_front : (x : ℕ) (xs : List ℕ) → x ≡ 0x2F → behind_slashes (x ∷ xs) ≡ behind_slashes xs
slash_in_front x xs e = cond-true _ _ _ (eq-eqb x 0x2F e)

pub other_in_front : (x : ℕ) (xs : List ℕ) → (x ≡ 0x2F → ⊥) → behind_slashes (x ∷ xs) ≡ x ∷ xs
other_in_front x xs e = cond-false _ _ _ (ne_eqb x 0x2F e)

pub slash_at_end : (text rest : List ℕ) (x : ℕ) → text ≡ rest ++ x ∷ [] → x ≡ 0x2F → before_slashes rest ≡ before_slashes text
slash_at_end text rest x is slash =
    sym (ap before_slashes is ∙ ap (λ r. reverse (behind_slashes r)) (reverse-append rest (x ∷ [])) ∙ ap reverse (slash_in_front x (reverse rest) slash))

pub other_at_end : (text rest : List ℕ) (x : ℕ) → text ≡ rest ++ x ∷ [] → (x ≡ 0x2F → ⊥) → text ≡ before_slashes text
other_at_end text rest x is other =
    let turned : reverse text ≡ x ∷ reverse rest = ap reverse is ∙ reverse-append rest (x ∷ []) in
    sym (ap (λ r. reverse (behind_slashes r)) turned ∙ (ap reverse (other_in_front x (reverse rest) other) ∙ (ap reverse (sym turned) ∙ reverse-reverse text)))
