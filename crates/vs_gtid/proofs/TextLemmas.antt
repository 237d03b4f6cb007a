-- The printed text of a set, interval by interval.
use Rattle.std.proofs.Common.{◌≡◌, ℕ, ◌+◌, ◌-◌, ◌<◌, ◌≤◌, List, [], ◌∷◌, ◌++◌, length, drop, get_or, refl, ap, sym, ◌∙◌, arith}
use Rattle.std.proofs.lemmas.List.{drop_more, drop_all, append_assoc, append-nil}
use Rattle.vs_gtid.specs.declared.interval.Interval.{Interval}
use Rattle.vs_gtid.specs.Positions.{Position}
use Rattle.vs_gtid.specs.Text.{following_text, next_text, opening_text, set_text}

pub text_start : (p : Position) (d : Interval) → 0 < length p → set_text p ≡ opening_text (get_or p 0 d) ++ following_text (get_or p 0 d) (drop 1 p)
unfolding set_text
text_start [] d l = absurd (omega arith)
text_start (i ∷ rest) d l = refl

pub text_more : (p : Position) (before d : Interval) (i : ℕ) → i < length p →
    following_text before (drop i p) ≡ next_text before (get_or p i d) ++ following_text (get_or p i d) (drop (i + 1) p)
unfolding following_text
text_more p before d i l = rw (drop_more p i d l) refl

pub text_end : (p : Position) (before : Interval) (i : ℕ) → length p ≤ i → following_text before (drop i p) ≡ []
unfolding following_text
text_end p before i l = rw (drop_all i p l) refl

pub text_none : (p : Position) → length p ≡ 0 → set_text p ≡ []
unfolding set_text
text_none [] e = refl
text_none (i ∷ rest) e = absurd (omega arith)

-- a text that grows by the intervals in order, and what is still to come of it
pub opened_text : (p : Position) (d : Interval) (start text : List ℕ) → 0 < length p → text ≡ start ++ opening_text (get_or p 0 d) →
    text ++ following_text (get_or p 0 d) (drop 1 p) ≡ start ++ set_text p
opened_text p d start text l e =
    ap (λ (t : List ℕ). t ++ following_text (get_or p 0 d) (drop 1 p)) e
    ∙ (append_assoc start (opening_text (get_or p 0 d)) (following_text (get_or p 0 d) (drop 1 p)) ∙ ap (λ (t : List ℕ). start ++ t) (sym (text_start p d l)))

pub further_text : (p : Position) (before d : Interval) (i : ℕ) (all text more : List ℕ) → i < length p → text ++ following_text before (drop i p) ≡ all →
    more ≡ text ++ next_text before (get_or p i d) → more ++ following_text (get_or p (i + 1 - 1) d) (drop (i + 1) p) ≡ all
further_text p before d i all text more l h e =
    let at : i + 1 - 1 ≡ i = omega arith in
    ap (λ (n : ℕ). more ++ following_text (get_or p n d) (drop (i + 1) p)) at
    ∙ (ap (λ (t : List ℕ). t ++ following_text (get_or p i d) (drop (i + 1) p)) e
    ∙ (append_assoc text (next_text before (get_or p i d)) (following_text (get_or p i d) (drop (i + 1) p))
    ∙ (ap (λ (t : List ℕ). text ++ t) (sym (text_more p before d i l)) ∙ h)))

pub whole_text : (p : Position) (before : Interval) (i : ℕ) (all text : List ℕ) → length p ≤ i → text ++ following_text before (drop i p) ≡ all → text ≡ all
whole_text p before i all text l h =
    sym (append-nil text) ∙ (ap (λ (t : List ℕ). text ++ t) (sym (text_end p before i l)) ∙ h)
