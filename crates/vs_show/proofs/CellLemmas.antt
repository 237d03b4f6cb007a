-- The cells of a row one after the other.
use Rattle.std.proofs.Common.{◌≡◌, ℕ, suc, ◌+◌, ◌<◌, ◌≤◌, ◌∙◌, List, [], ◌∷◌, ◌++◌, length, drop, get_or, ap, sym, add-one, append_assoc, append-nil, drop_of_length-le}
use Rattle.std.specs.Prelude.{codes, ℤ, pos}
use Rattle.std.specs.List.{flat_map}
use Rattle.std.proofs.Math.Seq.{drop-cons}
use Rattle.vs_show.specs.Cells.{cell_text, cells_of, cells_text, first_cell, values_behind}

-- cells behind another one
abbrev pub further_text : List ℤ → List ℕ → List ℕ
further_text lengths values = flat_map (λ c. codes "," ++ cell_text c) (cells_of lengths values)

-- one more of them
pub further-next : (others : List ℤ) (i : ℕ) (z : ℤ) (values rest whole out between out' : List ℕ) → i < length others → z ≡ get_or others i (pos 0) →
    between ≡ out ++ codes "," → out' ≡ between ++ cell_text (first_cell z values) → rest ≡ values_behind z values →
    out ++ further_text (drop i others) values ≡ whole → out' ++ further_text (drop (i + 1) others) rest ≡ whole
further-next others i z values rest whole out between out' inside is first second behind known =
    let step : further_text (drop i others) values ≡ codes "," ++ cell_text (first_cell z values) ++ further_text (drop (suc i) others) (values_behind z values) =
    ap (λ l. further_text l values) (drop-cons others i (pos 0) inside ∙ ap (λ x. x ∷ drop (suc i) others) (sym is)) in
    let cell : List ℕ = cell_text (first_cell z values) in
    let front : out' ≡ out ++ (codes "," ++ cell) = second ∙ ap (λ b. b ++ cell) first ∙ append_assoc out (codes ",") cell in
    let back : further_text (drop (i + 1) others) rest ≡ further_text (drop (suc i) others) (values_behind z values) =
    ap (λ k. further_text (drop k others) rest) (add-one i) ∙ ap (λ v. further_text (drop (suc i) others) v) behind
    in
    ap (λ l. l ++ further_text (drop (i + 1) others) rest) front
    ∙ ap (λ f. out ++ (codes "," ++ cell) ++ f) back
    ∙ append_assoc out (codes "," ++ cell) (further_text (drop (suc i) others) (values_behind z values))
    ∙ ap (λ l. out ++ l) (sym step)
    ∙ known

-- none is left
pub further-end : (first : ℤ) (others : List ℤ) (i : ℕ) (values rest last : List ℕ) (old out out' : List ℕ) → length others ≤ i →
    out ≡ old ++ cell_text (first_cell first values) → rest ≡ values_behind first values →
    out' ++ further_text (drop i others) last ≡ out ++ further_text others rest → out' ≡ old ++ cells_text (first ∷ others) values
further-end first others i values rest last old out out' over wrote behind known =
    let none : drop i others ≡ [] = drop_of_length-le others over in
    let cell : List ℕ = cell_text (first_cell first values) in
    sym (append-nil out')
    ∙ ap (λ l. out' ++ further_text l last) (sym none)
    ∙ known
    ∙ ap (λ o. o ++ further_text others rest) wrote
    ∙ ap (λ v. old ++ cell ++ further_text others v) behind
    ∙ append_assoc old cell (further_text others (values_behind first values))
