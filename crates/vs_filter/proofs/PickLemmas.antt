-- Picked tables by their names.
use Rattle.std.proofs.Common.{◌≡◌, ℕ, suc, true, List, [], ◌∷◌, Option, Some, None, map, sym, ◌∙◌, inl, inr, arith, IfSome}
use Rattle.std.specs.Prelude.{nat_eq}
use Rattle.std.specs.List.{Contains}
use Rattle.std.specs.Option.{option_and_then}
use Rattle.std.specs.Cmp.Lexicographic.{pointwise}
use Rattle.std.proofs.lemmas.Slice.Eq.{bytes_eq-Decides}
use Rattle.std.proofs.lemmas.Bool.{cases_Bool, cond-false}
use Rattle.std.proofs.lemmas.Option.{none-some}
use Rattle.vs_base.specs.declared.cell.Cell.{Cell}
use Rattle.vs_select.specs.Rows.{taken_row}
use Rattle.vs_filter.specs.Picks.{picked_in}
use Rattle.vs_filter.specs.declared.bound.Picked.{Picked}

abbrev names_in : List Picked → List (List ℕ)
names_in tables = map (λ p. p.name) tables

-- a table of the front, or of the rest
contains_more : (x y : List ℕ) (xs : List (List ℕ)) → Contains xs y → Contains (x ∷ xs) y
contains_more x y xs (k, lt, is) = (suc k, omega (arith, lt), is)

named_here : (q : Picked) (qs : List Picked) (name : List ℕ) → pointwise nat_eq q.name name ≡ true → Contains (names_in (q ∷ qs)) name
named_here q qs name same = (0, omega arith, (bytes_eq-Decides q.name name).0 same)

pub found_is_named : (tables : List Picked) (name : List ℕ) (p : Picked) → picked_in tables name ≡ Some p → Contains (names_in tables) name
found_is_named [] name p e = absurd (none-some p e)
found_is_named (q ∷ qs) name p e = elim (cases_Bool (pointwise nat_eq q.name name)) [
  | inl same ↦ named_here q qs name same
  | inr other ↦ contains_more q.name name (names_in qs) (found_is_named qs name p (sym (cond-false (pointwise nat_eq q.name name) (Some q) (picked_in qs name) other) ∙ e))
]

if_some : {X : Type 0} (o : Option X) (P : Type 0) → P → IfSome o (λ _. P)
if_some None P p = tt
if_some (Some x) P p = p

-- a row is picked of a table that is picked
pub row_is_of_picked : (o : Option Picked) (tables : List Picked) (name : List ℕ) (row : List Cell) → picked_in tables name ≡ o →
    IfSome (option_and_then (λ (p : Picked). taken_row p.select row) o) (λ told. Contains (names_in tables) name)
row_is_of_picked None tables name row e = tt
row_is_of_picked (Some p) tables name row e = if_some (taken_row p.select row) _ (found_is_named tables name p e)
