-- The key of a picked row is that of the row.
use Rattle.std.proofs.Common.{◌≡◌, ℕ, suc, ◌+◌, ◌==◌, Bool, true, false, List, [], ◌∷◌, map, Option, Some, None, IsSome, IfSome, cond, refl, sym, ap, ap₂, ◌∙◌, inl, inr, arith}
use Rattle.std.specs.List.{cons_option, position_from, slice_get}
use Rattle.std.specs.Option.{option_and_then, option_map_or, unwrap_or}
use Rattle.std.proofs.lemmas.Bool.{cases_Bool, cond-true, cond-false, eqb-true, false≢true}
use Rattle.std.proofs.lemmas.Option.{none-some, same_Some}
use Rattle.vs_base.specs.declared.cell.Cell.{Cell}
use Rattle.vs_base.specs.declared.table.Table.{Table}
use Rattle.vs_base.specs.Keys.{cell_at, project}
use Rattle.vs_select.specs.Rows.{keeps, taken_row}
use Rattle.vs_filter.specs.Keys.{HasKey, KeyIsTaken, picked_key, place_among, told_key_of}
use Rattle.vs_filter.specs.declared.bound.Picked.{Picked}

-- a place that was found holds what its column gives
found_at : {X : Type 0} (g : ℕ → X) (i n : ℕ) (columns : List ℕ) (j : ℕ) → position_from (λ c. c == i) n columns ≡ Some j →
    (k : ℕ) × (j ≡ n + k) × (slice_get (map g columns) k ≡ Some (g i))
found_at g i n [] j e = absurd (none-some j e)
found_at g i n (c ∷ columns) j e = elim (cases_Bool (c == i)) [
  | inl same ↦ (
    0,
    (let here : n ≡ j = same_Some n j (sym (cond-true (c == i) (Some n) (position_from (λ c. c == i) (n + 1) columns) same) ∙ e) in
        let zero_more : n ≡ n + 0 = omega arith in
        sym here ∙ zero_more),
    ap (λ x. Some (g x)) (eqb-true c i same),
  )
  | inr other ↦
      let later = found_at g i (n + 1) columns j (sym (cond-false (c == i) (Some n) (position_from (λ c. c == i) (n + 1) columns) other) ∙ e) in
      let at : j ≡ n + 1 + later.0 = later.1 in
      (suc later.0, omega (arith, at), later.2)
]

cell_told : (row : List Cell) (columns : List ℕ) (i j : ℕ) → place_among columns i ≡ Some j → cell_at (project columns row) j ≡ cell_at row i
cell_told row columns i j e =
    let found = found_at (cell_at row) i 0 columns j e in
    let at : j ≡ found.0 = omega (arith, found.1) in
    ap (cell_at (project columns row)) at ∙ ap (λ o. unwrap_or o Cell.Null) found.2

one_more : (row : List Cell) (columns : List ℕ) (i : ℕ) (key : List ℕ) (o : Option ℕ) → place_among columns i ≡ o → IsSome o →
    project (picked_key columns key) (project columns row) ≡ project key row →
    project (picked_key columns (i ∷ key)) (project columns row) ≡ project (i ∷ key) row
one_more row columns i key None is taken rest = absurd (false≢true taken)
one_more row columns i key (Some j) is taken rest =
    ap (λ o. project (cons_option o (picked_key columns key)) (project columns row)) is ∙ ap₂ ◌∷◌ (cell_told row columns i j is) rest

pub key_told : (row : List Cell) (columns key : List ℕ) → HasKey columns key → project (picked_key columns key) (project columns row) ≡ project key row
key_told row columns [] taken = refl
key_told row columns (i ∷ key) taken = one_more row columns i key (place_among columns i) refl taken.0 (key_told row columns key taken.1)

told_where_kept : (b : Bool) (row : List Cell) (p : Picked) (t : Table) → HasKey p.select.columns t.key →
    IfSome (cond b (Some (project p.select.columns row)) None) (λ told. project (picked_key p.select.columns t.key) told ≡ project t.key row)
told_where_kept true row p t taken = key_told row p.select.columns t.key taken
told_where_kept false row p t taken = tt

if_each : {X : Type 0} (o : Option X) (P : X → Type 0) → ((x : X) → P x) → IfSome o P
if_each None P f = tt
if_each (Some x) P f = f x

pub keys_stay : (o : Option Picked) (t : Option Table) (row : List Cell) → KeyIsTaken o t →
    IfSome (option_and_then (λ (p : Picked). taken_row p.select row) o) (λ told. told_key_of o t told ≡ option_map_or (λ (t : Table). project t.key row) t [])
keys_stay None t row taken = tt
keys_stay (Some p) None row taken = if_each (taken_row p.select row) _ (λ told. refl)
keys_stay (Some p) (Some t) row taken = told_where_kept (keeps p.select row) row p t taken
