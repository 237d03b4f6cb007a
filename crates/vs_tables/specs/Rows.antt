-- The rows of a table, as they are found by their keys.
use Rattle.std.specs.Prelude.{◌≡◌, ℕ, Bool, true, not, nat_eq, List, [], ◌∷◌, ◌++◌, Option, Some, None}
use Rattle.std.specs.List.{AllByRecursion, filter, find, list_any, slice_get}
use Rattle.std.specs.Ordering.{is_eq, is_gt, is_lt}
use Rattle.std.specs.List.Sorted.{IsStrictlySortedBy}
use Rattle.std.specs.Map.{keys_of}
use Rattle.std.specs.Cmp.Lexicographic.{pointwise, slice_cmp}
use Rattle.std.specs.declared.cmp.Ordering.{Ordering}
use Rattle.std.specs.declared.cmp.Ordering.TheVariants.{Less}
use Rattle.vs_base.specs.declared.cell.Cell.{Cell}
use Rattle.vs_base.specs.declared.table.ColumnKind.{ColumnKind}
use Rattle.vs_base.specs.declared.table.Table.{Table}
use Rattle.vs_base.specs.Keys.{key_kinds, key_order, project}
use Rattle.vs_tables.specs.Parts.{fits_limits, parts_of}
use Rattle.vs_tables.specs.declared.key.KeyPart.{KeyPart}
use Rattle.vs_tables.specs.contracts.key.KeyPartOrd.TheImpl as parts

-- a table with a key: the places and the kinds of the key's columns, and its rows, ascending by key
pub record TableRows : Type 0 where
  pub name : List ℕ
  pub places : List ℕ
  pub kinds : List ColumnKind
  pub rows : List (List Cell)

-- a table of a schema, of which there is no row
abbrev pub no_rows : Table → TableRows
no_rows table = record { name = table.name; places = table.key; kinds = key_kinds table; rows = [] }

-- a key, against that of a row
abbrev pub against : TableRows → List Cell → List Cell → Ordering
against t key row = key_order t.kinds key (project t.places row)

abbrev pub is_row_at : TableRows → List Cell → List Cell → Bool
is_row_at t key row = is_eq (against t key row)

abbrev pub is_row_before : TableRows → List Cell → List Cell → Bool
is_row_before t key row = is_gt (against t key row)

abbrev pub is_row_behind : TableRows → List Cell → List Cell → Bool
is_row_behind t key row = is_lt (against t key row)

-- the key of a row
abbrev pub row_key : TableRows → List Cell → List Cell
row_key t row = project t.places row

-- whether a row has the key
abbrev pub has_row_at : TableRows → List Cell → Bool
has_row_at t key = list_any (is_row_at t key) t.rows

-- the rows but for that at a key
abbrev pub rows_without : TableRows → List Cell → List (List Cell)
rows_without t key = filter (λ row. not (is_row_at t key row)) t.rows

-- the rows with one more, which comes in place of that at its key
abbrev pub rows_with : TableRows → List Cell → List (List Cell)
rows_with t row = filter (is_row_before t (row_key t row)) t.rows ++ row ∷ filter (is_row_behind t (row_key t row)) t.rows

-- the rows behind a key, or all
abbrev pub rows_behind : TableRows → Option (List Cell) → List (List Cell)
rows_behind t None = t.rows
rows_behind t (Some key) = filter (is_row_behind t key) t.rows

-- the first of them
abbrev pub next_row : TableRows → Option (List Cell) → Option (List Cell)
next_row t key = slice_get (rows_behind t key) 0

-- each row stands ahead of all that follow it, by their keys
abbrev pub RowsAscend : TableRows → List (List Cell) → Type 0
RowsAscend t [] = Unit {0}
RowsAscend t (row ∷ rows) = AllByRecursion (λ next. against t (row_key t row) next ≡ Less) rows × RowsAscend t rows

-- what holds of the rows of a table at every time: they ascend, and their keys are within the limits
pub record AreLawfulRows (t : TableRows) : Type 0 where
  pub ascend : RowsAscend t t.rows
  pub fit : AllByRecursion (λ row. fits_limits (row_key t row) ≡ true) t.rows

abbrev pub is_table_named : List ℕ → TableRows → Bool
is_table_named name t = pointwise nat_eq t.name name

abbrev pub table_rows : List TableRows → List ℕ → Option TableRows
table_rows tables name = find (is_table_named name) tables

-- ---- how rows are kept for the look-up

abbrev pub parts_order : List KeyPart → List KeyPart → Ordering
parts_order = slice_cmp parts.ghosts.cmp

abbrev pub StandAtKeys : List ColumnKind → List ℕ → List (List KeyPart × List Cell) → Type 0
StandAtKeys kinds places entries = AllByRecursion (λ (e : List KeyPart × List Cell). e.0 ≡ parts_of kinds (project places e.1)) entries

-- each row stands at its own key, and the keys ascend and are within the limits
pub record AreKept (kinds : List ColumnKind) (places : List ℕ) (entries : List (List KeyPart × List Cell)) : Type 0 where
  pub keyed : StandAtKeys kinds places entries
  pub ascending : IsStrictlySortedBy parts_order (keys_of entries)
  pub fit : AllByRecursion (λ (e : List KeyPart × List Cell). fits_limits (project places e.1) ≡ true) entries
