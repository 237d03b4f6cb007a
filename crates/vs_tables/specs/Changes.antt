-- What changes make of rows, and which changes don't stand on the rows before them.
use Rattle.std.specs.Prelude.{◌≡◌, ℕ, Bool, false, not, ◌||◌, nat_le, List, [], ◌∷◌, map, length, Option, Some, None, if◌then◌else◌}
use Rattle.std.specs.List.{filter, fold}
use Rattle.std.specs.Option.{option_and_then, option_map, option_map_or, option_or}
use Rattle.vs_base.specs.declared.cell.Cell.{Cell}
use Rattle.vs_base.specs.declared.change.Change.{Change}
use Rattle.vs_base.specs.declared.table.Table.{Table}
use Rattle.vs_tables.specs.Parts.{fits_limits}
use Rattle.vs_tables.specs.Rows.{TableRows, has_row_at, is_table_named, next_row, no_rows, row_key, rows_behind, rows_with, rows_without, table_rows}
use Rattle.vs_tables.specs.declared.keyed.Unfit.{Unfit}
use Rattle.vs_tables.specs.declared.refusal.TableRefusal.{TableRefusal}
use Rattle.vs_tables.specs.declared.refusal.TableRefusal.TheVariants as refusal

-- why a change doesn't stand on rows
pub data RowFault : Type 0 where
  Missing Double TooLong : RowFault

-- without the row of the before image
abbrev pub with_gone : TableRows → Option (List Cell) → TableRows
with_gone t None = t
with_gone t (Some row) = record t { rows = rows_without t (row_key t row) }

-- with the after image
abbrev pub with_come : TableRows → Option (List Cell) → TableRows
with_come t None = t
with_come t (Some row) = record t { rows = rows_with t row }

-- the table after a change of it
abbrev pub table_after : TableRows → Change → TableRows
table_after t c = with_come (with_gone t c.before) c.after

-- no row has the key of the image
abbrev pub is_missing : TableRows → Option (List Cell) → Bool
is_missing t image = option_map_or (λ row. not (has_row_at t (row_key t row))) image false

-- a row has it
abbrev pub is_there : TableRows → Option (List Cell) → Bool
is_there t image = option_map_or (λ row. has_row_at t (row_key t row)) image false

-- its key is over the limits
abbrev pub is_long : TableRows → Option (List Cell) → Bool
is_long t image = option_map_or (λ row. not (fits_limits (row_key t row))) image false

-- No row has the key of the before image; a row other than that has the key of the after image; the key of an image is over the limits.
abbrev pub fault_of_change : TableRows → Change → Option RowFault
fault_of_change t c =
    if is_missing t c.before then Some RowFault.Missing
    else if is_there (with_gone t c.before) c.after then Some RowFault.Double
    else if is_long t c.before || is_long t c.after then Some RowFault.TooLong
    else None

-- ---- of several tables; a change of another table passes

abbrev pub tables_after_one : List TableRows → Change → List TableRows
tables_after_one [] c = []
tables_after_one (t ∷ ts) c = if is_table_named c.table t then table_after t c ∷ ts else t ∷ tables_after_one ts c

abbrev pub change_fault_in : List TableRows → Change → Option RowFault
change_fault_in tables c = option_and_then (λ t. fault_of_change t c) (table_rows tables c.table)

-- the tables after changes, in their order
abbrev pub tables_after : List TableRows → List Change → List TableRows
tables_after tables changes = fold tables_after_one tables changes

-- the first change that doesn't stand on the rows that those before it leave, by its table; and why
abbrev pub first_unfit : List TableRows → List Change → Option (List ℕ × RowFault)
first_unfit tables [] = None
first_unfit tables (c ∷ changes) = option_or (option_map (λ why. (c.table, why)) (change_fault_in tables c)) (first_unfit (tables_after_one tables c) changes)

-- what a refusal says of it
abbrev pub RefusalTells : Option (List ℕ × RowFault) → TableRefusal → Type 0
RefusalTells why (refusal.MissingRow table) = why ≡ Some (table, RowFault.Missing)
RefusalTells why (refusal.DoubleRow table) = why ≡ Some (table, RowFault.Double)
RefusalTells why (refusal.KeyTooLong table) = why ≡ Some (table, RowFault.TooLong)
RefusalTells why refusal.Memory = Unit {0}

-- and of a table's own rows
abbrev pub RowFaultTells : Option RowFault → Unfit → Type 0
RowFaultTells why Unfit.Missing = why ≡ Some RowFault.Missing
RowFaultTells why Unfit.Double = why ≡ Some RowFault.Double
RowFaultTells why Unfit.TooLong = why ≡ Some RowFault.TooLong
RowFaultTells why Unfit.Memory = Unit {0}

-- ---- what is known of a schema's tables

abbrev pub has_key : Table → Bool
has_key table = nat_le 1 (length table.key)

-- the tables with a key, in their order
abbrev pub keyed_tables : List Table → List TableRows
keyed_tables tables = map no_rows (filter has_key tables)

-- what was applied, and the refusal for good
pub record Applied : Type 0 where
  pub tables : List TableRows
  pub refused : Option TableRefusal

-- the rows behind a key of a table, where there is such a table
abbrev pub rows_in : List TableRows → List ℕ → Option (List Cell) → Option (List (List Cell))
rows_in tables name key = option_map (λ t. rows_behind t key) (table_rows tables name)

-- and the first of them
abbrev pub next_in : List TableRows → List ℕ → Option (List Cell) → Option (List Cell)
next_in tables name key = option_and_then (λ t. next_row t key) (table_rows tables name)
