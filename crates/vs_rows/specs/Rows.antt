-- The rows of a rows event, by the table maps before it.
use Rattle.std.specs.Prelude.{ℕ, zero, suc, ◌+◌, ◌==◌, Bool, true, false, ◌&&◌, nat_lt, if◌then◌else◌, List, [], ◌∷◌, length, drop, Option, Some, None, Result, Ok, Err}
use Rattle.vs_base.specs.declared.cell.Cell.{Cell}
use Rattle.vs_base.specs.declared.cell.Cell.TheVariants.{Null, Bytes}
use Rattle.vs_base.specs.declared.change.Change.{Change}
use Rattle.vs_columns.specs.Values.{Outcome, value_of}
use Rattle.vs_rows.specs.declared.refusal.RowRefusal.{RowRefusal}
use Rattle.vs_rows.specs.declared.refusal.RowRefusal.TheVariants.{BadBody, UnknownTableId, NotFullImage, BadRow}
use Rattle.vs_rows.specs.declared.kind.RowsKind.{RowsKind}
use Rattle.vs_rows.specs.declared.kind.RowsKind.TheVariants.{Insert, Update, Delete}
use Rattle.vs_rows.specs.declared.columns.RowColumn.{RowColumn}
use Rattle.vs_rows.specs.declared.table.RowTable.{RowTable}
use Rattle.vs_rows.specs.declared.table.Mapped.{Mapped}
use Rattle.vs_rows.specs.declared.table.Mapped.TheVariants as mapped
use Rattle.vs_rows.specs.declared.outcome.RowsOf.{RowsOf}
use Rattle.vs_rows.specs.declared.outcome.RowsOf.TheVariants as rows
use Rattle.vs_rows.specs.Reading.{◌>>=◌}
use Rattle.vs_rows.specs.Bits.{bit_bytes, has_bit, all_set}
use Rattle.vs_rows.specs.Layouts.{RowsSaid, cut, rows_body}
use Rattle.vs_rows.specs.Tables.{Tables, table_at}

-- what a NULL counts as
abbrev pub null_cell : RowColumn → Cell
null_cell column = if column.null_is_empty then Bytes [] else Null

-- a value's text, and what stands behind its bytes
abbrev pub told_cell : Outcome → List ℕ → Option (Cell × List ℕ)
told_cell (Ok (text, n)) bytes = Some (Bytes text, drop n bytes)
told_cell (Err refusal) bytes = None

-- the cell of a column, whose null bit is this
unfoldable pub cell_at : Bool → RowColumn → List ℕ → Option (Cell × List ℕ)
cell_at true column bytes = Some (null_cell column, bytes)
cell_at false column bytes = told_cell (value_of column.kind column.meta bytes) bytes

-- the cells of columns from a place on, by their null bits
unfoldable pub cells_at : ℕ → List ℕ → List RowColumn → List ℕ → Option (List Cell × List ℕ)
cells_at place nulls [] bytes = Some ([], bytes)
cells_at place nulls (column ∷ columns) bytes = do
  cell ← cell_at (has_bit nulls place) column bytes
  others ← cells_at (place + 1) nulls columns cell.1
  Some (cell.0 ∷ others.0, others.1)

-- An image of a row: a null bit for each column, and the values of the columns that aren't NULL.
unfoldable pub image_at : List RowColumn → List ℕ → Option (List Cell × List ℕ)
image_at columns bytes = do
  nulls ← cut (bit_bytes (length columns)) bytes
  cells_at 0 nulls.0 columns nulls.1

-- a row: its images
unfoldable pub change_at : RowsKind → RowTable → List ℕ → Option (Change × List ℕ)
change_at Insert table bytes = do
  after ← image_at table.columns bytes
  Some (record { table = table.name; before = None; after = Some after.0 }, after.1)
change_at Delete table bytes = do
  before ← image_at table.columns bytes
  Some (record { table = table.name; before = Some before.0; after = None }, before.1)
change_at Update table bytes = do
  before ← image_at table.columns bytes
  after ← image_at table.columns before.1
  Some (record { table = table.name; before = Some before.0; after = Some after.0 }, after.1)

-- rows up to the end of the bytes, at most so many; each takes some bytes
unfoldable pub changes_by : ℕ → RowsKind → RowTable → List ℕ → Option (List Change)
changes_by most kind table [] = Some []
changes_by zero kind table (b ∷ bs) = None
changes_by (suc most) kind table (b ∷ bs) = do
  change ← change_at kind table (b ∷ bs)
  others ← (if nat_lt (length change.1) (length (b ∷ bs)) then changes_by most kind table change.1 else None)
  Some (change.0 ∷ others)

-- The changes that the rows are: one behind the other, all of the bytes.
unfoldable pub changes_in : RowsKind → RowTable → List ℕ → Option (List Change)
changes_in kind table bytes = changes_by (length bytes) kind table bytes

-- each image has each column
unfoldable pub are_full : RowsKind → ℕ → List ℕ → Bool
are_full Insert width present = all_set width present
are_full Delete width present = all_set width present
are_full Update width present = all_set width present && all_set width (drop (bit_bytes width) present)

abbrev pub or_bad : List ℕ → Option (List Change) → Result (List Change) RowRefusal
or_bad name None = Err (BadRow name)
or_bad name (Some changes) = Ok changes

-- the changes of a table that isn't passed over
unfoldable pub changes_meant : RowsKind → RowTable → RowsSaid → Result (List Change) RowRefusal
changes_meant kind table said =
    if are_full kind said.width said.present
    then (if said.width == length table.columns then or_bad table.name (changes_in kind table said.rows) else Err (BadRow table.name))
    else Err (NotFullImage table.name)

abbrev pub told : (List Change → RowsOf) → Result (List Change) RowRefusal → Result RowsOf RowRefusal
told tell (Ok changes) = Ok (tell changes)
told tell (Err refusal) = Err refusal

abbrev pub rows_by : RowsKind → RowsSaid → Option Mapped → Result RowsOf RowRefusal
rows_by kind said None = Err (UnknownTableId said.id)
rows_by kind said (Some mapped.Passed) = Ok rows.Passed
rows_by kind said (Some (mapped.Counted table)) = told rows.Changes (changes_meant kind table said)
rows_by kind said (Some (mapped.Journal table)) = told rows.Journal (changes_meant kind table said)

abbrev pub rows_said : Tables → RowsKind → Option RowsSaid → Result RowsOf RowRefusal
rows_said tables kind None = Err BadBody
rows_said tables kind (Some said) = rows_by kind said (table_at tables said.id)

-- inserts, updates and deletes, by the type of their events
abbrev pub kind_of : ℕ → Option RowsKind
kind_of number = if number == 30 then Some Insert else if number == 31 then Some Update else if number == 32 then Some Delete else None

abbrev pub rows_kind : Tables → List ℕ → Option RowsKind → Result RowsOf RowRefusal
rows_kind tables body None = Err BadBody
rows_kind tables body (Some kind) = rows_said tables kind (rows_body kind body)

-- What a rows event says of tables that are known so: its changes, or that its rows are passed over; or the first refusal.
unfoldable pub rows_meant : Tables → ℕ → List ℕ → Result RowsOf RowRefusal
rows_meant tables number body = rows_kind tables body (kind_of number)
