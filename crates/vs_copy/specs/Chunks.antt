-- The rows that a copy tells next.
use Rattle.std.specs.Prelude.{◌≡◌, ℕ, zero, suc, ◌+◌, ◌-◌, ◌==◌, Bool, ◌&&◌, ◌||◌, nat_le, nat_lt, List, [], ◌∷◌, map, length, Option, Some, None}
use Rattle.std.specs.List.{filter_map, find, last_or}
use Rattle.std.specs.Option.{option_map, option_map_or}
use Rattle.std.specs.Ordering.{nat_cmp}
use Rattle.std.specs.Cmp.Lexicographic.{slice_cmp}
use Rattle.std.specs.declared.cmp.Ordering.{Ordering}
use Rattle.std.specs.declared.cmp.Ordering.TheVariants.{Less, Equal, Greater}
use Rattle.vs_base.specs.declared.cell.Cell.{Cell}
use Rattle.vs_base.specs.declared.change.LastKey.{LastKey}
use Rattle.vs_base.specs.Cells.{row_size}
use Rattle.vs_base.specs.Keys.{project}
use Rattle.vs_select.specs.Rows.{taken_row}
use Rattle.vs_model.specs.Copy.{chunk_of, within_limits}
use Rattle.vs_tables.specs.Rows.{TableRows}
use Rattle.vs_tables.specs.Changes.{rows_in}
use Rattle.vs_copy.specs.Copying.{CopyState, copied_in}
use Rattle.vs_copy.specs.declared.copied.CopiedTable.{CopiedTable}
use Rattle.vs_copy.specs.declared.chunk.ChunkRows.{ChunkRows}

-- a chunk has the rows of a table that come next, and the key of the last of them
pub record HasNext (next : Option (List ℕ × List (List Cell × List Cell))) (chunk : ChunkRows) : Type 0 where
  pub front : List (List Cell × List Cell)
  pub next_is : next ≡ Some (chunk.table, front)
  pub rows : chunk.rows ≡ map (λ row. row.1) front
  pub last : last_or None (map (λ row. row.0) front) ≡ Some chunk.last_key.key
  pub of_table : chunk.last_key.table ≡ chunk.table

-- there is a chunk exactly where rows come next
abbrev pub TellsNext : Option (List ℕ × List (List Cell × List Cell)) → Option ChunkRows → Type 0
TellsNext next None = next ≡ None
TellsNext next (Some chunk) = HasNext next chunk

-- a copy after a chunk: the last row that was sent is that of the chunk
abbrev pub state_after : CopyState → Option ChunkRows → CopyState
state_after s None = s
state_after s (Some chunk) = record s { last = Some chunk.last_key }

-- ---- the same by the rows of the tables

-- a row as it is told, with its key; none where it isn't picked
abbrev pub told_row : CopiedTable → List Cell → Option (List Cell × List Cell)
told_row t row = option_map (λ told. (project t.table.key row, told)) (taken_row t.picked.select row)

abbrev pub listed : Option (List (List Cell)) → List (List Cell)
listed None = []
listed (Some rows) = rows

-- the rows of a table behind the last row that was sent, by how its name stands to that row's table
abbrev pub rows_left_by : List TableRows → List ℕ → LastKey → Ordering → List (List Cell)
rows_left_by tables name l Less = []
rows_left_by tables name l Equal = listed (rows_in tables name (Some l.key))
rows_left_by tables name l Greater = listed (rows_in tables name None)

abbrev pub rows_left_of : List TableRows → List ℕ → Option LastKey → List (List Cell)
rows_left_of tables name None = listed (rows_in tables name None)
rows_left_of tables name (Some l) = rows_left_by tables name l (slice_cmp nat_cmp name l.table)

abbrev pub rows_left : CopyState → List ℕ → List (List Cell)
rows_left s name = rows_left_of s.applied.tables name s.last

-- these rows as they are told
abbrev pub told_left : CopyState → List ℕ → List (List Cell × List Cell)
told_left s name = option_map_or (λ t. filter_map (told_row t) (rows_left s name)) (copied_in s.copied name) []

-- the rows of the first of these tables that has some
abbrev pub next_in : CopyState → List (List ℕ) → Option (List ℕ × List (List Cell × List Cell))
next_in s names =
    option_map {T = List ℕ × List (List Cell × List Cell)} (λ t. (t.0, chunk_of t.1))
    (find (λ t. nat_le 1 (length t.1)) (map (λ name. (name, told_left s name)) names))

abbrev pub next_told : CopyState → Option (List ℕ × List (List Cell × List Cell))
next_told s = next_in s (map (λ t. t.picked.name) s.copied)

-- a chunk of a table, by its rows that are left
pub record IsChunkOf (name : List ℕ) (rows : List (List Cell × List Cell)) (chunk : ChunkRows) : Type 0 where
  pub table : chunk.table ≡ name
  pub rows_are : chunk.rows ≡ map (λ row. row.1) (chunk_of rows)
  pub last : last_or None (map (λ row. row.0) (chunk_of rows)) ≡ Some chunk.last_key.key
  pub of_table : chunk.last_key.table ≡ name

abbrev pub ChunkIs : List ℕ → List (List Cell × List Cell) → Option ChunkRows → Type 0
ChunkIs name rows None = rows ≡ []
ChunkIs name rows (Some chunk) = IsChunkOf name rows chunk

-- whether a chunk of so many rows and bytes has room for one row more, of so many
abbrev pub has_room : ℕ → ℕ → ℕ → Bool
has_room count size more = (count == 0) || (nat_lt count 100 && nat_le (size + more) 4194304)

-- the rows that a chunk of so many rows and bytes may still have
abbrev pub room_for : ℕ → ℕ → List (List Cell × List Cell) → List (List Cell × List Cell)
room_for zero size [] = []
room_for zero size (row ∷ rows) = row ∷ within_limits 99 (size + row_size row.1) rows
room_for (suc n) size rows = within_limits (99 - n) size rows
