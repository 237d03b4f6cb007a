-- The key of a last row as a message has it: the cells' lengths, and their bytes one behind the other. NULL has a negative length.
use Rattle.std.specs.Prelude.{◌≡◌, List, [], map, Option, Some, None}
use Rattle.std.specs.List.{flat_map}
use Rattle.vs_base.specs.declared.cell.Cell.{Cell}
use Rattle.vs_proto.specs.declared.row.Row.{Row}
use Rattle.vs_proto.specs.declared.vgtid.TableKey.{TableKey}
pub use Rattle.vs_base.specs.Rows.{cell_of, behind_cell, cells_of, cell_length, cell_bytes}

-- a key that is absent counts as one without cells
abbrev pub cells_in : Option Row → List Cell
cells_in None = []
cells_in (Some row) = cells_of row.lengths row.values

-- the key that a message names
abbrev pub key_cells : TableKey → List Cell
key_cells key = cells_in key.key

-- the row has these cells: their lengths in order, and their bytes one behind the other
pub record IsRowOf (row : Row) (cells : List Cell) : Type 0 where
  pub lengths : row.lengths ≡ map cell_length cells
  pub values : row.values ≡ flat_map cell_bytes cells
