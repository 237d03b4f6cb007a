-- Keys, read as their columns are ordered.
use Rattle.std.specs.Prelude.{ℕ, Bool, ◌&&◌, nat_le, List, [], ◌∷◌, length, drop, Option, Some, None, ℤ}
use Rattle.std.specs.List.{slice_get}
use Rattle.vs_base.specs.declared.cell.Cell.{Cell}
use Rattle.vs_base.specs.declared.table.ColumnKind.{ColumnKind}
use Rattle.vs_base.specs.Cells.{row_size}
use Rattle.vs_base.specs.Numbers.{number_of}
use Rattle.vs_tables.specs.declared.key.KeyPart.{KeyPart}

-- a text, by the number that it is in its column
abbrev pub part_by : Option ℤ → List ℕ → KeyPart
part_by (Some n) text = KeyPart.Number n
part_by None text = KeyPart.Bytes text

abbrev pub part_of : ColumnKind → Cell → KeyPart
part_of kind Cell.Null = KeyPart.Null
part_of kind (Cell.Bytes text) = part_by (number_of kind text) text

-- cells without a kind count by their number alone
abbrev pub part_at : Option ColumnKind → Cell → KeyPart
part_at (Some kind) cell = part_of kind cell
part_at None cell = KeyPart.Null

-- the parts of a key
abbrev pub parts_of : List ColumnKind → List Cell → List KeyPart
parts_of kinds [] = []
parts_of kinds (cell ∷ cells) = part_at (slice_get kinds 0) cell ∷ parts_of (drop 1 kinds) cells

-- a key has at most 4,096 cells, and at most 3,072 bytes
abbrev pub fits_limits : List Cell → Bool
fits_limits key = nat_le (length key) 4096 && nat_le (row_size key) 3072
