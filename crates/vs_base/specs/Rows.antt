-- Rows as messages carry them: the lengths of the cells in order, and their bytes one behind the other. NULL has length -1.
use Rattle.std.specs.Prelude.{ℕ, List, [], ◌∷◌, take, drop, length, ℤ, pos, negsuc}
use Rattle.vs_base.specs.declared.cell.Cell.{Cell}
use Rattle.vs_base.specs.declared.cell.Cell.TheVariants.{Null, Bytes}

abbrev pub cell_length : Cell → ℤ
cell_length Null = negsuc 0
cell_length (Bytes bytes) = pos (length bytes)

abbrev pub cell_bytes : Cell → List ℕ
cell_bytes Null = []
cell_bytes (Bytes bytes) = bytes

-- the cell of a length that stands in front of these bytes
abbrev pub cell_of : ℤ → List ℕ → Cell
cell_of (pos n) values = Bytes (take n values)
cell_of (negsuc n) values = Null

-- what stands behind it
abbrev pub behind_cell : ℤ → List ℕ → List ℕ
behind_cell (pos n) values = drop n values
behind_cell (negsuc n) values = values

-- the cells of these lengths, which have these bytes together
abbrev pub cells_of : List ℤ → List ℕ → List Cell
cells_of [] values = []
cells_of (n ∷ lengths) values = cell_of n values ∷ cells_of lengths (behind_cell n values)
