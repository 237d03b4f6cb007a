-- How many bytes cells have, and which keys are within the limits.
use Rattle.std.specs.Prelude.{ℕ, ◌≤◌, List, length}
use Rattle.std.specs.List.{sum_by}
use Rattle.vs_base.specs.declared.cell.Cell.{Cell}
use Rattle.vs_base.specs.declared.cell.Cell.TheVariants.{Null, Bytes}

abbrev pub cell_size : Cell → ℕ
cell_size Null = 0
cell_size (Bytes bytes) = length bytes

-- the bytes of the cells together
abbrev pub row_size : List Cell → ℕ
row_size cells = sum_by cell_size cells

-- these may be the parts of a last key
abbrev pub FitsKey : List ℕ → List Cell → Type 0
FitsKey table key = (length table ≤ 64) × (length key ≤ 4096) × (row_size key ≤ 3072)
