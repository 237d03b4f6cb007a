use Rattle.std.proofs.Common.{◌≡◌, map, take}
use Rattle.std.specs.List.{flat_map}
use Rattle.vs_base.specs.Rows.{cell_length, cell_bytes}
use Rattle.vs_vector.proofs.message.row.Given as goal

abbrev pub invariant-loop-cell : goal.invariant-loop-cell
invariant-loop-cell l = (l.lengths.items ≡ map cell_length (take l.cell-index l.cells)) × (l.values.items ≡ flat_map cell_bytes (take l.cell-index l.cells))
