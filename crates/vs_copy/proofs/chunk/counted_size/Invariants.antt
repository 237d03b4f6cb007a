use Rattle.std.proofs.Common.{◌≡◌, ◌+◌, ◌≤◌, drop, min}
use Rattle.vs_base.specs.Cells.{row_size}
use Rattle.vs_copy.proofs.chunk.counted_size.Given as goal

abbrev pub invariant-loop-cell : goal.invariant-loop-cell
invariant-loop-cell l = (min (row_size l.cells) 4194305 ≡ min (l.size + row_size (drop l.cell-index l.cells)) 4194305) × (l.size ≤ 4194305)
