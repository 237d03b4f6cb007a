use Rattle.std.proofs.Common.{◌≡◌, drop}
use Rattle.vs_proto.specs.Cells.{cells_fill}
use Rattle.vs_proto.proofs.CellLemmas.{taken}
use Rattle.vs_proto.proofs.cells.is_filled.Given as goal

-- the other cells fill what is left exactly where all cells fill all bytes
abbrev pub invariant-loop-length : goal.invariant-loop-length
invariant-loop-length l = taken (drop l.length-index l.lengths) l.left ≡ cells_fill l.lengths l.count
