use Rattle.std.proofs.Common.{◌≡◌, ◌++◌, drop}
use Rattle.vs_tables.specs.Packed.{marks_of}
use Rattle.vs_tables.proofs.packed.push_marks.Given as goal

abbrev pub invariant-loop-cell : goal.invariant-loop-cell
invariant-loop-cell l = l.initial.bytes.items ++ marks_of l.row ≡ l.bytes.items ++ marks_of (drop l.cell-index l.row)
