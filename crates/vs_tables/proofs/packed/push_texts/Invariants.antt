use Rattle.std.proofs.Common.{◌≡◌, ◌++◌, drop}
use Rattle.vs_tables.specs.Packed.{texts_of}
use Rattle.vs_tables.proofs.packed.push_texts.Given as goal

abbrev pub invariant-loop-cell : goal.invariant-loop-cell
invariant-loop-cell l = l.initial.bytes.items ++ texts_of l.row ≡ l.bytes.items ++ texts_of (drop l.cell-index l.row)
