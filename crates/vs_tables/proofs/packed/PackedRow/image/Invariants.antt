use Rattle.std.proofs.Common.{◌≡◌, ◌++◌, drop}
use Rattle.vs_tables.specs.Packed.{cells_of}
use Rattle.vs_tables.proofs.packed.PackedRow.image.Given as goal

abbrev pub invariant-loop-mark : goal.invariant-loop-mark
invariant-loop-mark l = l.self ≡ l.image ++ cells_of l.text (drop l.mark-index l.marks) l.left
