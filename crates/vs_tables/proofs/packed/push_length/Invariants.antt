use Rattle.std.proofs.Common.{◌≡◌, ◌++◌}
use Rattle.vs_tables.specs.Packed.{length_marks}
use Rattle.vs_tables.proofs.packed.push_length.Given as goal

abbrev pub invariant-loop-left : goal.invariant-loop-left
invariant-loop-left l = l.initial.bytes.items ++ length_marks l.length ≡ l.bytes.items ++ length_marks l.left

abbrev pub decreases-loop-left : goal.decreases-loop-left
decreases-loop-left l = l.left
