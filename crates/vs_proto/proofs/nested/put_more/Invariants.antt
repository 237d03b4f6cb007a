use Rattle.std.proofs.Common.{◌≡◌, ◌++◌, ◌≤◌, drop, length}
use Rattle.vs_proto.specs.Shapes.{all_set, values_bytes}
use Rattle.vs_proto.proofs.nested.put_more.Given as goal

-- the last ones were written
abbrev pub invariant-loop-left : goal.invariant-loop-left
invariant-loop-left g l = (l.left ≤ length l.messages) × (l.out ≡ values_bytes l.field (all_set g.M.Message.shape (drop l.left l.messages)) ++ l.fn.out)

abbrev pub decreases-loop-left : goal.decreases-loop-left
decreases-loop-left g l = l.left
