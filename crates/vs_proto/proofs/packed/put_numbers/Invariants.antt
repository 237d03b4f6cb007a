use Rattle.std.proofs.Common.{◌≡◌, ◌++◌, ◌≤◌, drop, length}
use Rattle.vs_proto.specs.Kinds.{packed_bytes}
use Rattle.vs_proto.proofs.packed.put_numbers.Given as goal

-- the last ones were written
abbrev pub invariant-loop-left : goal.invariant-loop-left
invariant-loop-left l = (l.left ≤ length l.numbers) × (l.out ≡ packed_bytes (drop l.left l.numbers) ++ l.fn.out)

abbrev pub decreases-loop-left : goal.decreases-loop-left
decreases-loop-left l = l.left
