use Rattle.std.proofs.Common.{◌≡◌, ◌++◌, ◌≤◌, drop, length, map}
use Rattle.vs_wire.specs.Fields.{sized}
use Rattle.vs_proto.specs.Shapes.{values_bytes}
use Rattle.vs_proto.proofs.text.put_texts.Given as goal

-- the last ones were written
abbrev pub invariant-loop-left : goal.invariant-loop-left
invariant-loop-left l = (l.left ≤ length l.texts) × (l.out ≡ values_bytes l.field (map sized (drop l.left l.texts)) ++ l.fn.out)

abbrev pub decreases-loop-left : goal.decreases-loop-left
decreases-loop-left l = l.left
