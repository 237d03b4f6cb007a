use Rattle.std.proofs.Common.{◌≡◌, length}
use Rattle.vs_make.proofs.same.are_same_changes.Given as goal

-- all is the same where what is left is
abbrev pub invariant-loop-left : goal.invariant-loop-left
invariant-loop-left l = l.left ≡ l.right → l.fn.a ≡ l.fn.b

abbrev pub decreases-loop-left : goal.decreases-loop-left
decreases-loop-left l = length l.left
