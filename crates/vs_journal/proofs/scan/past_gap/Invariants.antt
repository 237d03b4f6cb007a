use Rattle.std.proofs.Common.{◌≡◌, length, false}
use Rattle.vs_journal.specs.Tokens.{past_gap}
use Rattle.vs_journal.proofs.scan.past_gap.Given as goal

-- what is left decides
abbrev pub invariant-loop-left : goal.invariant-loop-left
invariant-loop-left l = past_gap l.comment l.left ≡ past_gap false l.text

abbrev pub decreases-loop-left : goal.decreases-loop-left
decreases-loop-left l = length l.left
