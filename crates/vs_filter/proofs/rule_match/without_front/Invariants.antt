use Rattle.std.proofs.Common.{◌≡◌, length}
use Rattle.vs_filter.specs.Fits.{behind_slashes}
use Rattle.vs_filter.proofs.rule_match.without_front.Given as goal

abbrev pub invariant-loop-first : goal.invariant-loop-first
invariant-loop-first l = behind_slashes l.left ≡ behind_slashes l.text

abbrev pub decreases-loop-first : goal.decreases-loop-first
decreases-loop-first l = length l.left
