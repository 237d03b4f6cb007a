use Rattle.std.proofs.Common.{◌≡◌, length}
use Rattle.vs_filter.specs.Fits.{before_slashes}
use Rattle.vs_filter.proofs.rule_match.without_end.Given as goal

abbrev pub invariant-loop-last : goal.invariant-loop-last
invariant-loop-last l = before_slashes l.left ≡ before_slashes l.text

abbrev pub decreases-loop-last : goal.decreases-loop-last
decreases-loop-last l = length l.left
