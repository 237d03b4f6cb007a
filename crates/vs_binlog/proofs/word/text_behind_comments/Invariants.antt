use Rattle.std.proofs.Common.{◌≡◌, ◌≤◌, length, drop, ◌-◌, false}
use Rattle.vs_binlog.specs.Words.{behind}
use Rattle.vs_binlog.proofs.word.text_behind_comments.Given as goal

abbrev pub invariant-loop-at : goal.invariant-loop-at
invariant-loop-at l = (l.at ≤ length l.text) × (behind l.inside (drop l.at l.text) ≡ behind false l.text)

abbrev pub decreases-loop-at : goal.decreases-loop-at
decreases-loop-at l = length l.text - l.at
