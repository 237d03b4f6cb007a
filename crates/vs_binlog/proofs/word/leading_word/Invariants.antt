use Rattle.std.proofs.Common.{◌≡◌, ◌≤◌, ◌++◌, length, take, drop, ◌-◌}
use Rattle.std.specs.List.{take_while}
use Rattle.vs_binlog.specs.Words.{is_word}
use Rattle.vs_binlog.proofs.word.leading_word.Given as goal

abbrev pub invariant-loop-length : goal.invariant-loop-length
invariant-loop-length l = (l.length ≤ length l.text) × (take_while is_word l.text ≡ take l.length l.text ++ take_while is_word (drop l.length l.text))

abbrev pub decreases-loop-length : goal.decreases-loop-length
decreases-loop-length l = length l.text - l.length
