use Rattle.std.proofs.Common.{◌≡◌, true}
use Rattle.vs_rows.specs.Bits.{all_set}
use Rattle.vs_rows.proofs.bits.all_set.Given as goal

abbrev pub invariant-loop-place : goal.invariant-loop-place
invariant-loop-place l = all_set l.place l.bytes ≡ true
