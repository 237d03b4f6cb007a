use Rattle.std.proofs.Common.{take}
use Rattle.vs_pace.specs.Heads.{IsChosen}
use Rattle.vs_pace.proofs.head.choose.Given as goal

abbrev pub invariant-loop-place : goal.invariant-loop-place
invariant-loop-place l = IsChosen l.max_skew (take l.place l.heads) l.next
