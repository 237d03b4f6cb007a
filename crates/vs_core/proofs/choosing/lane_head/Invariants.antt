use Rattle.std.proofs.Common.{◌≡◌, None, take}
use Rattle.vs_core.specs.Choices.{lane_head}
use Rattle.vs_core.proofs.choosing.lane_head.Given as goal

abbrev pub invariant-loop-place : goal.invariant-loop-place
invariant-loop-place l = lane_head l.lane (take l.place l.held.items) ≡ None
