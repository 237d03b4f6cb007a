use Rattle.std.proofs.Common.{◌≡◌, take}
use Rattle.std.specs.List.{list_any}
use Rattle.vs_core.specs.Choices.{held_of}
use Rattle.vs_core.specs.Machine.{ends_lane}
use Rattle.vs_core.proofs.permits.has_end.Given as goal

abbrev pub invariant-loop-place : goal.invariant-loop-place
invariant-loop-place l = l.ends ≡ list_any ends_lane (held_of l.lane (take l.place l.held.items))
