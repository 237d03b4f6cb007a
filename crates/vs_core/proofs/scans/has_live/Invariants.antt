use Rattle.std.proofs.Common.{◌≡◌, take}
use Rattle.std.specs.List.{list_any}
use Rattle.vs_core.specs.Machine.{is_live, states_of}
use Rattle.vs_core.proofs.scans.has_live.Given as goal

abbrev pub invariant-loop-lane : goal.invariant-loop-lane
invariant-loop-lane l = l.live ≡ list_any is_live (states_of l.name (take l.lane l.names) (take l.lane l.states))
