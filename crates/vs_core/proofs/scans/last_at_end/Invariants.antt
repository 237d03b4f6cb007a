use Rattle.std.proofs.Common.{◌≡◌, take}
use Rattle.vs_core.specs.Machine.{last_at_end, states_of}
use Rattle.vs_core.proofs.scans.last_at_end.Given as goal

abbrev pub invariant-loop-lane : goal.invariant-loop-lane
invariant-loop-lane l = l.at_end ≡ last_at_end (states_of l.name (take l.lane l.names) (take l.lane l.states))
