use Rattle.std.proofs.Common.{◌≡◌, ◌≤◌, length, take}
use Rattle.std.specs.List.{filter}
use Rattle.vs_core.specs.Machine.{is_failed, states_of}
use Rattle.vs_core.proofs.scans.failures.Given as goal

abbrev pub invariant-loop-lane : goal.invariant-loop-lane
invariant-loop-lane l = (l.failed ≡ length (filter is_failed (states_of l.name (take l.lane l.names) (take l.lane l.states)))) × (l.failed ≤ l.lane)
