use Rattle.std.proofs.Common.{◌≡◌, take}
use Rattle.vs_command.specs.Fetched.{entries_of}
use Rattle.vs_command.specs.Sending.{position_after}
use Rattle.vs_command.proofs.streaming.position_behind.Given as goal

-- the position is the one after the first entries
abbrev pub invariant-loop-placed : goal.invariant-loop-placed
invariant-loop-placed l = l.position ≡ position_after l.base (entries_of (take l.placed-index l.entries))
