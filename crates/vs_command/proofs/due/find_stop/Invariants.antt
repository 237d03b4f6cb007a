use Rattle.std.proofs.Common.{take}
use Rattle.vs_command.specs.Fetched.{entries_of}
use Rattle.vs_command.specs.Sending.{lacking}
use Rattle.vs_command.proofs.StopLemmas.{NoneOwn}
use Rattle.vs_command.proofs.due.find_stop.Given as goal

-- no journal of the shard's own is among the first entries that the start lacks
abbrev pub invariant-loop-count : goal.invariant-loop-count
invariant-loop-count l = NoneOwn l.name (lacking l.start (entries_of (take l.count l.entries)))
