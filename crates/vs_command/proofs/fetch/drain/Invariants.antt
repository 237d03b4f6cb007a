use Rattle.std.proofs.Common.{◌-◌, length}
use Rattle.vs_entries.specs.Pieces.{log_fed}
use Rattle.vs_command.specs.Fetched.{HasGiven, IsSameLog}
use Rattle.vs_command.proofs.fetch.drain.Given as goal

-- what the reader gave is there
abbrev pub invariant-entries : goal.invariant-entries
invariant-entries l = record {
  given : HasGiven l.reader l.entries;
  same : IsSameLog l.initial.reader l.reader;
}

-- the entries that it has not given yet
abbrev pub decreases-entries : goal.decreases-entries
decreases-entries l = length (log_fed l.reader).entries - l.reader.given
