use Rattle.std.proofs.Common.{take}
use Rattle.vs_request.specs.Entries.{AreWanted}
use Rattle.vs_request.proofs.entry.read_entries.Given as goal

-- the entries so far have no fault, and ask for these
abbrev pub invariant-loop-index : goal.invariant-loop-index
invariant-loop-index l = AreWanted (take l.index l.entries) l.wanted.items
