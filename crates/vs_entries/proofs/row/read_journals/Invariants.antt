use Rattle.vs_entries.proofs.JournalLemmas.{AreReadUpTo}
use Rattle.vs_entries.proofs.row.read_journals.Given as goal

-- the journals of the first changes were read
abbrev pub invariant-loop-change : goal.invariant-loop-change
invariant-loop-change l = AreReadUpTo l.keyspace l.changes l.change-index l.journals
