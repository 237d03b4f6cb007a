use Rattle.vs_entries.proofs.OverLemmas.{over_new}
use Rattle.vs_entries.proofs.reader.Reader.new.Goals as goal

pub invariant_of-result : goal.invariant_of-result
invariant_of-result c = record { over = over_new c.laws.ensures _ _ _ c.new-2.ensures c.new.ensures; fault = tt }
