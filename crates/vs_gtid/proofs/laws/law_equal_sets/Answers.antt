use Rattle.vs_gtid.proofs.EqualSets.{canonical_unique}
use Rattle.vs_gtid.proofs.laws.law_equal_sets.Goals as goal

pub returns : goal.returns
returns c = canonical_unique
