use Rattle.vs_gtid.proofs.JoinLemmas.{has-added}
use Rattle.vs_gtid.proofs.laws.law_added.Goals as goal

pub returns : goal.returns
returns c = has-added
