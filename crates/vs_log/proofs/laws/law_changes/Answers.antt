use Rattle.vs_log.proofs.Complete.{rows_work}
use Rattle.vs_log.proofs.laws.law_changes.Goals as goal

pub returns : goal.returns
returns c = rows_work
