use Rattle.vs_log.proofs.Only.{means_by_productions}
use Rattle.vs_log.proofs.laws.law_meaning.Goals as goal

pub returns : goal.returns
returns g c = means_by_productions
