use Rattle.vs_log.proofs.Faults.{grows}
use Rattle.vs_log.proofs.laws.law_growth.Goals as goal

pub returns : goal.returns
returns g c = grows
