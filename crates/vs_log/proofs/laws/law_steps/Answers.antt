use Rattle.vs_log.proofs.Steps.{reads_in_steps}
use Rattle.vs_log.proofs.laws.law_steps.Goals as goal

pub returns : goal.returns
returns g c = reads_in_steps
