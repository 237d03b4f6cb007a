use Rattle.vs_log.proofs.Longest.{of_whole_log}
use Rattle.vs_log.proofs.laws.law_longest.Goals as goal

pub returns : goal.returns
returns g c = of_whole_log
