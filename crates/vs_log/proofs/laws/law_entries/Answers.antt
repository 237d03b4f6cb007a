use Rattle.vs_log.proofs.Steps.{tells_entries}
use Rattle.vs_log.proofs.laws.law_entries.Goals as goal

pub returns : goal.returns
returns g c = tells_entries
