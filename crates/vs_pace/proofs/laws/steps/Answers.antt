use Rattle.vs_pace.proofs.ChoiceLemmas.{one_more}
use Rattle.vs_pace.proofs.laws.steps.Goals as goal

pub returns : goal.returns
returns c = one_more
