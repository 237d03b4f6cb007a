use Rattle.vs_pace.proofs.ChoiceLemmas.{one_choice}
use Rattle.vs_pace.proofs.laws.law_choice.Goals as goal

pub returns : goal.returns
returns c = one_choice
