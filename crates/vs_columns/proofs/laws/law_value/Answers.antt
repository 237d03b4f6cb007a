use Rattle.vs_columns.proofs.FrontLemmas.{value_front}
use Rattle.vs_columns.proofs.laws.law_value.Goals as goal

pub returns : goal.returns
returns c = value_front
