use Rattle.vs_select.proofs.NoneLaws.{selects_are_productions}
use Rattle.vs_select.proofs.laws.law_selects.Goals as goal

pub returns : goal.returns
returns c = selects_are_productions
