use Rattle.vs_opening.proofs.LawLemmas.{none_asked, one_asked}
use Rattle.vs_opening.proofs.laws.law_asked.Goals as goal

pub returns-clause-one : goal.returns-clause-one
returns-clause-one c = one_asked

pub returns-clause-known : goal.returns-clause-known
returns-clause-known c = none_asked
