use Rattle.vs_core.proofs.NextLemmas.{front_next, next_is, none_next}
use Rattle.vs_core.proofs.laws.law_next.Goals as goal

pub returns-clause-chosen : goal.returns-clause-chosen
returns-clause-chosen c = λ skew lanes held place head next at. next_is skew lanes held place head next at

pub returns-clause-front : goal.returns-clause-front
returns-clause-front c = λ lanes lane piece held less. front_next lanes lane piece held less

pub returns-clause-none : goal.returns-clause-none
returns-clause-none c = λ skew lanes held none. none_next skew lanes held none
