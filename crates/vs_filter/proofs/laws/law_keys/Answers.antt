use Rattle.vs_filter.specs.Picks.{picked_in}
use Rattle.vs_filter.specs.Rules.{table_in}
use Rattle.vs_filter.proofs.KeyLemmas.{keys_stay}
use Rattle.vs_filter.proofs.OrderLemmas.{key_total}
use Rattle.vs_filter.proofs.laws.law_keys.Goals as goal

pub returns-clause-ordered : goal.returns-clause-ordered
returns-clause-ordered c = key_total

pub returns-clause-stay : goal.returns-clause-stay
returns-clause-stay c = λ tables schema taken table row. keys_stay (picked_in tables table) (table_in schema table) row (taken table)
