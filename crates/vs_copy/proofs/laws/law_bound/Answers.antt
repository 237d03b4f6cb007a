use Rattle.vs_copy.proofs.BoundLemmas.{tells_as_bound}
use Rattle.vs_copy.proofs.ClientLemmas.{keys_are_told}
use Rattle.vs_copy.proofs.laws.law_bound.Goals as goal

pub returns-clause-tells : goal.returns-clause-tells
returns-clause-tells c = tells_as_bound

pub returns-clause-keys : goal.returns-clause-keys
returns-clause-keys c = keys_are_told
