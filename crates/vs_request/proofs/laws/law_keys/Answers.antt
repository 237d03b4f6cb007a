use Rattle.vs_request.proofs.KeyLemmas.{row-cells}
use Rattle.vs_request.proofs.laws.law_keys.Goals as goal

pub returns : goal.returns
returns c = row-cells
