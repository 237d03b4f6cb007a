use Rattle.vs_make.proofs.LogLaws.{writes_bases}
use Rattle.vs_make.proofs.laws.law_bases.Goals as goal

pub returns : goal.returns
returns c = writes_bases
