use Rattle.vs_make.proofs.LogLaws.{writes_statements}
use Rattle.vs_make.proofs.laws.law_statements.Goals as goal

pub returns : goal.returns
returns c = writes_statements
