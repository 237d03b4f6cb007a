use Rattle.vs_make.proofs.RowLaws.{writes_transactions}
use Rattle.vs_make.proofs.laws.law_transactions.Goals as goal

pub returns : goal.returns
returns c = writes_transactions
