use Rattle.vs_rows.proofs.RowGrammar.{rows_read}
use Rattle.vs_rows.proofs.laws.law_rows.Goals as goal

pub returns : goal.returns
returns c = rows_read
