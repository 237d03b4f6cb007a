use Rattle.vs_rows.proofs.TableLemmas.{typed_read}
use Rattle.vs_rows.proofs.laws.law_columns.Goals as goal

pub returns : goal.returns
returns c = typed_read
