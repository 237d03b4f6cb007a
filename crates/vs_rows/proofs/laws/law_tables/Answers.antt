use Rattle.vs_rows.proofs.TableLemmas.{table_there, others_stay, one_behind}
use Rattle.vs_rows.proofs.laws.law_tables.Goals as goal

pub returns-clause-there : goal.returns-clause-there
returns-clause-there c = table_there

pub returns-clause-others : goal.returns-clause-others
returns-clause-others c = others_stay

pub returns-clause-behind : goal.returns-clause-behind
returns-clause-behind c = one_behind
