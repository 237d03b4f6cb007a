use Rattle.vs_binlog.proofs.FirstWordLemmas.{each_has_one, only}
use Rattle.vs_binlog.proofs.laws.law_first_word.Goals as goal

pub returns-clause-is : goal.returns-clause-is
returns-clause-is c = each_has_one

pub returns-clause-only : goal.returns-clause-only
returns-clause-only c = only
