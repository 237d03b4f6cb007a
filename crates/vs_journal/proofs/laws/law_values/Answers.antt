use Rattle.vs_journal.proofs.ValueLaws.{journals_are_values}
use Rattle.vs_journal.proofs.laws.law_values.Goals as goal

pub returns : goal.returns
returns c = journals_are_values
