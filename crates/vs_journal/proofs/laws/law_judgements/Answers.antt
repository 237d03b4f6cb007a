use Rattle.vs_journal.proofs.NameLaws.{judgements_are_names}
use Rattle.vs_journal.proofs.laws.law_judgements.Goals as goal

pub returns : goal.returns
returns c = judgements_are_names
