use Rattle.vs_journal.proofs.TextLaws.{journals_are_productions}
use Rattle.vs_journal.proofs.laws.law_journal_texts.Goals as goal

pub returns : goal.returns
returns c = journals_are_productions
