use Rattle.vs_make.proofs.JournalLaws.{writes_journals}
use Rattle.vs_make.proofs.laws.law_journals.Goals as goal

pub returns : goal.returns
returns c = writes_journals
