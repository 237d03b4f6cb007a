use Rattle.vs_journal.proofs.WrittenLaws.{written_is_read}
use Rattle.vs_journal.proofs.laws.law_written.Goals as goal

pub returns : goal.returns
returns c = written_is_read
