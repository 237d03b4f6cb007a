use Rattle.std.proofs.Common.{◌∙◌, sym}
use Rattle.vs_gtid.specs.Readings.{read}
use Rattle.vs_gtid.proofs.ReadingLemmas.{only, reads}
use Rattle.vs_gtid.proofs.laws.law_readings.Goals as goal

pub returns : goal.returns
returns c = record { one = λ text r s h k. only text r h ∙ sym (only text s k); some = λ text. (read text, reads text) }
