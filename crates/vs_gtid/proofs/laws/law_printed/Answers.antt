use Rattle.std.proofs.Common.{[], refl, inl, inr}
use Rattle.vs_gtid.specs.SetTexts.{prefix}
use Rattle.vs_gtid.proofs.PrintedLemmas.{printed}
use Rattle.vs_gtid.proofs.laws.law_printed.Goals as goal

pub returns : goal.returns
returns c = record { set = λ p c few. printed [] p (inl refl) c few; position = λ p c few. printed prefix p (inr refl) c few }
