use Rattle.std.proofs.Common.{◌∙◌}
use Rattle.std.proofs.lemmas.Result.{IfOk-weaker}
use Rattle.vs_vector.proofs.ChangeLemmas.{all-stay}
use Rattle.vs_vector.proofs.vector.Vector.copy.Goals as goal

pub returns : goal.returns
returns c = IfOk-weaker c.copy_without.result _ _ (λ v e. e ∙ all-stay c.args.self.now) c.copy_without.ensures
