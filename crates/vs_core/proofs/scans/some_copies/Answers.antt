use Rattle.vs_gtid.specs.Vectors.{names}
use Rattle.vs_model.specs.Core.{copies_in}
use Rattle.vs_core.proofs.ScanLemmas.{some_step}
use Rattle.vs_core.proofs.scans.some_copies.Goals as goal

pub loop-i-preserved : goal.loop-i-preserved
loop-i-preserved c =
    some_step (copies_in c.args.vector.now) (names c.args.vector.now) c.loop-i.i c.loop-i.copying c.either-copying.result c.copies_at.result c.loop-i.invariant c.copies_at.ensures c.either-copying.ensures
