use Rattle.std.proofs.Common.{◌<◌, ◌∙◌, ap, sym, take, length, arith}
use Rattle.vs_gtid.specs.Joins.{added}
use Rattle.vs_command.specs.Fetched.{entries_of}
use Rattle.vs_command.proofs.SizeLemmas.{entries_of-next}
use Rattle.vs_command.proofs.SendLemmas.{position_after-more}
use Rattle.vs_command.proofs.streaming.position_behind.Goals as goal

pub loop-placed-preserved : goal.loop-placed-preserved
loop-placed-preserved c =
    let inside : c.loop-placed.placed-index < length c.args.entries.now = omega arith in
    let more = entries_of-next c.args.entries.now c.loop-placed.placed-index c.placed-item.result inside c.placed-item.is in
    rw more (c.in-Ok.ensures.ok ∙ ap (λ q. added q c.placed-item.result.entry.gtid) c.loop-placed.invariant ∙ sym (position_after-more c.args.base.now (entries_of (take c.loop-placed.placed-index c.args.entries.now)) c.placed-item.result.entry))
