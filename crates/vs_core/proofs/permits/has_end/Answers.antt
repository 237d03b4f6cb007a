use Rattle.std.proofs.Common.{length, refl, arith}
use Rattle.std.proofs.lemmas.Option.{slice_get_read}
use Rattle.vs_core.specs.Machine.{ends_lane}
use Rattle.vs_core.proofs.ScanLemmas.{held_step}
use Rattle.vs_core.proofs.permits.has_end.Goals as goal

pub loop-place-preserved : goal.loop-place-preserved
loop-place-preserved c =
    let held = c.args.held.now.items in
    let x = c.index.result.now in
    held_step c.args.lane ends_lane held c.loop-place.place x c.loop-place.ends c.ends_with-ends.result
    (slice_get_read held (length held) c.loop-place.place x refl (omega (arith, c.args.held.now.ok.0)) c.index.ensures)
    c.loop-place.invariant c.ends_with-ends.ensures
