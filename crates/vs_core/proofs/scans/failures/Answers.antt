use Rattle.std.proofs.Common.{length, ap, sym, ◌∙◌, arith}
use Rattle.std.specs.List.{filter}
use Rattle.vs_core.specs.Machine.{is_failed}
use Rattle.vs_core.proofs.LaneStates.{failed_step, same_step, states_whole}
use Rattle.vs_core.proofs.scans.failures.Goals as goal
use Rattle.vs_core.proofs.scans.failures.Goals.{then-has_failed, else-has_failed}

pub loop-lane-preserved : goal.loop-lane-preserved
loop-lane-preserved c = elim c.if-has_failed.branch [
  | then-has_failed w ↦ (
    failed_step c.args.name.now c.args.names.now c.args.states.now c.loop-lane.lane c.lane_state.result c.lane_state.ensures c.loop-lane.failed c.if-has_failed.failed c.loop-lane.invariant.0
        (sym c.has_failed.ensures ∙ w.if-has_failed.true) w.failed-is,
    omega (arith, c.loop-lane.invariant.1, w.failed-is),
  )
  | else-has_failed w ↦ (
    same_step c.args.name.now c.args.names.now c.args.states.now c.loop-lane.lane c.lane_state.result c.lane_state.ensures c.loop-lane.failed c.if-has_failed.failed c.loop-lane.invariant.0
        (sym c.has_failed.ensures ∙ w.if-has_failed.false) w.failed-is,
    omega (arith, c.loop-lane.invariant.1, w.failed-is),
  )
]

pub returns : goal.returns
returns c = c.loop-lane.invariant.0 ∙ ap (λ l. length (filter is_failed l)) (states_whole c.args.name.now c.args.names.now c.args.states.now c.loop-lane.lane (omega arith))
