use Rattle.std.proofs.Common.{◌||◌, ap, ◌∙◌, arith}
use Rattle.std.specs.List.{list_any}
use Rattle.vs_core.specs.Machine.{is_live}
use Rattle.vs_core.proofs.LaneStates.{live_step, states_whole}
use Rattle.vs_core.proofs.scans.has_live.Goals as goal

pub loop-lane-preserved : goal.loop-lane-preserved
loop-lane-preserved c =
    live_step c.args.name.now c.args.names.now c.args.states.now c.loop-lane.lane c.lane_state.result c.lane_state.ensures c.loop-lane.live c.either-live.result c.loop-lane.invariant
    (c.either-live.ensures ∙ ap (λ b. c.loop-lane.live || b) c.is_live.ensures)

pub returns : goal.returns
returns c = c.loop-lane.invariant ∙ ap (list_any is_live) (states_whole c.args.name.now c.args.names.now c.args.states.now c.loop-lane.lane (omega arith))
