use Rattle.std.proofs.Common.{ap, ◌∙◌, arith}
use Rattle.vs_core.specs.Machine.{last_at_end}
use Rattle.vs_core.proofs.LaneStates.{last_step, states_whole}
use Rattle.vs_core.proofs.scans.last_at_end.Goals as goal

pub loop-lane-preserved : goal.loop-lane-preserved
loop-lane-preserved c =
    last_step c.args.name.now c.args.names.now c.args.states.now c.loop-lane.lane c.lane_state.result c.lane_state.ensures c.loop-lane.at_end c.ends_so-at_end.result c.loop-lane.invariant c.ends_so-at_end.ensures

pub returns : goal.returns
returns c = c.loop-lane.invariant ∙ ap last_at_end (states_whole c.args.name.now c.args.names.now c.args.states.now c.loop-lane.lane (omega arith))
