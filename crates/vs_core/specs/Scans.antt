-- What is read of one lane or one shard at a time.
use Rattle.std.specs.Prelude.{ℕ, Bool, true, false, List, Option, None, slice_get}
use Rattle.std.specs.Option.{option_map_or}
use Rattle.vs_base.specs.declared.ShardName.{ShardName}
use Rattle.vs_base.specs.Names.{same_name}
use Rattle.vs_core.specs.declared.lane.LaneState.{LaneState}

abbrev pub state_if : Bool → Option LaneState → Option LaneState
state_if true state = state
state_if false state = None

-- the state of the lane, if it is one of the shard's
abbrev pub lane_state : ShardName → List ShardName → List LaneState → ℕ → Option LaneState
lane_state s names states lane = state_if (option_map_or (λ n. same_name n s) (slice_get names lane) false) (slice_get states lane)
