-- What is known of a lane that comes to its journal.
use Rattle.std.specs.Prelude.{◌≡◌, ◌<◌, ℕ, Bool, IsTrue, Some, Ok, length, slice_get}
use Rattle.vs_base.specs.declared.ShardName.{ShardName}
use Rattle.vs_gtid.specs.declared.JournalValue.{JournalValue}
use Rattle.vs_gtid.specs.Vectors.{stands}
use Rattle.vs_gather.specs.Gathering.{Arrived, arrival, is_complete}
use Rattle.vs_gather.specs.declared.refusal.GatherRefusal.{GatherRefusal}
use Rattle.vs_gather.specs.declared.refusal.GatherRefusal.TheVariants as gather
use Rattle.vs_core.specs.Machine.{CoreState}
use Rattle.vs_core.specs.declared.refusal.CoreRefusal.{CoreRefusal}
use Rattle.vs_core.specs.declared.refusal.CoreRefusal.TheVariants as refused

-- the arrival of the lane's shard at the journal isn't refused, and completes it or doesn't
pub record ComesTo (s : CoreState) (lane : ℕ) (j : JournalValue) (complete : Bool) : Type 0 where
  pub name : ShardName
  pub named : slice_get s.names lane ≡ Some name
  pub lane_there : lane < length s.states
  pub stands_there : IsTrue (stands s.vector name)
  pub arrived : Arrived
  pub due : arrival s.vector name j s.kept ≡ Ok arrived
  pub completes : complete ≡ is_complete arrived

-- why a turn isn't made, where an arrival is refused for this reason
abbrev pub told_refusal : GatherRefusal → CoreRefusal
told_refusal (gather.Differs id kept came) = refused.Gathering (gather.Differs id kept came)
told_refusal (gather.Clash id shard) = refused.Gathering (gather.Clash id shard)
told_refusal gather.Memory = refused.Memory
