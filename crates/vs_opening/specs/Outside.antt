-- What a call that lists shards leaves of the tablets.
use Rattle.std.specs.Prelude.{◌≡◌, ◌≤◌, ℕ, Bool, IsTrue, List, Option}
use Rattle.vs_base.specs.declared.ShardName.{ShardName}
use Rattle.vs_outside.specs.Clusters.{ClusterBytes}
use Rattle.vs_outside.specs.Counts.{KeepsCounts}

-- Nothing changed but how many listings failed: that count didn't fall, and where nothing can fail it stayed.
pub record OnlyLists {T : Type 0} (cluster : T → Option ClusterBytes) (opened : T → List ShardName) (returned faults waits open_faults : T → ShardName → ℕ) (list_faults pattern_faults : T → ℕ) (folder : T → List ℕ) (sound : T → Bool) (old new : T) : Type 0 where
  pub same_cluster : cluster new ≡ cluster old
  pub same_opened : opened new ≡ opened old
  pub same_returned : KeepsCounts (returned old) (returned new)
  pub same_faults : KeepsCounts (faults old) (faults new)
  pub same_waits : KeepsCounts (waits old) (waits new)
  pub same_open_faults : KeepsCounts (open_faults old) (open_faults new)
  pub later : list_faults old ≤ list_faults new
  pub steady : IsTrue (sound old) → list_faults new ≡ list_faults old
  pub same_pattern_faults : pattern_faults new ≡ pattern_faults old
  pub same_folder : folder new ≡ folder old
  pub same_sound : sound new ≡ sound old
