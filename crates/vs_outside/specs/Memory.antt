-- The meanings of tablets in memory, by what they hold.
use Rattle.std.specs.Prelude.{◌≡◌, ℕ, Bool, ◌&&◌, not, List, map}
use Rattle.std.specs.List.{list_all}
use Rattle.std.proofs.Common.{sym, subst, lit<}
use Rattle.vs_base.specs.declared.shard_name.ShardName.{ShardName}
use Rattle.vs_outside.specs.Clusters.{Shard, ClusterBytes}
use Rattle.vs_outside.specs.Counts.{IsBelowLast}
use Rattle.vs_outside.specs.Feeds.{times}
use Rattle.vs_outside.specs.Openings.{faults_of}
use Rattle.vs_outside.specs.Scripts.{has_no_failure}
use Rattle.vs_outside.specs.declared.openings.Opening.{Opening}
use Rattle.vs_outside.specs.declared.mem_shard.Held.{Held}

abbrev pub shard_of : Held → Shard
shard_of h = record { name = h.name; log = h.log.items; schema = h.schema }

abbrev pub cluster_of : List Held → ClusterBytes
cluster_of held = map shard_of held

-- no script of the shard, used or not, holds a failure
abbrev pub holds_no_failure : Held → Bool
holds_no_failure h = list_all (λ s. has_no_failure s.items) h.scripts.items

-- no script of feeds, of fetches and of listings holds a failure
abbrev pub is_quiet : List Held → List Bool → List Bool → Bool
is_quiet held fetches lists = list_all holds_no_failure held && (list_all not fetches && list_all not lists)

-- how often the name stands among those whose fetch failed
abbrev pub failures_of : List ShardName → ShardName → ℕ
failures_of failed name = times name failed

-- each count of faults is 0
abbrev pub HaveNoFaults : List Opening → List ShardName → ℕ → Type 0
HaveNoFaults openings failed list_faults = ((n : ShardName) → faults_of openings n ≡ 0) × ((n : ShardName) → failures_of failed n ≡ 0) × (list_faults ≡ 0)

zero_below_last : (n : ℕ) → n ≡ 0 → IsBelowLast n
zero_below_last n is = subst IsBelowLast (sym is) (lit< tt)

-- such counts can be seen to rise
pub counts_below_last : (openings : List Opening) (failed : List ShardName) (list_faults : ℕ) → HaveNoFaults openings failed list_faults →
    IsBelowLast list_faults × ((n : ShardName) → IsBelowLast (faults_of openings n) × IsBelowLast (failures_of failed n))
counts_below_last openings failed list_faults (none, none_failed, none_listed) =
    (zero_below_last list_faults none_listed, λ n. (zero_below_last _ (none n), zero_below_last _ (none_failed n)))
