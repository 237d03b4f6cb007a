-- Which first vectors a request may have, and which head of the shards' pieces is sent next.
use Rattle.std.specs.Prelude.{◌≡◌, ℕ, ◌<◌, ◌≤◌, Bool, true, List, [], ◌∷◌, map, length, take, nat_eq, slice_index, if◌then◌else◌}
use Rattle.std.specs.List.{filter, flat_map, AllZip}
use Rattle.std.specs.BTreeSet.{insert_key}
use Rattle.std.specs.Ordering.{nat_cmp}
use Rattle.std.specs.Cmp.Lexicographic.{pointwise, slice_cmp}
use Rattle.std.specs.declared.cmp.Ordering.{Ordering}
use Rattle.vs_base.specs.declared.ShardName.{ShardName}
use Rattle.vs_base.specs.declared.LastKey.{LastKey}
use Rattle.vs_base.specs.Names.{names_differ}
use Rattle.vs_model.specs.Names.{Position}
use Rattle.vs_model.specs.Logs.{Cluster, Log, log_of, IsPositionAfter}
use Rattle.vs_gtid.specs.Vectors.{Place, Vector, IsCanonicalVector, names}
use Rattle.vs_gtid.specs.Vectors.Place.{Fresh, Copying, Streaming}

-- from where a shard is asked for: a copy, a copy that goes on, a position, or the log's end
pub data StartAt : Type 0 where
  FromCopy : StartAt
  FromKey : (position : Position) (last : LastKey) → StartAt
  From : (position : Position) → StartAt
  FromEnd : StartAt

-- an entry of a request: one shard, or all shards of a keyspace
pub data Wanted : Type 0 where
  OneShard : (name : ShardName) (start : StartAt) → Wanted
  AllShards : (keyspace : List ℕ) (start : StartAt) → Wanted

-- which of two shards comes first, by the bytes of their names
abbrev pub by_shard : ShardName → ShardName → Ordering
by_shard s t = slice_cmp nat_cmp s.shard t.shard

-- shards of a keyspace, ascending by the bytes of their names, each once
abbrev pub ascending : List ShardName → List ShardName
ascending [] = []
ascending (s ∷ names) = insert_key by_shard (ascending names) s

abbrev pub is_of : List ℕ → ShardName → Bool
is_of keyspace s = pointwise nat_eq s.keyspace keyspace

-- the shards of a keyspace, whatever the order of the cluster
abbrev pub shards_of : Cluster → List ℕ → List ShardName
shards_of cluster keyspace = ascending (filter (is_of keyspace) (map (λ c. c.0) cluster))

-- each shard that an entry asks for, and from where
abbrev pub asked_by : Cluster → Wanted → List (ShardName × StartAt)
asked_by cluster (OneShard name start) = (name, start) ∷ []
asked_by cluster (AllShards keyspace start) = map (λ s. (s, start)) (shards_of cluster keyspace)

-- each shard that a request asks for, in the order of its entries
abbrev pub asked : Cluster → List Wanted → List (ShardName × StartAt)
asked cluster request = flat_map (asked_by cluster) request

-- the log's end is any position that the log had while it was read: its base and its first entries
abbrev pub StartsAt : Log → Place → StartAt → Type 0
StartsAt log place FromCopy = place ≡ Fresh
StartsAt log place (FromKey p l) = place ≡ Copying p l
StartsAt log place (From p) = place ≡ Streaming p
StartsAt log place FromEnd = (p : Position) × (m : ℕ) × (place ≡ Streaming p) × IsPositionAfter log.base (take m log.entries) p

abbrev pub StartsAsAsked : Cluster → (ShardName × Place) → (ShardName × StartAt) → Type 0
StartsAsAsked cluster slot want = (slot.0 ≡ want.0) × StartsAt (log_of cluster slot.0) slot.1 want.1

-- v0 is a first vector of the request: the shards that it asks for, each at a start that it asks for, and no shard twice
pub record First (cluster : Cluster) (request : List Wanted) (v0 : Vector) : Type 0 where
  pub starts : AllZip (StartsAsAsked cluster) v0 (asked cluster request)
  pub differ : names_differ (names v0) ≡ true
  pub canonical : IsCanonicalVector v0

-- the oldest unsent piece of a lane: when it was taken, and its time
pub record Head : Type 0 where
  pub taken : ℕ
  pub time : ℕ

-- by the order of taking, or with a skew by time
abbrev pub rank_of : ℕ → Head → ℕ
rank_of max_skew h = if nat_eq max_skew 0 then h.taken else h.time

-- the head at i is the first of those of least rank
pub record IsChosen (max_skew : ℕ) (heads : List Head) (i : ℕ) : Type 0 where
  pub within : i < length heads
  pub least : (k : ℕ) → k < length heads → slice_index (map (rank_of max_skew) heads) i ≤ slice_index (map (rank_of max_skew) heads) k
  pub first : (k : ℕ) → k < i → slice_index (map (rank_of max_skew) heads) i < slice_index (map (rank_of max_skew) heads) k
