-- Which shards a stream comes to, and where it ends.
use Rattle.std.specs.Prelude.{◌≡◌, ◌≢◌, ◌⊎◌, List, [], ◌∷◌, ◌++◌, map, Some, None, IsTrue, IsFalse}
use Rattle.std.specs.List.{AllByRecursion, AllZip, Contains, IsDistinct}
use Rattle.vs_base.specs.declared.ShardName.{ShardName}
use Rattle.vs_gtid.specs.declared.JournalValue.{JournalValue}
use Rattle.vs_gtid.specs.declared.Entry.{Entry}
use Rattle.vs_model.specs.Names.{Position, SameSet, IsSubset, same_name, is_in}
use Rattle.vs_model.specs.Logs.{Cluster, journal_of, log_of, due, stop, IsPositionAfter}
use Rattle.vs_gtid.specs.Vectors.{Vector, Place, place_of, stands, names, Streams, Copies, successors_of}
use Rattle.vs_gtid.specs.Vectors.Place.{Fresh, Copying, Streaming}
use Rattle.vs_model.specs.Frames.{Frame, frames_of}
use Rattle.vs_model.specs.Copy.{Filter}
use Rattle.vs_model.specs.Legal.{IsTxOf}

-- a copy starts at the empty set
abbrev pub start_of : Place → Position
start_of Fresh = []
start_of (Copying p l) = p
start_of (Streaming p) = p

-- A stream from v0 comes to this shard, and starts there at this position. No order of events occurs in it.
pub data Reached (cluster : Cluster) (v0 : Vector) : ShardName → Position → Type 0 where
  at_first : {s : ShardName} {p : Position} (place : Place) → place_of v0 s ≡ Some place → p ≡ start_of place → Reached cluster v0 s p
  by_journal : {s : ShardName} {p : Position} (j : JournalValue) (start : (t : ShardName) → IsTrue (is_in t j.participants) → Position) →
      IsTrue j.shards → j.participants ≢ [] →
      ((t : ShardName) (i : IsTrue (is_in t j.participants)) → Reached cluster v0 t (start t i)) →
      ((t : ShardName) (i : IsTrue (is_in t j.participants)) → stop t (log_of cluster t) (start t i) ≡ Some j) →
      Streams (successors_of j) s p → Reached cluster v0 s p

-- each participant of the journal is reached, and stops at it
pub record IsEffective (cluster : Cluster) (v0 : Vector) (j : JournalValue) : Type 0 where
  pub shards : IsTrue j.shards
  pub some : j.participants ≢ []
  pub reached : (t : ShardName) → IsTrue (is_in t j.participants) → (p : Position) × Reached cluster v0 t p × (stop t (log_of cluster t) p ≡ Some j)

-- no shard is reached at two positions
abbrev pub StartsAreUnique : Cluster → Vector → Type 0
StartsAreUnique cluster v0 = (s : ShardName) (p q : Position) → Reached cluster v0 s p → Reached cluster v0 s q → SameSet p q

-- a finished stream has the shard at this position: where it started, and all that is due from there
pub record FinalAt (cluster : Cluster) (v0 : Vector) (s : ShardName) (q : Position) : Type 0 where
  pub start : Position
  pub reached : Reached cluster v0 s start
  pub stays : (j : JournalValue) → IsEffective cluster v0 j → IsFalse (is_in s j.participants)
  pub all : IsPositionAfter start (due s (log_of cluster s) start) q

-- every shard of the vector streams, and has nothing due and no journal ahead
abbrev pub IsSettled : Cluster → Vector → Type 0
IsSettled cluster v = (s : ShardName) (place : Place) → place_of v s ≡ Some place →
    (q : Position) × (place ≡ Streaming q) × (due s (log_of cluster s) q ≡ []) × (stop s (log_of cluster s) q ≡ None)

-- the vector has the final positions, and nothing else
pub record IsFinal (cluster : Cluster) (v0 vn : Vector) : Type 0 where
  pub there : (s : ShardName) (q : Position) → FinalAt cluster v0 s q → (r : Position) × Streams vn s r × SameSet q r
  pub only : (s : ShardName) (place : Place) → place_of vn s ≡ Some place → (q : Position) × (place ≡ Streaming q) × FinalAt cluster v0 s q

-- the frames have the transaction of each entry that is due to the shard from p, in order
abbrev pub HasAllDue : Cluster → Filter → List Frame → ShardName → Position → Type 0
HasAllDue cluster filter fs s p =
    (before middle behind : List Frame) × (fs ≡ before ++ (middle ++ behind)) ×
    AllZip (IsTxOf (filter s)) (frames_of s middle) (due s (log_of cluster s) p)

-- the shard streams from p in v0, or is a successor at p of a journal that takes effect
abbrev pub StartsToStream : Cluster → Vector → ShardName → Position → Type 0
StartsToStream cluster v0 s p = Streams v0 s p ⊎ ((j : JournalValue) × IsEffective cluster v0 j × Streams (successors_of j) s p)

-- a journal at which a reached shard stops
abbrev pub IsTaken : Cluster → Vector → JournalValue → Type 0
IsTaken cluster v0 j = (s : ShardName) × (p : Position) × Reached cluster v0 s p × (stop s (log_of cluster s) p ≡ Some j)

-- The reshard rules, for the journals at which reached shards stop.
pub record AreReshardRulesKept (cluster : Cluster) (v0 : Vector) : Type 0 where
  -- each participant is reached, and stops at the same journal
  pub participants_come : (j : JournalValue) → IsTaken cluster v0 j → IsEffective cluster v0 j
  pub names_distinct : (j : JournalValue) → IsTaken cluster v0 j →
      IsDistinct same_name j.participants × IsDistinct same_name (names (successors_of j))
  pub successors_new : (j : JournalValue) → IsTaken cluster v0 j → AllByRecursion (λ n. IsFalse (stands v0 n.name) × IsFalse (is_in n.name j.participants)) j.successors
  pub one_origin : (j k : JournalValue) (s : ShardName) → IsTaken cluster v0 j → IsTaken cluster v0 k →
      IsTrue (stands (successors_of j) s) → IsTrue (stands (successors_of k) s) → j ≡ k
  pub together : (j : JournalValue) → IsTaken cluster v0 j →
      AllByRecursion (λ s. IsTrue (stands v0 s)) j.participants
      ⊎ ((k : JournalValue) × IsTaken cluster v0 k × AllByRecursion (λ s. IsTrue (stands (successors_of k) s)) j.participants)
  -- and its log has one entry of that journal
  pub stands_once : (j : JournalValue) (s : ShardName) (before behind : List Entry) (e : Entry) → IsTaken cluster v0 j → IsTrue (is_in s j.participants) →
      (log_of cluster s).entries ≡ before ++ e ∷ behind → journal_of e.work ≡ Some j →
      AllByRecursion (λ f. journal_of f.work ≢ Some j) before × AllByRecursion (λ f. journal_of f.work ≢ Some j) behind
  pub ids_differ : (j k : JournalValue) → IsTaken cluster v0 j → IsTaken cluster v0 k → j.id ≡ k.id → j ≡ k
  pub bases_within : (j : JournalValue) → IsTaken cluster v0 j → AllByRecursion (λ n. IsSubset (log_of cluster n.name).base n.position) j.successors
  -- no participant of a foreign journal in a reached log is reached
  pub no_stranger : (s : ShardName) (p : Position) (e : Entry) (j : JournalValue) → Reached cluster v0 s p → Contains (log_of cluster s).entries e →
      journal_of e.work ≡ Some j → IsTrue j.shards → IsFalse (is_in s j.participants) →
      (t : ShardName) (q : Position) → IsTrue (is_in t j.participants) → Reached cluster v0 t q → ⊥

-- What a finished stream stands on, of the logs: no fault, no base beyond a start, and the rules. What the schema, the filter and the limits owe comes with them.
pub record AreLogsValid (cluster : Cluster) (v0 : Vector) : Type 0 where
  pub rules : AreReshardRulesKept cluster v0
  pub unique : StartsAreUnique cluster v0
  pub known : (s : ShardName) (p : Position) → Reached cluster v0 s p → IsTrue (is_in s (map (λ c. c.0) cluster)) × ((log_of cluster s).fault ≡ None)
  pub bases : (s : ShardName) (p : Position) → Reached cluster v0 s p → IsSubset (log_of cluster s).base p
  -- a shard that copies has a log that begins with nothing
  pub copies : (s : ShardName) (place : Place) → Copies v0 s place → SameSet (log_of cluster s).base []
