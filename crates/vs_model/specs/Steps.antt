-- Lawful frames one after another, as a program sends them.
use Rattle.std.specs.Prelude.{◌≡◌, List, [], ◌∷◌, ◌++◌, Some, IfSome}
use Rattle.std.specs.List.{AllZip}
use Rattle.vs_base.specs.declared.ShardName.{ShardName}
use Rattle.vs_gtid.specs.declared.Entry.{Entry}
use Rattle.vs_model.specs.Names.{Position, IsSubset, SameSet}
use Rattle.vs_model.specs.Logs.{Cluster, Log, log_of, journal_of, due, IsPositionAfter}
use Rattle.vs_gtid.specs.Vectors.{Vector, Place, IsCanonicalVector, Streams, Copies, moved}
use Rattle.vs_gtid.specs.Vectors.Place.{Streaming}
use Rattle.vs_model.specs.Frames.{Frame, shard_of, vector_after}
use Rattle.vs_model.specs.Copy.{Bound, Filter, picked, CopyStep}
use Rattle.vs_model.specs.Legal.{Sends, IsLawful, NoParticipantStands, JournalFits}

-- one frame after the vector v
pub record Step (cluster : Cluster) (filter : Filter) (v : Vector) (f : Frame) : Type 0 where
  pub lawful : IsLawful cluster filter v f
  pub sends : (s : ShardName) (p q : Position) → Streams v s p → Streams (vector_after v f) s q →
      Sends (filter s) s (log_of cluster s) p q (f ∷ [])

abbrev pub Steps : Cluster → Filter → Vector → List Frame → Type 0
Steps cluster filter v [] = Unit {0}
Steps cluster filter v (f ∷ fs) = Step cluster filter v f × Steps cluster filter (vector_after v f) fs

-- What a program knows as it sends a transaction of a shard that streams.
pub record SendsTx (cluster : Cluster) (filter : Filter) (v : Vector) (s : ShardName) (told : Entry) (w : Vector) : Type 0 where
  pub p : Position
  pub e : Entry
  pub rest : List Entry
  pub q : Position
  pub streams : Streams v s p
  pub first : due s (log_of cluster s) p ≡ e ∷ rest
  pub told_is : told ≡ picked (filter s) e
  pub base : IsSubset (log_of cluster s).base p
  pub grown : IsPositionAfter p (e ∷ []) q
  pub vector : w ≡ moved v s (Streaming q)
  pub canonical : IsCanonicalVector w
  pub foreign : IfSome (journal_of e.work) (NoParticipantStands s v)

-- As it sends a frame of a shard that copies: a part of the copy, and the vector with the place after it.
pub record SendsCopy (cluster : Cluster) (filter : Filter) (v : Vector) (s : ShardName) (f : Frame) : Type 0 where
  pub old : Place
  pub new : Place
  pub of_s : shard_of f ≡ Some s
  pub copies : Copies v s old
  pub base : SameSet (log_of cluster s).base []
  pub step : CopyStep (filter s) s (log_of cluster s) old f (Some new)
  pub vector : vector_after v f ≡ moved v s new
  pub canonical : IsCanonicalVector (vector_after v f)
  pub foreign : JournalFits cluster v f

-- What a lane from the position start has given: the transactions of the first entries that are due there.
pub record AreFirstDue (bound : Bound) (s : ShardName) (log : Log) (start : Position) (told : List Entry) : Type 0 where
  pub sent : List Entry
  pub rest : List Entry
  pub split : due s log start ≡ sent ++ rest
  pub each : AllZip (λ w e. w ≡ picked bound e) told sent
