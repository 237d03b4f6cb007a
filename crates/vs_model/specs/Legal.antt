-- Which lists of frames are lawful over a cluster.
use Rattle.std.specs.Prelude.{◌≡◌, ◌≢◌, List, [], ◌∷◌, ◌++◌, Option, Some, None, IsTrue, IsFalse, IfSome}
use Rattle.std.specs.List.{filter, AllByRecursion, AllZip, last_or}
use Rattle.vs_base.specs.declared.ShardName.{ShardName}
use Rattle.vs_gtid.specs.declared.JournalValue.{JournalValue}
use Rattle.vs_gtid.specs.declared.Entry.{Entry}
use Rattle.vs_model.specs.Names.{Position, IsSubset, SameSet, is_in}
use Rattle.vs_model.specs.Logs.{Cluster, Log, log_of, journal_of, is_own, due, stop, between, IsPositionAfter}
use Rattle.vs_gtid.specs.Vectors.{Vector, Place, IsCanonicalVector, place_of, stands, names, Streams, Copies, switched}
use Rattle.vs_model.specs.Frames.{Frame, shard_of, frames_of, vector_after, last_vector, vectors_along, is_no_beat}
use Rattle.vs_model.specs.Frames.Frame.{Tx, Switch, Halt, CopyDone, AllCopied}
use Rattle.vs_model.specs.Copy.{Bound, Filter, picked, CopyStep}

-- the frame is the transaction of the entry
abbrev pub IsTxOf : Bound → Frame → Entry → Type 0
IsTxOf bound (Tx s told v) e = told ≡ picked bound e
IsTxOf bound f e = ⊥

-- What a shard that streams from p to q sends in between: its due entries of q, and those alone.
pub record Sends (bound : Bound) (s : ShardName) (log : Log) (p q : Position) (fs : List Frame) : Type 0 where
  -- they are the first that are due
  pub first : (rest : List Entry) × (due s log p ≡ between s log p q ++ rest)
  -- one transaction for each, in order
  pub frames : AllZip (IsTxOf bound) (frames_of s fs) (between s log p q)
  -- p has the base of the log
  pub base : frames_of s fs ≢ [] → IsSubset log.base p
  -- q has p and their GTIDs, and nothing else
  pub position : IsPositionAfter p (between s log p q) q

-- each shard of the vector stands in the next one, at the same place of the list
pub record Continues (v : Vector) (f : Frame) : Type 0 where
  pub same_names : names (vector_after v f) ≡ names v
  -- a shard that streams goes on streaming
  pub stream : (s : ShardName) (p : Position) → Streams v s p → (q : Position) × Streams (vector_after v f) s q
  -- a shard that copies, of which the frame is not, keeps its place
  pub copy : (s : ShardName) (place : Place) → Copies v s place → shard_of f ≢ Some s → place_of (vector_after v f) s ≡ Some place

abbrev pub VectorMoves : Vector → Frame → Type 0
VectorMoves v (Switch j w) = w ≡ switched v j
VectorMoves v f = Continues v f

-- all participants of a SHARDS journal have come to it, and none of its successors stands in the vector
pub record HasGathered (cluster : Cluster) (v : Vector) (j : JournalValue) : Type 0 where
  pub shards : IsTrue j.shards
  pub some : j.participants ≢ []
  pub arrived : (s : ShardName) → IsTrue (is_in s j.participants) →
      (p : Position) × Streams v s p × (due s (log_of cluster s) p ≡ []) × (stop s (log_of cluster s) p ≡ Some j)
  pub new : AllByRecursion (λ n. IsFalse (stands v n.name)) j.successors

-- no participant of a foreign SHARDS journal stands in the vector
abbrev pub NoParticipantStands : ShardName → Vector → JournalValue → Type 0
NoParticipantStands s v j = IsTrue j.shards → IsFalse (is_own s j) → AllByRecursion (λ t. IsFalse (stands v t)) j.participants

abbrev pub JournalFits : Cluster → Vector → Frame → Type 0
JournalFits cluster v (Switch j w) = HasGathered cluster v j
JournalFits cluster v (Halt j w) = HasGathered cluster v j
JournalFits cluster v (Tx s e w) = IfSome (journal_of e.work) (NoParticipantStands s v)
JournalFits cluster v f = Unit {0}

abbrev pub NoneCopies : Vector → Type 0
NoneCopies v = (s : ShardName) (place : Place) → Copies v s place → ⊥

abbrev pub CopiesEnd : Vector → Frame → Type 0
CopiesEnd v AllCopied = NoneCopies v
CopiesEnd v f = Unit {0}

-- what each frame keeps, after the vector v
pub record IsLawful (cluster : Cluster) (filter : Filter) (v : Vector) (f : Frame) : Type 0 where
  pub shard : IfSome (shard_of f) (λ s. IsTrue (stands v s))
  pub vector : VectorMoves v f
  pub journal : JournalFits cluster v f
  -- a frame of a shard that copies, whose log begins with nothing
  pub copy : (s : ShardName) (place : Place) → shard_of f ≡ Some s → Copies v s place →
      SameSet (log_of cluster s).base [] × CopyStep (filter s) s (log_of cluster s) place f (place_of (vector_after v f) s)
  pub copies_end : CopiesEnd v f
  -- the positions of the vector after it are spelled in the one way
  pub canonical : IsCanonicalVector (vector_after v f)

abbrev pub IsCopyDoneFrame : Option Frame → Type 0
IsCopyDoneFrame (Some (CopyDone s time v)) = Unit {0}
IsCopyDoneFrame (Some f) = ⊥
IsCopyDoneFrame None = ⊥

-- an AllCopied comes right after a CopyDone, but for beats
abbrev pub AllCopiedFollows : List Frame → Type 0
AllCopiedFollows fs = (before behind : List Frame) → fs ≡ before ++ AllCopied ∷ behind → IsCopyDoneFrame (last_or None (filter is_no_beat before))

-- The frames are lawful after the vector v0.
pub record Legal (cluster : Cluster) (filter : Filter) (v0 : Vector) (fs : List Frame) : Type 0 where
  -- between any two vectors
  pub sends : (before middle behind : List Frame) → fs ≡ before ++ (middle ++ behind) → (s : ShardName) (p q : Position) →
      AllByRecursion (λ v. (r : Position) × Streams v s r) (vectors_along (last_vector v0 before) middle) →
      Streams (last_vector v0 before) s p → Streams (last_vector v0 (before ++ middle)) s q →
      Sends (filter s) s (log_of cluster s) p q middle
  -- at each frame
  pub each : (before behind : List Frame) (f : Frame) → fs ≡ before ++ f ∷ behind → IsLawful cluster filter (last_vector v0 before) f
  pub all_copied : AllCopiedFollows fs
