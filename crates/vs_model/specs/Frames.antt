-- Frames: what is sent to the client.
use Rattle.std.specs.Prelude.{ℕ, Bool, true, false, List, [], ◌∷◌, Option, Some, None}
use Rattle.std.specs.List.{filter}
use Rattle.vs_base.specs.declared.ShardName.{ShardName}
use Rattle.vs_gtid.specs.declared.JournalValue.{JournalValue}
use Rattle.vs_gtid.specs.declared.Entry.{Entry}
use Rattle.vs_model.specs.Names.{same_name}
use Rattle.vs_model.specs.Logs.{Image}
use Rattle.vs_gtid.specs.Vectors.{Vector}

pub data Frame : Type 0 where
  Tx : (shard : ShardName) (entry : Entry) (v : Vector) → Frame
  Switch : (journal : JournalValue) (v : Vector) → Frame
  Halt : (journal : JournalValue) (v : Vector) → Frame
  Chunk : (shard : ShardName) (table : List ℕ) (rows : List Image) (time : ℕ) (v : Vector) → Frame
  CopyDone : (shard : ShardName) (time : ℕ) (v : Vector) → Frame
  AllCopied : Frame
  Beat : (now : ℕ) → Frame

-- the shard whose frame it is
abbrev pub shard_of : Frame → Option ShardName
shard_of (Tx s e v) = Some s
shard_of (Chunk s table rows time v) = Some s
shard_of (CopyDone s time v) = Some s
shard_of (Switch j v) = None
shard_of (Halt j v) = None
shard_of AllCopied = None
shard_of (Beat now) = None

abbrev pub is_of : ShardName → Option ShardName → Bool
is_of s None = false
is_of s (Some t) = same_name t s

-- the frames of a shard
abbrev pub frames_of : ShardName → List Frame → List Frame
frames_of s fs = filter (λ f. is_of s (shard_of f)) fs

-- the vector after a frame
abbrev pub vector_after : Vector → Frame → Vector
vector_after v (Tx s e w) = w
vector_after v (Switch j w) = w
vector_after v (Halt j w) = w
vector_after v (Chunk s table rows time w) = w
vector_after v (CopyDone s time w) = w
vector_after v AllCopied = v
vector_after v (Beat now) = v

-- the vector after frames, which is v where there is none
abbrev pub last_vector : Vector → List Frame → Vector
last_vector v [] = v
last_vector v (f ∷ fs) = last_vector (vector_after v f) fs

-- v, and the vector after each frame
abbrev pub vectors_along : Vector → List Frame → List Vector
vectors_along v [] = v ∷ []
vectors_along v (f ∷ fs) = v ∷ vectors_along (vector_after v f) fs

abbrev pub is_no_beat : Frame → Bool
is_no_beat (Beat now) = false
is_no_beat (Tx s e v) = true
is_no_beat (Switch j v) = true
is_no_beat (Halt j v) = true
is_no_beat (Chunk s table rows time v) = true
is_no_beat (CopyDone s time v) = true
is_no_beat AllCopied = true
