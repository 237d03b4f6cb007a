-- The core of a stream as a plain machine: lanes begin, pieces are taken, and each turn handles one.
use Rattle.std.specs.Prelude.{◌≡◌, ℕ, Bool, true, false, not, ◌&&◌, ◌||◌, List, [], ◌∷◌, ◌++◌, map, length, Option, Some, None, Result, Ok, Err, IsTrue, if◌then◌else◌, nat_lt, slice_get, slice_set, ℤ}
use Rattle.std.specs.List.{filter, list_all, list_any}
use Rattle.vs_base.specs.declared.ShardName.{ShardName}
use Rattle.vs_base.specs.Names.{same_name}
use Rattle.vs_gtid.specs.declared.JournalValue.{JournalValue}
use Rattle.vs_gtid.specs.Vectors.{Vector, IsCanonicalVector, stands, names, switched}
use Rattle.vs_gtid.specs.Vectors.Place.{Copying, Streaming}
use Rattle.vs_model.specs.Core.{some_copies}
use Rattle.vs_request.specs.declared.request.Flags.{Flags}
use Rattle.vs_render.specs.Bodies.{Rendered}
use Rattle.vs_render.specs.declared.piece.Piece.{Piece}
use Rattle.vs_render.specs.declared.piece.Piece.TheVariants as piece
use Rattle.vs_render.specs.declared.piece.EndCause.{EndCause}
use Rattle.vs_render.specs.declared.piece.EndCause.TheVariants as cause
use Rattle.vs_vector.specs.Changes.{advanced, set_to}
use Rattle.vs_vector.specs.Places.{most_shards}
use Rattle.vs_vector.specs.declared.refusal.VectorRefusal.{VectorRefusal}
use Rattle.vs_vector.specs.declared.refusal.VectorRefusal.TheVariants as vector
use Rattle.vs_gather.specs.Gathering.{Arrived, arrival, concerns, waits}
use Rattle.vs_gather.specs.Gathering.Arrived.{StillWaits, Completes}
use Rattle.vs_gather.specs.declared.kept.Kept.{Kept}
use Rattle.vs_gather.specs.declared.refusal.GatherRefusal.{GatherRefusal}
use Rattle.vs_core.specs.Choices.{held_of, next_lane, without_head}
use Rattle.vs_core.specs.declared.lane.LaneState.{LaneState}
use Rattle.vs_core.specs.declared.lane.LaneState.TheVariants.{Live, AtEnd, Failed, Over}
use Rattle.vs_core.specs.declared.refusal.CoreRefusal.{CoreRefusal}
use Rattle.vs_core.specs.declared.refusal.CoreRefusal.TheVariants as refused

-- The vector; the name and the state of each lane, by its number; the pieces that were taken and not handled, each with its lane, in the
-- order of taking; the journals that wait; whether the end of all copies is due; and what was asked for.
pub record CoreState : Type 0 where
  pub vector : Vector
  pub names : List ShardName
  pub states : List LaneState
  pub held : List (ℕ × Piece)
  pub kept : List Kept
  pub all_copied : Bool
  pub flags : Flags
  pub until_end : Bool

-- what is done: a lane begins, a piece of one is taken, a turn is made; and between these a heartbeat may be written
pub data CoreEvent : Type 0 where
  Begin : (name : ShardName) → CoreEvent
  Take : (lane : ℕ) (piece : Piece) → CoreEvent
  Turn : CoreEvent
  Beat : (now : ℕ) → CoreEvent

-- what is sent, by its bodies
pub data Sent : Type 0 where
  SentBody : (shard : ShardName) (time : ℕ) (body : Rendered) (v : Vector) → Sent
  SentCopyDone : (shard : ShardName) (time : ℕ) (v : Vector) → Sent
  SentSwitch : (journal : JournalValue) (v : Vector) → Sent
  SentHalt : (journal : JournalValue) (v : Vector) → Sent
  SentAllCopied : Sent
  SentBeat : (now : ℕ) → Sent

-- what a turn tells
pub data TurnTold : Type 0 where
  Frame : (lane : ℕ) → TurnTold
  Switched : (lane : ℕ) (retired started : List ShardName) → TurnTold
  Halted : (lane : ℕ) (id : ℤ) → TurnTold
  AllCopied : TurnTold
  Arrives : (lane : ℕ) → TurnTold
  Ended : (lane : ℕ) → TurnTold
  Idled : (lane : ℕ) → TurnTold
  Restart : (lane : ℕ) (name : ShardName) → TurnTold
  Nothing : TurnTold
  Done : TurnTold
  Stuck : (kept : List Kept) → TurnTold

-- what a turn makes, sends and tells, or why it is refused
pub data Turned : Type 0 where
  Went : (new : CoreState) (sent : List Sent) (told : TurnTold) → Turned
  Refused : CoreRefusal → Turned

abbrev pub initial : Vector → Flags → Bool → CoreState
initial v flags until_end = record {
  vector = v;
  names = [];
  states = [];
  held = [];
  kept = [];
  all_copied = false;
  flags = flags;
  until_end = until_end;
}

-- the states of the lanes of a name, in the order of their numbers
abbrev pub states_of : ShardName → List ShardName → List LaneState → List LaneState
states_of s [] states = []
states_of s (n ∷ names) [] = []
states_of s (n ∷ names) (st ∷ states) = if same_name n s then st ∷ states_of s names states else states_of s names states

abbrev pub is_live : LaneState → Bool
is_live Live = true
is_live AtEnd = false
is_live Failed = false
is_live Over = false

abbrev pub is_failed : LaneState → Bool
is_failed Failed = true
is_failed Live = false
is_failed AtEnd = false
is_failed Over = false

-- the last lane came to the log's end
abbrev pub last_at_end : List LaneState → Bool
last_at_end [] = false
last_at_end (AtEnd ∷ []) = true
last_at_end (Live ∷ []) = false
last_at_end (Failed ∷ []) = false
last_at_end (Over ∷ []) = false
last_at_end (a ∷ b ∷ states) = last_at_end (b ∷ states)

abbrev pub has_live : CoreState → ShardName → Bool
has_live s name = list_any is_live (states_of name s.names s.states)

abbrev pub is_at_end : CoreState → ShardName → Bool
is_at_end s name = last_at_end (states_of name s.names s.states)

-- every shard is at its log's end
abbrev pub is_done : CoreState → Bool
is_done s = s.until_end && list_all (is_at_end s) (names s.vector)

-- every shard is at its log's end or waits at a journal
abbrev pub is_stuck : CoreState → Bool
is_stuck s = s.until_end && (list_all (λ n. is_at_end s n || waits s.kept n) (names s.vector) && list_any (waits s.kept) (names s.vector))

abbrev pub failures : CoreState → ShardName → ℕ
failures s name = length (filter is_failed (states_of name s.names s.states))

abbrev pub in_state : CoreState → ℕ → LaneState → CoreState
in_state s k state = record s { states = slice_set s.states k state }

-- no piece is held
abbrev pub at_rest : CoreState → Turned
at_rest s = if is_done s then Went s [] Done else if is_stuck s then Went s [] (Stuck s.kept) else Went s [] Nothing

abbrev pub moves_to : CoreState → ℕ → ShardName → ℕ → Rendered → Vector → Turned
moves_to s k name time body w = Went (record s { vector = w }) (SentBody name time body w ∷ []) (Frame k)

abbrev pub why_not_moved : ShardName → VectorRefusal → CoreRefusal
why_not_moved name vector.TooManyIntervals = refused.PositionTooLarge name
why_not_moved name (vector.Absent n) = refused.Memory
why_not_moved name (vector.Present n) = refused.Memory
why_not_moved name (vector.TooManyShards n) = refused.TooManyShards n
why_not_moved name vector.Memory = refused.Memory

abbrev pub moved_by : CoreState → ℕ → ShardName → ℕ → Rendered → Result Vector VectorRefusal → Turned
moved_by s k name time body (Ok w) = moves_to s k name time body w
moved_by s k name time body (Err e) = Refused (why_not_moved name e)

-- the journal takes effect
abbrev pub switched_to : CoreState → ℕ → JournalValue → Vector → Turned
switched_to s k j w =
    if nat_lt most_shards (length w) then Refused (refused.TooManyShards (length w))
    else Went (record s { vector = w }) (SentSwitch j w ∷ []) (Switched k j.participants (map (λ n. n.name) j.successors))

abbrev pub completed : CoreState → ℕ → JournalValue → Turned
completed s k j =
    if s.flags.stop_on_reshard then Went s (SentHalt j s.vector ∷ []) (Halted k j.id)
    else switched_to s k j (switched s.vector j)

abbrev pub arrived_by : CoreState → ℕ → JournalValue → Result Arrived GatherRefusal → Turned
arrived_by s k j (Ok (StillWaits kept)) = Went (record s { kept = kept }) [] (Arrives k)
arrived_by s k j (Ok (Completes kept)) = completed (record s { kept = kept }) k j
arrived_by s k j (Err e) = Refused (refused.Gathering e)

abbrev pub failed_by : CoreState → ℕ → ShardName → Bool → Turned
failed_by s k name true = Went (in_state s k Failed) [] (Restart k name)
failed_by s k name false = Refused (refused.Spent name)

-- the end of a lane
abbrev pub ended_by : CoreState → ℕ → ShardName → EndCause → Turned
ended_by s k name cause.AtEnd = Went (in_state s k AtEnd) [] (Ended k)
ended_by s k name (cause.OwnJournal j) = arrived_by (in_state s k Over) k j (arrival s.vector name j s.kept)
ended_by s k name cause.FeedFault = failed_by s k name (nat_lt (failures s name) 3)
ended_by s k name (cause.BadLog offset why) = Refused (refused.Lane name (cause.BadLog offset why))
ended_by s k name (cause.Purged g) = Refused (refused.Lane name (cause.Purged g))
ended_by s k name cause.Memory = Refused (refused.Lane name cause.Memory)

abbrev pub copied_by : CoreState → ℕ → ShardName → ℕ → Result Vector VectorRefusal → Turned
copied_by s k name time (Ok w) = Went (record s { vector = w; all_copied = not (some_copies w) }) (SentCopyDone name time w ∷ []) (Frame k)
copied_by s k name time (Err e) = Refused (why_not_moved name e)

-- A piece of a lane, which isn't held any more. A piece that can't come (its lane or its shard isn't there) is answered as want of memory.
abbrev pub handled_by : CoreState → ℕ → ShardName → Piece → Turned
handled_by s k name (piece.Tx g time body) = moved_by s k name time body.body (advanced s.vector name g)
handled_by s k name (piece.Foreign g time j body) =
    if concerns s.vector j then Refused (refused.Stranger j.id name) else moved_by s k name time body.body (advanced s.vector name g)
handled_by s k name (piece.Chunk q l time body) = moved_by s k name time body.body (set_to s.vector name (Copying q l))
handled_by s k name (piece.CopyDone q time room) = copied_by s k name time (set_to s.vector name (Streaming q))
handled_by s k name (piece.Idle room) = Went s [] (Idled k)
handled_by s k name (piece.End cause room) = ended_by s k name cause

abbrev pub handled_of : CoreState → ℕ → Option ShardName → Piece → Turned
handled_of s k None piece = Refused refused.Memory
handled_of s k (Some name) piece = handled_by s k name piece

-- the first of the lane's pieces that are held
abbrev pub with_pieces : CoreState → ℕ → List Piece → Turned
with_pieces s k [] = Refused refused.Memory
with_pieces s k (piece ∷ pieces) = handled_of (record s { held = without_head k s.held }) k (slice_get s.names k) piece

-- the head of the lane that is next
abbrev pub with_next : CoreState → Option ℕ → Turned
with_next s None = at_rest s
with_next s (Some k) = with_pieces s k (held_of k s.held)

abbrev pub chosen_lane : CoreState → Option ℕ
chosen_lane s = next_lane s.flags.max_skew (length s.names) s.held

-- what a turn makes of the core
abbrev pub turned : CoreState → Turned
turned s = if s.all_copied then Went (record s { all_copied = false }) (SentAllCopied ∷ []) AllCopied else with_next s (chosen_lane s)

abbrev pub ends_lane : Piece → Bool
ends_lane (piece.Tx g time body) = false
ends_lane (piece.Foreign g time j body) = false
ends_lane (piece.Chunk q l time body) = false
ends_lane (piece.CopyDone q time room) = false
ends_lane (piece.Idle room) = false
ends_lane (piece.End cause room) = true

-- a lane of the shard may begin: the shard stands, has no live lane, and waits at no journal
pub record MayBegin (s : CoreState) (name : ShardName) : Type 0 where
  pub stands_there : IsTrue (stands s.vector name)
  pub none_live : has_live s name ≡ false
  pub waits_not : waits s.kept name ≡ false

-- a piece of the lane may be taken: it was begun, and its end was not taken
pub record MayTake (s : CoreState) (k : ℕ) : Type 0 where
  pub live : slice_get s.states k ≡ Some Live
  pub no_end : list_any ends_lane (held_of k s.held) ≡ false

-- the core with a lane more
abbrev pub lane_begun : CoreState → ShardName → CoreState
lane_begun s name = record s { names = s.names ++ name ∷ []; states = s.states ++ Live ∷ [] }

-- the core with a piece more
abbrev pub piece_taken : CoreState → ℕ → Piece → CoreState
piece_taken s k p = record s { held = s.held ++ (k, p) ∷ [] }

-- one step of the core, and what it sends
pub data Goes : CoreState → CoreEvent → List Sent → CoreState → Type 0 where
  begins : {s : CoreState} {name : ShardName} → MayBegin s name → Goes s (Begin name) [] (lane_begun s name)
  takes : {s : CoreState} {k : ℕ} {piece : Piece} → MayTake s k → Goes s (Take k piece) [] (piece_taken s k piece)
  turns : {s new : CoreState} {sent : List Sent} {told : TurnTold} → turned s ≡ Went new sent told → IsCanonicalVector new.vector → Goes s Turn sent new
  beats : {s : CoreState} {now : ℕ} → Goes s (Beat now) (SentBeat now ∷ []) s
