-- What a lane keeps, and what a step owes.
use Rattle.std.specs.Prelude.{◌≡◌, ◌≢◌, ℕ, Bool, true, false, if◌then◌else◌, List, [], ◌∷◌, ◌++◌, Option}
use Rattle.std.specs.Option.{ForSome}
use Rattle.std.specs.List.{AllByRecursion}
use Rattle.vs_base.specs.declared.ShardName.{ShardName}
use Rattle.vs_gtid.specs.declared.Entry.{Entry}
use Rattle.vs_gtid.specs.declared.JournalValue.{JournalValue}
use Rattle.vs_gtid.specs.Logs.{HaveDistinctGtids}
use Rattle.vs_gtid.specs.Positions.{Position, IsSubset, has}
use Rattle.vs_gtid.specs.Vectors.Place.{Streaming}
use Rattle.vs_log.specs.Meaning.{knows_base}
use Rattle.vs_filter.specs.declared.bound.Bound.{Bound}
use Rattle.vs_model.specs.Core.{Piece as Given, AreGiven, HasBase}
use Rattle.vs_render.specs.declared.piece.Piece.{Piece}
use Rattle.vs_render.specs.declared.piece.Piece.TheVariants.{Tx, Foreign, Chunk, CopyDone, Idle, End}
use Rattle.vs_render.specs.Posted.{Shows}
use Rattle.vs_lane.specs.Feeding.{Comes, IsSound, Read, log_read, rules_read}
use Rattle.vs_lane.specs.Pieces.{EndIsLast, OnEnd, meant_in, spelled_in}
use Rattle.vs_lane.specs.Stands.{Along, EndFits, EndHasBase, EndsBy, Later, Seen, lacking, log_seen, position_after}
use Rattle.vs_lane.specs.declared.course.Course.{Course}
use Rattle.vs_lane.specs.declared.course.Course.TheVariants.{Seeks, GoesOn, Ended, EndedAtEntry}
use Rattle.vs_lane.specs.declared.entries.Came.{Came}
use Rattle.vs_lane.specs.declared.entries.Came.TheVariants as came

abbrev pub is_seeking : Course → Bool
is_seeking Seeks = true
is_seeking GoesOn = false
is_seeking Ended = false
is_seeking EndedAtEntry = false

abbrev pub is_over : Course → Bool
is_over Seeks = false
is_over GoesOn = false
is_over Ended = true
is_over EndedAtEntry = true

-- the entries without the last one
abbrev pub but_last : List Entry → List Entry
but_last [] = []
but_last (e ∷ []) = []
but_last (e ∷ (f ∷ es)) = e ∷ but_last (f ∷ es)

-- the entries whose pieces were given, or that the start has; the one at which a lane ended is none of these
abbrev pub passed : Course → List Entry → List Entry
passed Seeks read = read
passed GoesOn read = read
passed Ended read = read
passed EndedAtEntry read = but_last read

-- the course of a lane that gave the piece, of an entry or not
abbrev pub course_behind : Bool → Piece → Course
course_behind at_entry (End cause room) = if at_entry then EndedAtEntry else Ended
course_behind at_entry (Idle room) = GoesOn
course_behind at_entry (Tx g time body) = GoesOn
course_behind at_entry (Foreign g time j body) = GoesOn
course_behind at_entry (Chunk q l time body) = GoesOn
course_behind at_entry (CopyDone q time room) = GoesOn

-- the lane that reads so
abbrev pub seen_as : ShardName → Bound → Position → Bool → Read → Course → Seen
seen_as name bound start until_end r course = record {
  shard = name;
  schema = r.schema;
  bound = bound;
  start = Streaming start;
  seeks = is_seeking course;
  until_end = until_end;
  origin = r.origin;
  all = r.all;
  given = r.given;
  sound = r.sound;
  faults = r.faults;
  waits = r.waits;
  held = r.held;
  ended = is_over course;
  entry = Streaming (position_after start (lacking start (passed course r.read)));
}

-- the base is known of the bytes that came, and lies in the start
abbrev pub HasBaseIn : Read → Position → Type 0
HasBaseIn r start = (knows_base (rules_read r) r.bytes ≡ true) × IsSubset (log_read r).base start

-- What a lane keeps. Its entries are those of its shard. While it goes on, memory was there, and while it seeks its start, no entry was read. Once the base was looked at, it is known, and lies in the start.
pub record Keeps (name : ShardName) (start : Position) (r : Read) (checked : Bool) (course : Course) : Type 0 where
  pub keyspace : r.keyspace ≡ name.keyspace
  pub sound : IsSound r
  pub unspent : is_over course ≡ false → r.spent ≡ false
  pub unread : is_seeking course ≡ true → (r.read ≡ []) × (checked ≡ false)
  pub base : checked ≡ true → HasBaseIn r start

-- each entry is in the position
abbrev pub AreIn : Position → List Entry → Type 0
AreIn p es = AllByRecursion (λ (e : Entry). has p e.gtid ≡ true) es

abbrev pub IsLacking : Position → Came → Type 0
IsLacking p (came.Entry e at) = has p e.gtid ≡ false
IsLacking p came.NotYet = Unit {0}
IsLacking p came.End = Unit {0}
IsLacking p came.FeedFault = Unit {0}
IsLacking p (came.BadLog offset why) = Unit {0}
IsLacking p came.Memory = Unit {0}

-- with these entries too
abbrev pub read_on : Read → List Entry → Read
read_on r es = record r { read = r.read ++ es }

-- the next answer, where entries of the position are passed over
pub record ComesDue (p : Position) (old : Read) (said : Came) (new : Read) : Type 0 where
  pub skipped : List Entry
  pub are_in : AreIn p skipped
  pub comes : Comes (read_on old skipped) said new
  pub lacks : IsLacking p said

-- what a step that gives the piece owes, of a told log
pub record StepOn (L M : Seen) (all : List ℕ) (p : Piece) (told : List Given) (last : Option JournalValue) : Type 0 where
  pub distinct : HaveDistinctGtids (log_seen L all).entries
  pub given_there : AreGiven (meant_in L.bound L.schema) L.shard (log_seen L all) told last L.entry
  pub base : told ≢ [] → HasBase (log_seen L all) L.start
  pub ends : OnEnd (EndsBy M all) (p ∷ [])
  pub end_base : OnEnd (EndHasBase M all) (p ∷ [])

-- What a step that gives the piece owes: what the piece tells is given from the lane's place, and leads to the place behind.
pub record StepFor (L M : Seen) (p : Piece) : Type 0 where
  pub later : Later L M
  pub unended : L.ended ≡ false
  pub told : List Given
  pub last : Option JournalValue
  pub shows : Shows (spelled_in L.bound) L.shard (p ∷ []) told last
  pub along : Along L.entry told M.entry
  pub stands_on : ForSome L.all (λ all. StepOn L M all p told last)
  pub end_last : EndIsLast M.ended (p ∷ [])
  pub fits : OnEnd (EndFits M) (p ∷ [])
