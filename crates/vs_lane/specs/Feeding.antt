-- The entries of a shard's log, as a feed gives its bytes.
use Rattle.std.specs.Prelude.{◌≡◌, ◌≤◌, ◌<◌, ◌+◌, ◌-◌, ℕ, Bool, true, false, List, ◌∷◌, [], ◌++◌, length, take, Option, Some, None}
use Rattle.std.specs.Option.{ForSome}
use Rattle.vs_base.specs.declared.ShardName.{ShardName}
use Rattle.vs_gtid.specs.declared.Entry.{Entry}
use Rattle.vs_gtid.specs.Logs.{Log}
use Rattle.vs_schema.specs.declared.schema.Schema.{Schema}
use Rattle.vs_rows.specs.Tables.{Tables}
use Rattle.vs_log.specs.Events.{limit}
use Rattle.vs_log.specs.Meaning.{log_meant}
use Rattle.vs_log.specs.Productions.{StandsAt}
use Rattle.vs_log.specs.Table.{Rules}
use Rattle.vs_entries.specs.Rules.{rules_of}
use Rattle.vs_entries.specs.Pieces.{Fed, log_fed}
use Rattle.vs_outside.specs.Counts.{Rose}
use Rattle.vs_outside.specs.Told.{IsPrefixOf}
use Rattle.vs_lane.specs.declared.entries.Came.{Came}
use Rattle.vs_lane.specs.declared.entries.Came.TheVariants as came

-- A feed that is read: whose log it is, what it tells of the log and of what it gave, its counts, how its bytes are read, which of them came, the entries that were read of these, how many bytes are held unread, and whether memory ran out as bytes were taken.
pub record Read : Type 0 where
  pub origin : ShardName
  pub all : Option (List ℕ)
  pub given : Option (List ℕ)
  pub sound : Bool
  pub faults : ℕ
  pub waits : ℕ
  pub keyspace : List ℕ
  pub schema : Schema
  pub bytes : List ℕ
  pub read : List Entry
  pub held : ℕ
  pub spent : Bool

-- the entries that a reader gave
abbrev pub given_of : Fed → List Entry
given_of r = take r.given (log_fed r).entries

-- what is seen of a feed and its reader
abbrev pub read_as : (origin : ShardName) (all given : Option (List ℕ)) (sound : Bool) (faults waits : ℕ) → Fed → Bool → Read
read_as origin all given sound faults waits r spent = record {
  origin = origin;
  all = all;
  given = given;
  sound = sound;
  faults = faults;
  waits = waits;
  keyspace = r.keyspace;
  schema = r.schema;
  bytes = r.bytes;
  read = given_of r;
  held = length r.bytes - r.at;
  spent = spent;
}

abbrev pub rules_read : Read → Rules Tables
rules_read r = rules_of r.keyspace r.schema

-- what the bytes mean that came
abbrev pub log_read : Read → Log
log_read r = log_meant (rules_read r) r.bytes

-- the entries are the first of those
abbrev pub IsFront : List Entry → List Entry → Type 0
IsFront front all = (later : List Entry) × (all ≡ front ++ later)

-- less than an event and one read of the feed is held
abbrev pub IsHeldWithin : ℕ → Type 0
IsHeldWithin held = held < limit + 65536

-- While memory was there, the bytes that came are those that the feed gave, and the front of all. The entries that were read are the first of theirs.
pub record IsSound (r : Read) : Type 0 where
  pub bytes : r.spent ≡ false → ForSome r.all (λ all. (r.given ≡ Some r.bytes) × IsPrefixOf r.bytes all)
  pub read : IsFront r.read (log_read r).entries
  pub held : IsHeldWithin r.held

-- no call changes whose log is read and how; no count falls; bytes come behind those that came
pub record IsLater (old new : Read) : Type 0 where
  pub origin : new.origin ≡ old.origin
  pub all : new.all ≡ old.all
  pub sound : new.sound ≡ old.sound
  pub faults : old.faults ≤ new.faults
  pub waits : old.waits ≤ new.waits
  pub keyspace : new.keyspace ≡ old.keyspace
  pub schema : new.schema ≡ old.schema
  pub bytes : (more : List ℕ) × (new.bytes ≡ old.bytes ++ more)

-- each entry was read, and nothing is wrong with the bytes that came
pub record HasReadAll (old new : Read) : Type 0 where
  pub read : new.read ≡ old.read
  pub all : new.read ≡ (log_read new).entries
  pub faultless : (log_read new).fault ≡ None
  pub unspent : new.spent ≡ old.spent

abbrev pub is_entry : Came → Bool
is_entry (came.Entry e at) = true
is_entry came.NotYet = false
is_entry came.End = false
is_entry came.FeedFault = false
is_entry (came.BadLog offset why) = false
is_entry came.Memory = false

-- it says something of the log
abbrev pub tells_log : Came → Bool
tells_log (came.Entry e at) = true
tells_log came.NotYet = true
tells_log came.End = true
tells_log came.FeedFault = false
tells_log (came.BadLog offset why) = true
tells_log came.Memory = false

-- what the next answer says
abbrev pub Comes : Read → Came → Read → Type 0
Comes old (came.Entry e at) new = (new.read ≡ old.read ++ e ∷ []) × StandsAt (rules_read new) new.bytes e.gtid at × (new.spent ≡ old.spent)
Comes old came.NotYet new = HasReadAll old new × Rose old.waits new.waits
Comes old came.End new = HasReadAll old new × ForSome new.all (λ all. new.given ≡ Some all)
Comes old came.FeedFault new = Rose old.faults new.faults × (new.read ≡ old.read) × (new.spent ≡ old.spent)
Comes old (came.BadLog offset why) new = (new.read ≡ old.read) × (new.read ≡ (log_read new).entries) × ((log_read new).fault ≡ Some (offset, why)) × (new.spent ≡ old.spent)
Comes old came.Memory new = new.read ≡ old.read

-- What holds of a feed and its reader: while memory was there, the reader was fed what the feed gave; it holds less than an event and one read; and a read has this much room.
pub record IsReading (all given : Option (List ℕ)) (r : Fed) (spent : Bool) (size : ℕ) : Type 0 where
  pub fed : spent ≡ false → ForSome all (λ x. (given ≡ Some r.bytes) × IsPrefixOf r.bytes x)
  pub held : IsHeldWithin (length r.bytes - r.at)
  pub room : size ≡ 65536
