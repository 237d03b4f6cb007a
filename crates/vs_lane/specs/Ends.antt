-- What the search for the end of a log finds.
use Rattle.std.specs.Prelude.{◌≡◌, ◌⊎◌, ℕ, true, false, [], take, Option, Some, None, Result, Ok, Err}
use Rattle.std.specs.Option.{ForSome}
use Rattle.vs_gtid.specs.Positions.{Position}
use Rattle.vs_gtid.specs.Vectors.Place.{Streaming}
use Rattle.vs_log.specs.Meaning.{knows_base}
use Rattle.vs_entries.specs.Rules.{rules_of}
use Rattle.vs_outside.specs.Counts.{Rose}
use Rattle.vs_model.specs.Logs.{IsPositionAfter}
use Rattle.vs_render.specs.declared.piece.EndCause.{EndCause}
use Rattle.vs_render.specs.declared.piece.EndCause.TheVariants.{AtEnd, OwnJournal, FeedFault, BadLog, Purged, Memory}
use Rattle.vs_request.specs.declared.request.StartAt.{StartAt}
use Rattle.vs_request.specs.declared.request.StartAt.TheVariants as start
use Rattle.vs_lane.specs.declared.course.Course.{Course}
use Rattle.vs_lane.specs.declared.course.Course.TheVariants.{Seeks, GoesOn}
use Rattle.vs_lane.specs.Feeding.{Read, log_read, rules_read}
use Rattle.vs_lane.specs.Stands.{Seen, Stands, log_seen, position_after}
use Rattle.vs_lane.specs.Answers.{HasGivenAll, OfGiven}

-- a start from which a shard streams
abbrev pub IsToStream : StartAt → Type 0
IsToStream start.Fresh = ⊥
IsToStream start.Current = Unit {0}
IsToStream (start.At p) = Unit {0}

-- where the lane starts, or that it seeks its start
abbrev pub StartsAt : StartAt → Seen → Type 0
StartsAt start.Fresh L = ⊥
StartsAt start.Current L = L.seeks ≡ true
StartsAt (start.At p) L = (L.seeks ≡ false) × (L.start ≡ Streaming p)

-- the position and the course with which a lane begins
abbrev pub BeginsAt : StartAt → Position → Course → Type 0
BeginsAt start.Fresh p c = ⊥
BeginsAt start.Current p c = (p ≡ []) × (c ≡ Seeks)
BeginsAt (start.At q) p c = (p ≡ q) × (c ≡ GoesOn)

-- ---- of what is read

-- The position is the base with each entry that came; the feed waited and the base is known, or all came.
pub record FindsEnd (old new : Read) (p : Position) : Type 0 where
  pub position : p ≡ position_after (log_read new).base (log_read new).entries
  pub all : new.read ≡ (log_read new).entries
  pub unspent : new.spent ≡ old.spent
  pub waited : (Rose old.waits new.waits × (knows_base (rules_read new) new.bytes ≡ true)) ⊎ ForSome new.all (λ all. new.given ≡ Some all)

-- no base is known yet, and the feed waited
pub record FindsNone (old new : Read) : Type 0 where
  pub unread : new.read ≡ []
  pub unspent : new.spent ≡ old.spent
  pub waited : Rose old.waits new.waits
  pub unknown : knows_base (rules_read new) new.bytes ≡ false

-- why the search ended
abbrev pub FailsSearch : Read → Read → EndCause → Type 0
FailsSearch old new FeedFault = Rose old.faults new.faults
FailsSearch old new (BadLog offset why) = ((log_read new).fault ≡ Some (offset, why)) × (new.spent ≡ old.spent)
FailsSearch old new Memory = Unit {0}
FailsSearch old new AtEnd = ⊥
FailsSearch old new (OwnJournal j) = ⊥
FailsSearch old new (Purged g) = ⊥

abbrev pub Found : Read → Result (Option Position) EndCause → Read → Type 0
Found old (Ok (Some p)) new = FindsEnd old new p
Found old (Ok None) new = FindsNone old new
Found old (Err cause) new = FailsSearch old new cause

-- ---- of a lane

-- the log that is told so far knows its base
abbrev pub KnowsBase : Seen → Type 0
KnowsBase L = OfGiven L (λ bytes. knows_base (rules_of L.shard.keyspace L.schema) bytes ≡ true)

-- The lane goes on from this position: the base of what was given, with each entry that is whole in it; so it is the log's base with its first entries. The feed waited and the base is known, or all was given.
pub record FindsStart (L M : Seen) (p : Position) : Type 0 where
  pub seeks : M.seeks ≡ false
  pub goes_on : M.ended ≡ false
  pub start : M.start ≡ Streaming p
  pub position : OfGiven M (λ bytes. p ≡ position_after (log_seen M bytes).base (log_seen M bytes).entries)
  pub first : ForSome M.all (λ all. (m : ℕ) × IsPositionAfter (log_seen M all).base (take m (log_seen M all).entries) p)
  pub waited : (Rose L.waits M.waits × KnowsBase M) ⊎ HasGivenAll M
  pub stands : Stands M []

-- the feed waited, and what was given has no base that is known
pub record SeeksOn (L M : Seen) : Type 0 where
  pub seeks : M.seeks ≡ true
  pub goes_on : M.ended ≡ false
  pub waited : Rose L.waits M.waits
  pub unknown : OfGiven M (λ bytes. knows_base (rules_of M.shard.keyspace M.schema) bytes ≡ false)

-- why there is no start: the feed failed, or this is wrong with the log, or memory ran out
abbrev pub HasNoStart : Seen → Seen → EndCause → Type 0
HasNoStart L M FeedFault = Rose L.faults M.faults
HasNoStart L M (BadLog offset why) = ForSome M.all (λ all. (log_seen M all).fault ≡ Some (offset, why))
HasNoStart L M Memory = Unit {0}
HasNoStart L M AtEnd = ⊥
HasNoStart L M (OwnJournal j) = ⊥
HasNoStart L M (Purged g) = ⊥

abbrev pub FindsEndOf : Seen → Result (Option Position) EndCause → Seen → Type 0
FindsEndOf L (Ok (Some p)) M = FindsStart L M p
FindsEndOf L (Ok None) M = SeeksOn L M
FindsEndOf L (Err cause) M = (M.ended ≡ true) × HasNoStart L M cause
