-- How a lane and the pieces that it gave fit, and what leads from one lane to another.
use Rattle.std.specs.Prelude.{◌≡◌, ◌≢◌, ◌≤◌, ◌⊎◌, ℕ, Bool, true, not, List, [], ◌∷◌, ◌++◌, Option, Some, None}
use Rattle.std.specs.Option.{ForSome}
use Rattle.std.specs.List.{filter}
use Rattle.vs_base.specs.declared.ShardName.{ShardName}
use Rattle.vs_base.specs.declared.Why.{Why}
use Rattle.vs_base.specs.declared.Why.TheVariants.{TooLarge}
use Rattle.vs_gtid.specs.declared.Entry.{Entry}
use Rattle.vs_gtid.specs.declared.JournalValue.{JournalValue}
use Rattle.vs_gtid.specs.Joins.{added}
use Rattle.vs_gtid.specs.Logs.{Log}
use Rattle.vs_gtid.specs.Missing.{IsFirstMissing}
use Rattle.vs_gtid.specs.Positions.{Position, has}
use Rattle.vs_gtid.specs.Vectors.{Place, IsCanonicalPlace}
use Rattle.vs_gtid.specs.Vectors.Place.{Streaming}
use Rattle.vs_schema.specs.declared.schema.Schema.{Schema}
use Rattle.vs_log.specs.Meaning.{log_meant}
use Rattle.vs_log.specs.Productions.{StandsAt}
use Rattle.vs_entries.specs.Rules.{rules_of}
use Rattle.vs_filter.specs.declared.bound.Bound.{Bound}
use Rattle.vs_model.specs.Logs.{due, stop}
use Rattle.vs_model.specs.Core.{Piece as Given, AreGiven, HasBase, PlaceAfter}
use Rattle.vs_render.specs.declared.piece.Piece.{Piece}
use Rattle.vs_render.specs.declared.piece.EndCause.{EndCause}
use Rattle.vs_render.specs.declared.piece.EndCause.TheVariants.{AtEnd, OwnJournal, FeedFault, BadLog, Purged, Memory}
use Rattle.vs_render.specs.Bodies.{IsTooLarge, entry_body}
use Rattle.vs_render.specs.Posted.{Shows}
use Rattle.vs_lane.specs.Pieces.{EndIsLast, OnEnd, meant_in, spelled_in}

-- What a contract sees of a lane: its shard, how the shard's log is read and what is picked of it, where it starts and whether that was found, what its feed tells, how many bytes it holds unread, whether it gave an End, and the place to which its pieces have led.
pub record Seen : Type 0 where
  pub shard : ShardName
  pub schema : Schema
  pub bound : Bound
  pub start : Place
  pub seeks : Bool
  pub until_end : Bool
  pub origin : ShardName
  pub all : Option (List ℕ)
  pub given : Option (List ℕ)
  pub sound : Bool
  pub faults : ℕ
  pub waits : ℕ
  pub held : ℕ
  pub ended : Bool
  pub entry : Place

-- what the log of the lane's shard means, of these bytes
abbrev pub log_seen : Seen → List ℕ → Log
log_seen L bytes = log_meant (rules_of L.shard.keyspace L.schema) bytes

-- the place of a copy is spelled in the one way
abbrev pub IsCanonicalCopy : Place → Type 0
IsCanonicalCopy (Streaming p) = Unit {0}
IsCanonicalCopy place = IsCanonicalPlace place

-- what is given leads from the one place to the other
abbrev pub Along : Place → List Given → Place → Type 0
Along start [] place = place ≡ start
Along start (piece ∷ pieces) place = (mid : Place) × PlaceAfter start piece mid × IsCanonicalCopy mid × Along mid pieces place

-- the position with the GTIDs of the entries
abbrev pub position_after : Position → List Entry → Position
position_after p [] = p
position_after p (e ∷ es) = position_after (added p e.gtid) es

-- the entries that a position lacks
abbrev pub lacking : Position → List Entry → List Entry
lacking p es = filter (λ e. not (has p e.gtid)) es

-- nothing is due from the position, and no journal lies ahead
abbrev pub IsAtEnd : ShardName → Log → Position → Type 0
IsAtEnd s log p = (due s log p ≡ []) × (stop s log p ≡ None)

-- the next entry that is due has a body that is too large; its GTID event stands at this place
pub record IsNextTooLarge (L : Seen) (bytes : List ℕ) (p : Position) (offset size : ℕ) : Type 0 where
  pub e : Entry
  pub rest : List Entry
  pub next : due L.shard (log_seen L bytes) p ≡ e ∷ rest
  pub stands : StandsAt (rules_of L.shard.keyspace L.schema) bytes e.gtid offset
  pub large : IsTooLarge (entry_body L.bound.tables L.shard e) size

-- P holds of the position from which the shard streams; it holds of no place of a copy
abbrev pub StreamsFrom : Place → (Position → Type 0) → Type 0
StreamsFrom (Streaming p) P = P p
StreamsFrom place P = ⊥

-- the position of a start, which for a copy is the empty set
abbrev pub start_of : Place → Position
start_of (Streaming p) = p
start_of place = []

-- what is wrong with the log of these bytes, where all due entries before it were given
abbrev pub IsBadAt : Seen → List ℕ → ℕ → Why → Position → Type 0
IsBadAt L bytes offset why p =
    (IsAtEnd L.shard (log_seen L bytes) p × ((log_seen L bytes).fault ≡ Some (offset, why)))
    ⊎ ((size : ℕ) × (why ≡ TooLarge size) × IsNextTooLarge L bytes p offset size)

-- when a lane of these bytes ends, by the place to which its pieces have led
abbrev pub EndsBy : Seen → List ℕ → EndCause → Type 0
EndsBy L bytes AtEnd = StreamsFrom L.entry (λ p. IsAtEnd L.shard (log_seen L bytes) p) × ((log_seen L bytes).fault ≡ None)
EndsBy L bytes (OwnJournal j) = StreamsFrom L.entry (λ p. (due L.shard (log_seen L bytes) p ≡ []) × (stop L.shard (log_seen L bytes) p ≡ Some j))
EndsBy L bytes (BadLog offset why) = StreamsFrom L.entry (λ p. IsBadAt L bytes offset why p)
EndsBy L bytes (Purged missing) = IsFirstMissing (log_seen L bytes).base (start_of L.start) missing
EndsBy L bytes FeedFault = Unit {0}
EndsBy L bytes Memory = Unit {0}

-- the log's base lies in the start, for all ends that tell of what is due
abbrev pub EndHasBase : Seen → List ℕ → EndCause → Type 0
EndHasBase L bytes AtEnd = HasBase (log_seen L bytes) L.start
EndHasBase L bytes (OwnJournal j) = HasBase (log_seen L bytes) L.start
EndHasBase L bytes (BadLog offset why) = HasBase (log_seen L bytes) L.start
EndHasBase L bytes (Purged missing) = Unit {0}
EndHasBase L bytes FeedFault = Unit {0}
EndHasBase L bytes Memory = Unit {0}

-- what else an end says
abbrev pub EndFits : Seen → EndCause → Type 0
EndFits L AtEnd = (L.until_end ≡ true) × ForSome L.all (λ all. L.given ≡ Some all)
EndFits L FeedFault = L.faults ≢ 0
EndFits L (OwnJournal j) = Unit {0}
EndFits L (BadLog offset why) = Unit {0}
EndFits L (Purged missing) = Unit {0}
EndFits L Memory = Unit {0}

-- The pieces of a lane with a told log tell what a lane of this log may give from the start, and end where such a lane ends.
pub record StandsOn (L : Seen) (bytes : List ℕ) (l : List Piece) (told : List Given) (last : Option JournalValue) : Type 0 where
  pub given_there : AreGiven (meant_in L.bound L.schema) L.shard (log_seen L bytes) told last L.start
  pub base : told ≢ [] → HasBase (log_seen L bytes) L.start
  pub ends : OnEnd (EndsBy L bytes) l
  pub end_base : OnEnd (EndHasBase L bytes) l

-- The lane has given these pieces: they tell what led to its entry, and an End is there, with its cause, just where the lane has given one.
pub record Stands (L : Seen) (l : List Piece) : Type 0 where
  pub told : List Given
  pub last : Option JournalValue
  pub shows : Shows (spelled_in L.bound) L.shard l told last
  pub along : Along L.start told L.entry
  pub stands_on : ForSome L.all (λ all. StandsOn L all l told last)
  pub end_last : EndIsLast L.ended l
  pub fits : OnEnd (EndFits L) l

-- what no call changes of a lane is the same, and no count fell
pub record IsSameLane (L M : Seen) : Type 0 where
  pub shard : M.shard ≡ L.shard
  pub schema : M.schema ≡ L.schema
  pub bound : M.bound ≡ L.bound
  pub until_end : M.until_end ≡ L.until_end
  pub origin : M.origin ≡ L.origin
  pub all : M.all ≡ L.all
  pub sound : M.sound ≡ L.sound
  pub faults : L.faults ≤ M.faults
  pub waits : L.waits ≤ M.waits

-- the same lane, later: its start is the same too
pub record Later (L M : Seen) : Type 0 where
  pub same : IsSameLane L M
  pub start : M.start ≡ L.start
  pub seeks : M.seeks ≡ L.seeks

-- the pieces lead from one lane to the other, whatever led to the first
pub record Leads (L M : Seen) (ps : List Piece) : Type 0 where
  pub later : Later L M
  pub stands : (l : List Piece) → Stands L l → Stands M (l ++ ps)
