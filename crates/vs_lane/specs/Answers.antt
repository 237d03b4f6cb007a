-- What a piece says of what came of the log.
use Rattle.std.specs.Prelude.{◌≡◌, ◌⊎◌, ℕ, Bool, true, false, List, Some, None, IsTrue}
use Rattle.std.specs.Option.{ForSome}
use Rattle.vs_base.specs.declared.Gtid.{Gtid}
use Rattle.vs_base.specs.declared.ShardName.{ShardName}
use Rattle.vs_base.specs.declared.Why.TheVariants.{TooLarge}
use Rattle.vs_gtid.specs.declared.Entry.{Entry}
use Rattle.vs_gtid.specs.Missing.{IsFirstMissing}
use Rattle.vs_gtid.specs.Positions.{Position, IsSubset}
use Rattle.vs_filter.specs.declared.bound.Bound.{Bound}
use Rattle.vs_outside.specs.Counts.{Rose}
use Rattle.vs_model.specs.Core.{HasBase}
use Rattle.vs_model.specs.Logs.{journal_of, own_journal}
use Rattle.vs_render.specs.declared.piece.Piece.{Piece}
use Rattle.vs_render.specs.declared.piece.Piece.TheVariants.{Tx, Foreign, Chunk, CopyDone, Idle, End}
use Rattle.vs_render.specs.declared.piece.EndCause.{EndCause}
use Rattle.vs_render.specs.declared.piece.EndCause.TheVariants.{AtEnd, OwnJournal, FeedFault, BadLog, Purged, Memory}
use Rattle.vs_render.specs.Bodies.{IsTooLarge, entry_body}
use Rattle.vs_render.specs.Posted.{IsNoSwitch}
use Rattle.vs_lane.specs.Feeding.{Read, log_read, tells_log}
use Rattle.vs_lane.specs.Stands.{IsAtEnd, Seen, StreamsFrom, log_seen}
use Rattle.vs_lane.specs.declared.entries.Came.{Came}
use Rattle.vs_lane.specs.declared.entries.Came.TheVariants as came

abbrev pub IsIdle : Piece → Type 0
IsIdle (Idle room) = Unit {0}
IsIdle (Tx g time body) = ⊥
IsIdle (Foreign g time j body) = ⊥
IsIdle (Chunk q l time body) = ⊥
IsIdle (CopyDone q time room) = ⊥
IsIdle (End cause room) = ⊥

abbrev pub IsEndBy : EndCause → Piece → Type 0
IsEndBy cause (End said room) = said ≡ cause
IsEndBy cause (Idle room) = ⊥
IsEndBy cause (Tx g time body) = ⊥
IsEndBy cause (Foreign g time j body) = ⊥
IsEndBy cause (Chunk q l time body) = ⊥
IsEndBy cause (CopyDone q time room) = ⊥

-- an entry ends the lane: it is an own journal, or its body is too large, or memory ran out; its GTID event stands at this place
abbrev pub EndsAtEntry : ShardName → Bound → Entry → ℕ → EndCause → Type 0
EndsAtEntry s bound e at (OwnJournal j) = own_journal s e ≡ Some j
EndsAtEntry s bound e at (BadLog offset why) = (own_journal s e ≡ None) × (offset ≡ at) × (size : ℕ) × (why ≡ TooLarge size) × IsTooLarge (entry_body bound.tables s e) size
EndsAtEntry s bound e at Memory = Unit {0}
EndsAtEntry s bound e at AtEnd = ⊥
EndsAtEntry s bound e at FeedFault = ⊥
EndsAtEntry s bound e at (Purged g) = ⊥

-- the piece of an entry
abbrev pub GivesPiece : ShardName → Bound → Entry → ℕ → Piece → Type 0
GivesPiece s bound e at (Tx g time body) =
    (e.gtid ≡ g) × (e.time ≡ time) × (body.body ≡ entry_body bound.tables s e) × (own_journal s e ≡ None) × IsNoSwitch e
GivesPiece s bound e at (Foreign g time j body) =
    (e.gtid ≡ g) × (e.time ≡ time) × (body.body ≡ entry_body bound.tables s e) × (own_journal s e ≡ None) × (journal_of e.work ≡ Some j) × IsTrue j.shards
GivesPiece s bound e at (End cause room) = EndsAtEntry s bound e at cause
GivesPiece s bound e at (Idle room) = ⊥
GivesPiece s bound e at (Chunk q l time body) = ⊥
GivesPiece s bound e at (CopyDone q time room) = ⊥

-- the end of a log ends a lane, or is none
abbrev pub SaysEnd : Bool → Piece → Type 0
SaysEnd until_end (Idle room) = until_end ≡ false
SaysEnd until_end (End cause room) = (until_end ≡ true) × (cause ≡ AtEnd)
SaysEnd until_end (Tx g time body) = ⊥
SaysEnd until_end (Foreign g time j body) = ⊥
SaysEnd until_end (Chunk q l time body) = ⊥
SaysEnd until_end (CopyDone q time room) = ⊥

-- the piece of what came
abbrev pub SaysCame : ShardName → Bound → Bool → Came → Piece → Type 0
SaysCame s bound until_end (came.Entry e at) p = GivesPiece s bound e at p
SaysCame s bound until_end came.NotYet p = IsIdle p
SaysCame s bound until_end came.End p = SaysEnd until_end p
SaysCame s bound until_end came.FeedFault p = IsEndBy FeedFault p
SaysCame s bound until_end (came.BadLog offset why) p = IsEndBy (BadLog offset why) p
SaysCame s bound until_end came.Memory p = IsEndBy Memory p

-- the base that is known lacks nothing of the start, and the piece says what came; or it says the least GTID that the start lacks
abbrev pub SaysInBase : ShardName → Bound → Position → Bool → Read → Came → Piece → Type 0
SaysInBase s bound start until_end r said p =
    (IsSubset (log_read r).base start × SaysCame s bound until_end said p) ⊎ ((g : Gtid) × IsEndBy (Purged g) p × IsFirstMissing (log_read r).base start g)

abbrev pub EitherBy : Bool → Type 0 → Type 0 → Type 0
EitherBy true P Q = P
EitherBy false P Q = Q

-- a failed read and want of memory come first
abbrev pub Says : ShardName → Bound → Position → Bool → Read → Came → Piece → Type 0
Says s bound start until_end r said p = EitherBy (tells_log said) (SaysInBase s bound start until_end r said p) (SaysCame s bound until_end said p)

-- ---- what a step says beside the piece

-- of what these bytes tell nothing is due, no journal lies ahead, nothing is wrong, and the start has the base
pub record HasNothingDue (L : Seen) (bytes : List ℕ) : Type 0 where
  pub base : HasBase (log_seen L bytes) L.start
  pub none : StreamsFrom L.entry (λ p. IsAtEnd L.shard (log_seen L bytes) p)
  pub faultless : (log_seen L bytes).fault ≡ None

-- what holds of what was given so far, where the log is told
abbrev pub OfGiven : Seen → (List ℕ → Type 0) → Type 0
OfGiven L P = ForSome L.all (λ all. ForSome L.given (λ bytes. P bytes))

-- all of a told log was given
abbrev pub HasGivenAll : Seen → Type 0
HasGivenAll L = ForSome L.all (λ all. L.given ≡ Some all)

-- The feed waited, or its end isn't the lane's; and all that was due of what it gave was told.
pub record IsIdleFor (L M : Seen) : Type 0 where
  pub waited : Rose L.waits M.waits ⊎ ((M.until_end ≡ false) × HasGivenAll M)
  pub nothing : OfGiven M (HasNothingDue M)

abbrev pub EndComes : Seen → Seen → EndCause → Type 0
EndComes L M FeedFault = Rose L.faults M.faults
EndComes L M AtEnd = Unit {0}
EndComes L M (OwnJournal j) = Unit {0}
EndComes L M (BadLog offset why) = Unit {0}
EndComes L M (Purged g) = Unit {0}
EndComes L M Memory = Unit {0}

-- when a piece comes, beside what it tells
abbrev pub PieceComes : Seen → Seen → Piece → Type 0
PieceComes L M (Idle room) = IsIdleFor L M
PieceComes L M (End cause room) = EndComes L M cause
PieceComes L M (Foreign g time j body) = IsTrue j.shards
PieceComes L M (Tx g time body) = Unit {0}
PieceComes L M (Chunk q l time body) = ⊥
PieceComes L M (CopyDone q time room) = ⊥
