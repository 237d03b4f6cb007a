-- Where a walk over the bytes of a log stands, and how it goes on.
use Rattle.std.specs.Prelude.{◌≡◌, ◌≤◌, ◌<◌, ◌+◌, ◌⊎◌, ℕ, Bool, true, false, List, [], ◌∷◌, length, drop, Option, Some, None, Result, Ok, Err, IsSomeAnd}
use Rattle.vs_base.specs.declared.Why.{Why}
use Rattle.vs_gtid.specs.declared.Entry.{Entry}
use Rattle.vs_binlog.specs.Heads.{length_of}
use Rattle.vs_rows.specs.Tables.{Tables}
use Rattle.vs_log.specs.Events.{IsPart, last_place}
use Rattle.vs_log.specs.Meaning.{at_place, front, knows_base, log_meant}
use Rattle.vs_log.specs.Productions.{EntryEndsAt, StandsAt}
use Rattle.vs_log.specs.Steps.{Reaches, next_state}
use Rattle.vs_log.specs.Table.{Rules}
use Rattle.vs_entries.specs.Pieces.{IsBehind}
use Rattle.vs_entries.specs.Reading.{is_early, state_of, with_entries}
use Rattle.vs_entries.specs.Windows.{Windowed}
use Rattle.vs_entries.specs.declared.fault.Fault.{Fault}
use Rattle.vs_entries.specs.declared.out.Out.{Out}
use Rattle.vs_entries.specs.declared.out.Stop.{Stop}
use Rattle.vs_entries.specs.declared.out.Stop.TheVariants as stop
use Rattle.vs_entries.specs.declared.out.Turn.{Turn}
use Rattle.vs_entries.specs.declared.out.Turn.TheVariants.{Goes, Ends}
use Rattle.vs_entries.specs.declared.took.LogRefusal.{LogRefusal}
use Rattle.vs_entries.specs.declared.took.LogRefusal.TheVariants.{BadLog, Memory}
use Rattle.vs_entries.specs.declared.standing.Standing.{Standing}
use Rattle.vs_entries.specs.declared.standing.Standing.TheVariants.{Front, Between, Named, Inside}
use Rattle.vs_entries.specs.declared.walk.Next.{Next}
use Rattle.vs_entries.specs.declared.walk.Next.TheVariants.{Gave, Ended}
use Rattle.vs_entries.specs.declared.walk.Walk.{Walk}

-- the place of the GTID event of the entry that is open
abbrev pub IsBegunAt : Rules Tables → List ℕ → Standing → ℕ → Type 0
IsBegunAt rules bytes Front at = Unit {0}
IsBegunAt rules bytes (Between first) at = Unit {0}
IsBegunAt rules bytes (Named gtid size) at = StandsAt rules bytes gtid at
IsBegunAt rules bytes (Inside gtid size) at = StandsAt rules bytes gtid at

-- The events up to where the walk stands begin a log, with the entries that it gave and what it has taken.
pub record Stands (rules : Rules Tables) (bytes : List ℕ) (walk : Walk) : Type 0 where
  pub past : List Entry
  pub reaches : Reaches rules bytes walk.at (with_entries past (state_of walk.progress))
  pub given : length past ≡ walk.given
  pub few : walk.given ≤ walk.at
  pub begun : IsBegunAt rules bytes walk.progress.standing walk.begun

-- a walk that has taken nothing
pub record IsFresh (walk : Walk) : Type 0 where
  pub at : walk.at ≡ 4
  pub given : walk.given ≡ 0
  pub progress : state_of walk.progress ≡ front

-- where no entry is open, the next event may begin one
abbrev pub begun_after : Standing → ℕ → ℕ → ℕ
begun_after Front at begun = at
begun_after (Between first) at begun = at
begun_after standing at begun = begun

-- an event was taken, and these entries end with it
pub record IsMoved (rules : Rules Tables) (bytes : List ℕ) (old new : Walk) (entries : List Entry) : Type 0 where
  pub next : next_state rules old.at (state_of old.progress) (drop old.at bytes) ≡ Ok (with_entries entries (state_of new.progress))
  pub place : new.at ≡ old.at + length_of (drop old.at bytes)
  pub later : old.at + 19 ≤ new.at
  pub within : new.at ≤ length bytes
  pub early : new.at ≤ last_place
  pub begun : new.begun ≡ begun_after old.progress.standing old.at old.begun
  pub given : new.given ≡ old.given + length entries

-- What a turn over the bytes comes to: an event is taken, and perhaps an entry ends; or nothing whole is left, or it is refused. The entry, or what is wrong, is in the `Out`. Where memory ran out, all stayed as it was.
abbrev pub TurnsTo : Rules Tables → List ℕ → Walk → Walk → Out → Result Turn Stop → Type 0
TurnsTo rules bytes old new out (Ok Goes) = IsMoved rules bytes old new []
TurnsTo rules bytes old new out (Ok Ends) = IsSomeAnd out.entry (λ e. IsMoved rules bytes old new (e ∷ [])) × (is_early old.progress.standing ≡ false)
TurnsTo rules bytes old new out (Err stop.Wrong) = (next_state rules old.at (state_of old.progress) (drop old.at bytes) ≡ Err out.why) × (new ≡ old)
TurnsTo rules bytes old new out (Err stop.Memory) = new ≡ old

-- what is wrong with the first event behind the format description that isn't passed over
pub record IsStuck (rules : Rules Tables) (bytes : List ℕ) (walk : Walk) : Type 0 where
  pub stands : Stands rules bytes walk
  pub first : walk.progress.standing ≡ Between true
  pub why : Why
  pub refused : next_state rules walk.at (state_of walk.progress) (drop walk.at bytes) ≡ Err (Some why)

-- A walk over all bytes that were fed: whether its first event that tells of the base was refused.
pub record IsWalk (rules : Rules Tables) (bytes : List ℕ) (walk : Walk) (refused : Bool) : Type 0 where
  pub stands : IsFresh walk ⊎ Stands rules bytes walk
  pub early : is_early walk.progress.standing ≡ true → (walk.given ≡ 0) × (knows_base rules bytes ≡ refused)
  pub stuck : refused ≡ true → IsStuck rules bytes walk

-- The walk over all bytes that were fed, of which some were let go that the walk has passed.
pub record IsOver (rules : Rules Tables) (window : Windowed) (walk : Walk) (refused : Bool) : Type 0 where
  pub is : IsWalk rules window.bytes walk refused
  pub from : window.from ≤ walk.at
  pub begun : (window.from ≡ 0) ⊎ (4 < walk.at)

-- the fault that is kept is the log's, and all entries were given
abbrev pub KeepsFault : Rules Tables → List ℕ → ℕ → Option Fault → Type 0
KeepsFault rules bytes given None = Unit {0}
KeepsFault rules bytes given (Some fault) = (given ≡ length (log_meant rules bytes).entries) × ((log_meant rules bytes).fault ≡ Some (fault.offset, fault.why))

-- what a reader keeps of the bytes that it was fed
pub record IsReader (rules : Rules Tables) (window : Windowed) (walk : Walk) (refused : Bool) (kept : Option Fault) : Type 0 where
  pub over : IsOver rules window walk refused
  pub fault : KeepsFault rules window.bytes walk.given kept

-- the fault is told, or that memory ran out, which is kept
abbrev pub Tells : Fault → Bool → LogRefusal → Bool → Type 0
Tells fault old (BadLog offset why) new = (offset ≡ fault.offset) × (why ≡ fault.why) × (new ≡ old)
Tells fault old Memory new = new ≡ true

-- a walk that goes on from a first one, up to the first event that tells of the base: no such event was taken yet
pub record IsEarly (rules : Rules Tables) (bytes : List ℕ) (first walk : Walk) : Type 0 where
  pub stands : Stands rules bytes walk
  pub early : is_early walk.progress.standing ≡ true
  pub given : walk.given ≡ 0
  pub later : first.at ≤ walk.at
  pub base : walk.progress.base ≡ first.progress.base
  pub known : walk.progress.known ≡ first.progress.known

-- the walk is back where it was
pub record IsBack (old new : Walk) : Type 0 where
  pub at : new.at ≡ old.at
  pub begun : new.begun ≡ old.begun
  pub given : new.given ≡ old.given
  pub standing : new.progress.standing ≡ old.progress.standing
  pub state : state_of new.progress ≡ state_of old.progress

-- where nothing is wrong, less than an event is left
abbrev pub IsLeft : Option Why → List ℕ → Type 0
IsLeft None rest = IsPart rest
IsLeft (Some why) rest = Unit {0}

-- this entry comes next
abbrev pub ReadsNext : Rules Tables → List ℕ → Walk → Walk → Entry → Type 0
ReadsNext rules bytes old new e =
    IsBehind old.given (log_meant rules bytes).entries e × StandsAt rules bytes e.gtid new.begun × EntryEndsAt rules bytes old.given new.at × (new.given ≡ old.given + 1)

-- none comes, and this is wrong there
abbrev pub ReadsEnd : Rules Tables → List ℕ → Walk → Walk → Option Why → Type 0
ReadsEnd rules bytes old new why =
    (length (log_meant rules bytes).entries ≡ old.given) × ((log_meant rules bytes).fault ≡ at_place new.at why) × (new.given ≡ old.given) × IsLeft why (drop new.at bytes)

-- which of the two it is; the entry, or what is wrong, is in the `Out`
abbrev pub ReadsEntry : {E : Type 0} → Rules Tables → List ℕ → Walk → Walk → Out → Result Next E → Type 0
ReadsEntry rules bytes old new out (Ok Gave) = IsSomeAnd out.entry (λ e. ReadsNext rules bytes old new e)
ReadsEntry rules bytes old new out (Ok Ended) = ReadsEnd rules bytes old new out.why
ReadsEntry rules bytes old new out (Err memory) = new.given ≡ old.given
