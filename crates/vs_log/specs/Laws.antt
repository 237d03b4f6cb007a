-- The laws that tie the table to the productions.
use Rattle.std.specs.List.{AllByRecursion}
use Rattle.std.specs.Prelude.{true, false, ◌≡◌, ◌≤◌, ◌<◌, ◌+◌, length, take, drop, map, ◌⊎◌, List, [], ◌∷◌, ◌++◌, Option, Some, None, Ok, Err, ℕ}
use Rattle.vs_base.specs.Limits.{most_intervals}
use Rattle.vs_base.specs.declared.Change.{Change}
use Rattle.vs_base.specs.declared.Gtid.{Gtid}
use Rattle.vs_base.specs.declared.Why.{Why}
use Rattle.vs_base.specs.declared.Why.TheVariants.{BadMagic}
use Rattle.vs_gtid.specs.declared.Work.TheVariants.{Rows}
use Rattle.vs_gtid.specs.declared.Entry.{Entry}
use Rattle.vs_gtid.specs.Logs.{Log, HaveDistinctGtids}
use Rattle.vs_gtid.specs.Positions.{Position, has}
use Rattle.vs_gtid.specs.Joins.{added}
use Rattle.vs_log.specs.States.{State}
use Rattle.vs_log.specs.States.Counted.{Changed}
use Rattle.vs_binlog.specs.Heads.{Event, length_of}
use Rattle.vs_log.specs.Table.{Rules, more_work, step}
use Rattle.vs_log.specs.Events.{IsPart, joined, last_place}
use Rattle.vs_log.specs.Meaning.{front, has_magic, is_base_known, knows_base, log_meant, log_of, log_unread}
use Rattle.vs_log.specs.Productions.{BeginsLog, EntryEndsAt, IsCut, IsWholeLog, Means, RefusesEvent, StandsAt}
use Rattle.vs_log.specs.Steps.{Reaches, next_state, open_gtid, result_with_past, with_past}

-- The table takes an event where, and only where, the beginning of a log goes on with it.
pub record TakesBeginnings {M : Type 0} (rules : Rules M) : Type 0 where
  pub takes : (events : List Event) (s next : State M) (e : Event) → BeginsLog rules events s → step rules s e ≡ Ok next → BeginsLog rules (events ++ e ∷ []) next
  -- nothing that begins a log goes on with what is refused, whatever follows
  pub refuses : (events more : List Event) (s t : State M) (e : Event) (why : Why) → BeginsLog rules events s → step rules s e ≡ Err why → BeginsLog rules (events ++ e ∷ more) t → ⊥
  -- what begins a log does so in one way
  pub once : (events : List Event) (s t : State M) → BeginsLog rules events s → BeginsLog rules events t → s ≡ t

-- What bytes mean by the table is what they mean by the productions, and nothing else is.
pub record MeansByProductions {M : Type 0} (rules : Rules M) (bytes : List ℕ) : Type 0 where
  pub means : Means rules bytes (log_meant rules bytes)
  pub only : (log : Log) → Means rules bytes log → log ≡ log_meant rules bytes

-- What more bytes do: entries stay, and come behind; a fault stays as it is, and all else with it.
pub record Grows {M : Type 0} (rules : Rules M) (bytes more : List ℕ) : Type 0 where
  pub entries : (later : List Entry) × ((log_meant rules (bytes ++ more)).entries ≡ (log_meant rules bytes).entries ++ later)
  -- so what was given stays, however the bytes are cut into pieces
  pub given : (n : ℕ) → n ≤ length (log_meant rules bytes).entries → take n (log_meant rules (bytes ++ more)).entries ≡ take n (log_meant rules bytes).entries
  pub faulty : (fault : ℕ × Why) → (log_meant rules bytes).fault ≡ Some fault → log_meant rules (bytes ++ more) ≡ log_meant rules bytes
  -- so do the places of entries
  pub begins : (g : Gtid) (at : ℕ) → StandsAt rules bytes g at → StandsAt rules (bytes ++ more) g at
  pub ends : (n at : ℕ) → EntryEndsAt rules bytes n at → EntryEndsAt rules (bytes ++ more) n at
  -- what a whole log says
  pub whole : (base : Position) (es : List Entry) → IsWholeLog rules bytes base es → log_meant rules bytes ≡ record { base = base; entries = es; fault = None }

-- When the base is known, by the beginning of a log that the bytes are.
pub record KnowsItsBase {M : Type 0} (rules : Rules M) (bytes : List ℕ) : Type 0 where
  pub parts : (events : List Event) (s : State M) (rest : List ℕ) (why : Option Why) → IsCut bytes events rest → BeginsLog rules events s → RefusesEvent rules s (4 + length (joined events)) rest why →
      knows_base rules bytes ≡ is_base_known s.place why
  -- once it is known, it is the log's base, whatever follows
  pub behind : (events : List Event) (s : State M) (rest : List ℕ) → IsCut bytes events rest → BeginsLog rules events s → is_base_known s.place None ≡ true →
      (knows_base rules bytes ≡ true) × ((log_meant rules bytes).base ≡ s.base)
  pub short : has_magic bytes ≡ true → length bytes < 4 → knows_base rules bytes ≡ false
  pub none : has_magic bytes ≡ false → knows_base rules bytes ≡ false
  -- where it isn't known, the log has none
  pub unknown : knows_base rules bytes ≡ false → (log_meant rules bytes).base ≡ []
  -- a base that is known stays, whatever bytes come
  pub stays : (more : List ℕ) → knows_base rules bytes ≡ true → (knows_base rules (bytes ++ more) ≡ true) × ((log_meant rules (bytes ++ more)).base ≡ (log_meant rules bytes).base)
  -- where the log has an entry, its base is known
  pub entries : 1 ≤ length (log_meant rules bytes).entries → knows_base rules bytes ≡ true

-- no front of the bytes is a whole log
abbrev pub HasNoEntry : {M : Type 0} → Rules M → List ℕ → Type 0
HasNoEntry rules bytes = (front more : List ℕ) (base : Position) (es : List Entry) → bytes ≡ front ++ more → IsWholeLog rules front base es → ⊥

-- these are the base and the entries of the longest front of the bytes that is a whole log
pub record IsLongest {M : Type 0} (rules : Rules M) (bytes : List ℕ) (base : Position) (entries : List Entry) : Type 0 where
  pub prefix : List ℕ
  pub rest : List ℕ
  pub are : bytes ≡ prefix ++ rest
  pub whole : IsWholeLog rules prefix base entries
  pub longest : (front more : List ℕ) (b : Position) (es : List Entry) → bytes ≡ front ++ more → IsWholeLog rules front b es → length front ≤ length prefix

-- The base and the entries are those of the longest front that is a whole log. Where no front is one, there are none.
pub record IsOfWholeLog {M : Type 0} (rules : Rules M) (bytes : List ℕ) : Type 0 where
  pub some : IsLongest rules bytes (log_meant rules bytes).base (log_meant rules bytes).entries
      ⊎ (HasNoEntry rules bytes × ((log_meant rules bytes).base ≡ []) × ((log_meant rules bytes).entries ≡ []))
  -- what a whole log at the front has, comes first
  pub fronts : (front more : List ℕ) (base : Position) (es : List Entry) → bytes ≡ front ++ more → IsWholeLog rules front base es → (later : List Entry) × ((log_meant rules bytes).entries ≡ es ++ later)

-- with each entry's GTID in turn the set has at most 1,024 intervals
abbrev pub FitAlong : Position → List Entry → Type 0
FitAlong p [] = Unit {0}
FitAlong p (e ∷ es) = (length (added p e.gtid) ≤ most_intervals) × FitAlong (added p e.gtid) es

-- no GTID of the log stands twice, or lies in the base; and the base with the entries up to each one isn't too large
pub record HasNewGtids (log : Log) : Type 0 where
  pub distinct : HaveDistinctGtids log.entries
  pub lacking : AllByRecursion (λ e. has log.base e.gtid ≡ false) log.entries
  pub few : FitAlong log.base log.entries

-- The places of an entry are told by the bytes alone.
pub record HasOnePlace {M : Type 0} (rules : Rules M) (bytes : List ℕ) : Type 0 where
  -- the GTID event of an entry stands at one place
  pub begins : (g : Gtid) (at other : ℕ) → StandsAt rules bytes g at → StandsAt rules bytes g other → at ≡ other
  -- the entry behind n others ends at one place
  pub ends : (n at other : ℕ) → EntryEndsAt rules bytes n at → EntryEndsAt rules bytes n other → at ≡ other
  -- and up to there the bytes are a whole log, of the same base and of the entries up to that one
  pub whole : (n at : ℕ) → EntryEndsAt rules bytes n at → IsWholeLog rules (take at bytes) (log_meant rules bytes).base (take (n + 1) (log_meant rules bytes).entries)

-- How far a log is read, event by event, and what it means where the reading ends.
pub record ReadsInSteps {M : Type 0} (rules : Rules M) : Type 0 where
  -- behind the magic nothing is read yet
  pub starts : (bytes : List ℕ) → has_magic bytes ≡ true → 4 ≤ length bytes → Reaches rules bytes 4 front
  -- what is reached lies within the bytes, and behind the magic
  pub within : (bytes : List ℕ) (at : ℕ) (s : State M) → Reaches rules bytes at s → (has_magic bytes ≡ true) × (4 ≤ length bytes) × (at ≤ length bytes) × (at ≤ last_place)
  -- an event that is taken leads on
  pub leads : (bytes : List ℕ) (at : ℕ) (s next : State M) → Reaches rules bytes at s → next_state rules at s (drop at bytes) ≡ Ok next → Reaches rules bytes (at + length_of (drop at bytes)) next
  -- where none is taken, the log ends so
  pub ends : (bytes : List ℕ) (at : ℕ) (s : State M) (why : Option Why) → Reaches rules bytes at s → next_state rules at s (drop at bytes) ≡ Err why →
      (log_meant rules bytes ≡ log_of s at why) × (knows_base rules bytes ≡ is_base_known s.place why)
  -- the entries that were reached are the first of the log
  pub entries : (bytes : List ℕ) (at : ℕ) (s : State M) → Reaches rules bytes at s → (later : List Entry) × ((log_meant rules bytes).entries ≡ s.entries ++ later)
  -- a base that is known where the reading stands is the log's
  pub base : (bytes : List ℕ) (at : ℕ) (s : State M) → Reaches rules bytes at s → is_base_known s.place None ≡ true → (knows_base rules bytes ≡ true) × ((log_meant rules bytes).base ≡ s.base)
  -- and stays known
  pub known : (at : ℕ) (s next : State M) (rest : List ℕ) → is_base_known s.place None ≡ true → next_state rules at s rest ≡ Ok next → is_base_known next.place None ≡ true
  -- bytes without a whole magic are read no further
  pub unread : (bytes : List ℕ) → has_magic bytes ≡ false → (log_meant rules bytes ≡ log_unread (Some BadMagic)) × (knows_base rules bytes ≡ false)
  pub short : (bytes : List ℕ) → has_magic bytes ≡ true → length bytes < 4 → (log_meant rules bytes ≡ log_unread None) × (knows_base rules bytes ≡ false)
  -- with more bytes it is reached as before, and what is refused stays so
  pub longer : (bytes more : List ℕ) (at : ℕ) (s : State M) → Reaches rules bytes at s → Reaches rules (bytes ++ more) at s
  pub refused : (at : ℕ) (s : State M) (rest more : List ℕ) (why : Why) → next_state rules at s rest ≡ Err (Some why) → next_state rules at s (rest ++ more) ≡ Err (Some why)
  -- where nothing is wrong and no event is taken, less than one is left
  pub part : (at : ℕ) (s : State M) (rest : List ℕ) → next_state rules at s rest ≡ Err None → IsPart rest
  -- an event behind which the base isn't known leaves the base and the GTIDs
  pub early : (at : ℕ) (s next : State M) (rest : List ℕ) → next_state rules at s rest ≡ Ok next → is_base_known next.place None ≡ false → (next.base ≡ s.base) × (next.known ≡ s.known)
  -- what an event does doesn't hang on the entries before it
  pub past : (at : ℕ) (s : State M) (rest : List ℕ) (past : List Entry) → next_state rules at (with_past past s) rest ≡ result_with_past past (next_state rules at s rest)

-- where no entry is open, the event at this place may begin one there, and ends none; the one that is open goes on, or ends
abbrev pub OpensOrEnds : {M : Type 0} → Rules M → List ℕ → ℕ → State M → State M → Option Gtid → Type 0
OpensOrEnds rules bytes at s next None = ((g : Gtid) → open_gtid next.place ≡ Some g → StandsAt rules bytes g at) × (next.entries ≡ s.entries)
OpensOrEnds rules bytes at s next (Some g) =
    ((open_gtid next.place ≡ Some g) × (next.entries ≡ s.entries)) ⊎ ((open_gtid next.place ≡ None) × ((e : Entry) × (next.entries ≡ s.entries ++ e ∷ []) × (e.gtid ≡ g)))

-- Which entry is open, and where entries begin and end.
pub record TellsEntries {M : Type 0} (rules : Rules M) : Type 0 where
  -- an event that is taken
  pub opens : (bytes : List ℕ) (at : ℕ) (s next : State M) → Reaches rules bytes at s → next_state rules at s (drop at bytes) ≡ Ok next → OpensOrEnds rules bytes at s next (open_gtid s.place)
  -- behind the event with which an entry comes, that entry ends
  pub ends : (bytes : List ℕ) (at : ℕ) (s next : State M) (e : Entry) → Reaches rules bytes at s → next_state rules at s (drop at bytes) ≡ Ok next → next.entries ≡ s.entries ++ e ∷ [] →
      EntryEndsAt rules bytes (length s.entries) (at + length_of (drop at bytes))

-- the changes of further rows events come behind those of the transaction
abbrev pub AddsChanges : Type 0
AddsChanges = (before changes : List Change) → more_work (Rows before) (map Changed changes) ≡ Some (Rows (before ++ changes))

-- The laws, at each type of what is known of tables.

abbrev pub AlwaysTakesBeginnings : (M : Type 0) → Type 0
AlwaysTakesBeginnings M = (rules : Rules M) → TakesBeginnings rules

abbrev pub AlwaysMeansByProductions : (M : Type 0) → Type 0
AlwaysMeansByProductions M = (rules : Rules M) (bytes : List ℕ) → MeansByProductions rules bytes

abbrev pub AlwaysGrows : (M : Type 0) → Type 0
AlwaysGrows M = (rules : Rules M) (bytes more : List ℕ) → Grows rules bytes more

abbrev pub AlwaysKnowsItsBase : (M : Type 0) → Type 0
AlwaysKnowsItsBase M = (rules : Rules M) (bytes : List ℕ) → KnowsItsBase rules bytes

abbrev pub AlwaysOfWholeLog : (M : Type 0) → Type 0
AlwaysOfWholeLog M = (rules : Rules M) (bytes : List ℕ) → IsOfWholeLog rules bytes

abbrev pub AlwaysNewGtids : (M : Type 0) → Type 0
AlwaysNewGtids M = (rules : Rules M) (bytes : List ℕ) → HasNewGtids (log_meant rules bytes)

abbrev pub AlwaysOnePlace : (M : Type 0) → Type 0
AlwaysOnePlace M = (rules : Rules M) (bytes : List ℕ) → HasOnePlace rules bytes

abbrev pub AlwaysReadsInSteps : (M : Type 0) → Type 0
AlwaysReadsInSteps M = (rules : Rules M) → ReadsInSteps rules

abbrev pub AlwaysTellsEntries : (M : Type 0) → Type 0
AlwaysTellsEntries M = (rules : Rules M) → TellsEntries rules
