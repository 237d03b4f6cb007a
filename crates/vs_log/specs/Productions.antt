-- Which bytes are a log, by productions over whole texts, and which are the beginning of one.
use Rattle.std.specs.Prelude.{◌≡◌, ◌≤◌, ◌<◌, ◌⊎◌, ℕ, ◌+◌, Bool, true, false, List, [], ◌∷◌, ◌++◌, length, take, drop, Option, Some, None, Ok, Err, map}
use Rattle.std.specs.List.{filter, AllByRecursion}
use Rattle.vs_base.specs.Limits.{most_intervals}
use Rattle.vs_base.specs.declared.Gtid.{Gtid}
use Rattle.vs_base.specs.declared.Why.{Why}
use Rattle.vs_base.specs.declared.Why.TheVariants.{BadMagic}
use Rattle.vs_gtid.specs.declared.Work.{Work}
use Rattle.vs_gtid.specs.declared.Work.TheVariants.{Rows, Journal}
use Rattle.vs_gtid.specs.declared.Entry.{Entry}
use Rattle.vs_gtid.specs.Logs.{Log}
use Rattle.vs_gtid.specs.Positions.{Position, has}
use Rattle.vs_gtid.specs.Joins.{added}
use Rattle.vs_log.specs.declared.event.Sort.{Sort}
use Rattle.vs_log.specs.declared.event.Sort.TheVariants.{PassedOver, FormatEvent, PreviousEvent, GtidEvent, QueryEvent, XidEvent, MapEvent, RowsEvent}
use Rattle.vs_log.specs.declared.statement.Statement.{Statement}
use Rattle.vs_log.specs.declared.statement.Statement.TheVariants.{Begin, Commit, Savepoint}
use Rattle.vs_log.specs.States.{Counted}
use Rattle.vs_log.specs.States.Counted.{Changed, Journaled}
use Rattle.vs_log.specs.States.{Place}
use Rattle.vs_log.specs.States.Place.{Front, Between, Named, Inside}
use Rattle.vs_log.specs.States.{State}
use Rattle.vs_binlog.specs.Heads.{Event, time_of, kind_of, length_of, body_of}
use Rattle.vs_log.specs.Events.{sort_of, is_held, limit, last_place, magic, joined, IsEvent}
use Rattle.vs_log.specs.Table.{Rules, format_refusal, gtid_in, single_work, step}
use Rattle.vs_log.specs.Meaning.{front, head_refusal, has_magic, log_of, log_unread}

-- events that aren't passed over
abbrev pub counts : Sort → Bool
counts PassedOver = false
counts sort = true

abbrev pub is_counted : Event → Bool
is_counted e = counts (sort_of e)

-- the bytes of events together
abbrev pub total : List Event → ℕ
total [] = 0
total (e ∷ es) = length_of e + total es

-- lists one after the other
abbrev pub in_turn : List (List Event) → List Event
in_turn [] = []
in_turn (group ∷ groups) = group ++ in_turn groups

pub record IsFormat (e : Event) : Type 0 where
  pub kind : sort_of e ≡ FormatEvent
  pub layout : format_refusal (body_of e) ≡ None

pub record IsGtid (e : Event) (g : Gtid) : Type 0 where
  pub kind : sort_of e ≡ GtidEvent
  pub layout : gtid_in (body_of e) ≡ Ok g

pub record Says {M : Type 0} (rules : Rules M) (e : Event) (statement : Statement) : Type 0 where
  pub kind : sort_of e ≡ QueryEvent
  pub layout : rules.statement (body_of e) ≡ Ok statement

pub record IsXid (e : Event) : Type 0 where
  pub kind : sort_of e ≡ XidEvent
  pub layout : 8 ≤ length (body_of e)

-- a table map: with it these tables are known, after those known before it
pub record IsMap {M : Type 0} (rules : Rules M) (maps : M) (e : Event) (more : M) : Type 0 where
  pub kind : sort_of e ≡ MapEvent
  pub layout : rules.map maps (body_of e) ≡ Ok more

-- a rows event, where these tables are known
pub record Tells {M : Type 0} (rules : Rules M) (maps : M) (e : Event) (counted : List Counted) : Type 0 where
  pub kind : sort_of e ≡ RowsEvent
  pub layout : rules.rows maps (kind_of e) (body_of e) ≡ Ok counted

-- PREVIOUS_GTIDS, at most once
abbrev pub IsBase : {M : Type 0} → Rules M → List Event → Position → Type 0
IsBase rules [] base = base ≡ []
IsBase rules (e ∷ []) base = (sort_of e ≡ PreviousEvent) × (rules.block (body_of e) ≡ Ok base)
IsBase rules (e ∷ f ∷ es) base = ⊥

-- (map | rows | savepoint)*: where the tables before are known, these events tell this, and these tables are known behind them
abbrev pub IsMiddle : {M : Type 0} → Rules M → M → List Event → List Counted → M → Type 0
IsMiddle rules before [] counted maps = (counted ≡ []) × (before ≡ maps)
IsMiddle rules before (e ∷ es) counted maps =
    ((known : _) × IsMap rules before e known × IsMiddle rules known es counted maps)
    ⊎ (((told more : List Counted) × Tells rules before e told × (counted ≡ told ++ more) × IsMiddle rules before es more maps)
    ⊎ (Says rules e Savepoint × IsMiddle rules before es counted maps))

-- changes alone, or one journal alone
abbrev pub IsWork : List Counted → Work → Type 0
IsWork counted (Rows changes) = counted ≡ map Changed changes
IsWork counted (Journal j) = counted ≡ Journaled j ∷ []
IsWork counted work = ⊥

-- gtid query
pub record IsSingle {M : Type 0} (rules : Rules M) (events : List Event) (e : Entry) : Type 0 where
  pub gtid : Event
  pub query : Event
  pub are : events ≡ gtid ∷ query ∷ []
  pub names : IsGtid gtid e.gtid
  pub statement : Statement
  pub says : Says rules query statement
  pub work : single_work statement ≡ Some e.work
  pub time : e.time ≡ time_of query

-- gtid query(BEGIN) (map | rows | savepoint)*
pub record IsUnended {M : Type 0} (rules : Rules M) (events : List Event) (g : Gtid) (maps : M) (work : Work) : Type 0 where
  pub gtid : Event
  pub begin : Event
  pub middle : List Event
  pub are : events ≡ gtid ∷ begin ∷ middle
  pub names : IsGtid gtid g
  pub begins : Says rules begin Begin
  pub counted : List Counted
  pub tells : IsMiddle rules rules.no_tables middle counted maps
  pub comes : IsWork counted work

-- xid | query(COMMIT)
abbrev pub Ends : {M : Type 0} → Rules M → Event → Type 0
Ends rules e = IsXid e ⊎ Says rules e Commit

-- gtid query(BEGIN) (map | rows | savepoint)* (xid | query(COMMIT))
pub record IsTransaction {M : Type 0} (rules : Rules M) (events : List Event) (e : Entry) : Type 0 where
  pub opened : List Event
  pub last : Event
  pub are : events ≡ opened ++ last ∷ []
  pub maps : M
  pub begun : IsUnended rules opened e.gtid maps e.work
  pub ends : Ends rules last
  pub time : e.time ≡ time_of last

pub record IsEntry {M : Type 0} (rules : Rules M) (events : List Event) (e : Entry) : Type 0 where
  pub form : IsSingle rules events e ⊎ IsTransaction rules events e
  pub size : total events ≤ limit

-- no GTID repeats one of the set, and the set with it isn't too large
pub record IsNew (known : Position) (g : Gtid) : Type 0 where
  pub lacks : has known g ≡ false
  pub few : length (added known g) ≤ most_intervals

-- the entries that the groups of events are, behind the GTIDs known before them, and the GTIDs known behind them
abbrev pub AreEntries : {M : Type 0} → Rules M → Position → List (List Event) → List Entry → Position → Type 0
AreEntries rules known [] [] after = known ≡ after
AreEntries rules known (group ∷ groups) (e ∷ es) after = IsEntry rules group e × IsNew known e.gtid × AreEntries rules (added known e.gtid) groups es after
AreEntries rules known [] (e ∷ es) after = ⊥
AreEntries rules known (group ∷ groups) [] after = ⊥

-- A format description, at most one PREVIOUS_GTIDS event, the events of entries, and some more.
-- Events that are passed over may stand anywhere behind the first.
pub record IsLog {M : Type 0} (rules : Rules M) (events : List Event) (base : Position) (entries : List Entry) (known : Position) (opened : List Event) : Type 0 where
  pub format : Event
  pub after : List Event
  pub are : events ≡ format ∷ after
  pub is_format : IsFormat format
  pub sizes : AllByRecursion (λ e. length_of e ≤ limit) events
  pub previous : List Event
  pub groups : List (List Event)
  pub parts : filter is_counted after ≡ previous ++ (in_turn groups ++ opened)
  pub is_base : IsBase rules previous base
  pub are_entries : AreEntries rules base groups entries known

-- the GTID event of an entry, alone
pub record IsNamed {M : Type 0} (rules : Rules M) (events : List Event) (g : Gtid) : Type 0 where
  pub gtid : Event
  pub are : events ≡ gtid ∷ []
  pub names : IsGtid gtid g

-- the rest of the events is no event, or less than an entry, as the state says: nothing, gtid, or gtid query(BEGIN) (map | rows | savepoint)*
abbrev pub IsBegun : {M : Type 0} → Rules M → Position → List Event → State M → Place M → Type 0
IsBegun rules known opened s Front = ⊥
IsBegun rules known opened s (Between first) = (opened ≡ []) × (s.known ≡ known)
IsBegun rules known opened s (Named g bytes) = IsNamed rules opened g × IsNew known g × (s.known ≡ added known g) × (bytes ≡ total opened) × (total opened ≤ limit)
IsBegun rules known opened s (Inside g bytes maps work) = IsUnended rules opened g maps work × IsNew known g × (s.known ≡ added known g) × (bytes ≡ total opened) × (total opened ≤ limit)

-- whether a PREVIOUS_GTIDS event may follow: only where no event that counts stood behind the format description
abbrev pub is_first : {M : Type 0} → Place M → Bool
is_first (Between first) = first
is_first place = false

abbrev pub is_nil : {A : Type 0} → List A → Bool
is_nil [] = true
is_nil (x ∷ xs) = false

-- The events are the beginning of a log, and the state says which.
pub record Stands {M : Type 0} (rules : Rules M) (events : List Event) (s : State M) : Type 0 where
  pub known : Position
  pub opened : List Event
  pub log : IsLog rules events s.base s.entries known opened
  pub begun : IsBegun rules known opened s s.place
  pub first : is_first s.place ≡ is_nil (filter is_counted (drop 1 events))

abbrev pub BeginsLog : {M : Type 0} → Rules M → List Event → State M → Type 0
BeginsLog rules [] s = s ≡ front
BeginsLog rules (e ∷ es) s = Stands rules (e ∷ es) s

-- Bytes are the magic, whole events, and a rest. Each event ends by the last place.
pub record IsCut (bytes : List ℕ) (events : List Event) (rest : List ℕ) : Type 0 where
  pub are : bytes ≡ magic ++ (joined events ++ rest)
  pub whole : AllByRecursion IsEvent events
  pub short : 4 + length (joined events) ≤ last_place

-- The GTID event of an entry of this GTID, which is open or whole, stands at this place: the events up to it, and it, begin a log.
pub record StandsAt {M : Type 0} (rules : Rules M) (bytes : List ℕ) (g : Gtid) (at : ℕ) : Type 0 where
  pub before : List Event
  pub event : Event
  pub rest : List ℕ
  pub cut : IsCut bytes (before ++ event ∷ []) rest
  pub place : at ≡ 4 + length (joined before)
  pub state : State M
  pub begins : BeginsLog rules (before ++ event ∷ []) state
  pub names : IsGtid event g

-- The entry behind n others ends at this place: the events up to there begin a log of n + 1 entries, and without the last of them one of n.
pub record EntryEndsAt {M : Type 0} (rules : Rules M) (bytes : List ℕ) (n at : ℕ) : Type 0 where
  pub before : List Event
  pub last : Event
  pub rest : List ℕ
  pub cut : IsCut bytes (before ++ last ∷ []) rest
  pub place : at ≡ 4 + length (joined (before ++ last ∷ []))
  pub without : State M
  pub begins_without : BeginsLog rules before without
  pub few : length without.entries ≡ n
  pub state : State M
  pub begins : BeginsLog rules (before ++ last ∷ []) state
  pub more : length state.entries ≡ n + 1

-- a whole log
pub record IsWholeLog {M : Type 0} (rules : Rules M) (bytes : List ℕ) (base : Position) (entries : List Entry) : Type 0 where
  pub events : List Event
  pub cut : IsCut bytes events []
  pub known : Position
  pub log : IsLog rules events base entries known []

-- the rest begins with a whole event, which the table refuses
pub record IsWrong {M : Type 0} (rules : Rules M) (s : State M) (at : ℕ) (rest : List ℕ) (why : Why) : Type 0 where
  pub event : Event
  pub more : List ℕ
  pub are : rest ≡ event ++ more
  pub whole : IsEvent event
  pub short : at + length event ≤ last_place
  pub refused : step rules s event ≡ Err why

-- what is wrong with the event at the front of the rest, if it is whole; of one that isn't, by its head
abbrev pub RefusesEvent : {M : Type 0} → Rules M → State M → ℕ → List ℕ → Option Why → Type 0
RefusesEvent rules s at rest (Some why) =
    IsWrong rules s at rest why
    ⊎ ((is_held at rest ≡ false) × (head_refusal at s.place rest ≡ Some why))
RefusesEvent rules s at rest None = (is_held at rest ≡ false) × (head_refusal at s.place rest ≡ None)

-- The bytes are events that begin a log, and a rest, which is wrong or may go on.
pub record Parts {M : Type 0} (rules : Rules M) (bytes : List ℕ) (log : Log) : Type 0 where
  pub events : List Event
  pub rest : List ℕ
  pub cut : IsCut bytes events rest
  pub state : State M
  pub begins : BeginsLog rules events state
  pub why : Option Why
  pub refused : RefusesEvent rules state (4 + length (joined events)) rest why
  pub is : log ≡ log_of state (4 + length (joined events)) why

-- the bytes are less than the magic, and are its front
abbrev pub IsShort : List ℕ → Log → Type 0
IsShort bytes log = (length bytes < 4) × (bytes ≡ take (length bytes) magic) × (log ≡ log_unread None)

-- a byte of the magic that is there is wrong
abbrev pub IsNoLog : List ℕ → Log → Type 0
IsNoLog bytes log = (has_magic bytes ≡ false) × (log ≡ log_unread (Some BadMagic))

-- what the bytes of a log mean
abbrev pub Means : {M : Type 0} → Rules M → List ℕ → Log → Type 0
Means rules bytes log = Parts rules bytes log ⊎ (IsShort bytes log ⊎ IsNoLog bytes log)
