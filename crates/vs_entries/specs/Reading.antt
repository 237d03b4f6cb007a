-- How what a reader has taken stands for a state of a log's table, and what its answers say.
use Rattle.std.specs.Prelude.{◌≡◌, ◌≤◌, ◌+◌, ℕ, nat_lt, Bool, true, false, is_some, IsSomeAnd, if◌then◌else◌, List, [], ◌∷◌, length, map, take, Option, Some, None, Result, Ok, Err}
use Rattle.vs_base.specs.declared.change.Change.{Change}
use Rattle.vs_base.specs.declared.Gtid.{Gtid}
use Rattle.vs_base.specs.declared.Why.{Why}
use Rattle.vs_base.specs.declared.Why.TheVariants.{Anonymous, BadEvent, BadOrder, JournalNotAlone, Unsupported}
use Rattle.vs_gtid.specs.declared.Entry.{Entry}
use Rattle.vs_gtid.specs.declared.JournalValue.{JournalValue}
use Rattle.vs_gtid.specs.declared.Work.{Work}
use Rattle.vs_gtid.specs.declared.Work.TheVariants.{Rows, Journal}
use Rattle.vs_gtid.specs.Block.{block_of}
use Rattle.vs_schema.specs.declared.schema.Schema.{Schema}
use Rattle.vs_rows.specs.declared.refusal.RowRefusal.{RowRefusal}
use Rattle.vs_rows.specs.declared.refusal.RowRefusal.TheVariants as row
use Rattle.vs_journal.specs.declared.refusal.JournalRefusal.{JournalRefusal}
use Rattle.vs_journal.specs.declared.refusal.JournalRefusal.TheVariants as journal
use Rattle.vs_rows.specs.Tables.{Tables, with_map}
use Rattle.vs_rows.specs.Rows.{rows_meant}
use Rattle.vs_log.specs.States.{Counted}
use Rattle.vs_log.specs.States.Counted.{Changed, Journaled}
use Rattle.vs_log.specs.States.{Place}
use Rattle.vs_log.specs.States.{Place as place}
use Rattle.vs_log.specs.States.{State}
use Rattle.vs_binlog.specs.Heads.{Event, body_of, kind_of, length_of}
use Rattle.vs_log.specs.Events.{is_held, last_place}
use Rattle.vs_log.specs.declared.event.Sort.{Sort}
use Rattle.vs_log.specs.declared.event.Sort.TheVariants.{AnonymousEvent, ForeignEvent}
use Rattle.vs_log.specs.Table.{Rules, with_base, ended, new_gtid, named, first_query, later_query, more_work, told, ◌>>=◌}
use Rattle.vs_entries.specs.JournalRows.{journal_why}
use Rattle.vs_entries.specs.Queries.{statement_of}
use Rattle.vs_entries.specs.Rules.{base_of, counted_by, or_why, rules_of, why_of}
use Rattle.vs_entries.specs.declared.progress.Progress.{Progress}
use Rattle.vs_entries.specs.declared.standing.Standing.{Standing}
use Rattle.vs_entries.specs.declared.standing.Standing.TheVariants.{Front, Between, Named, Inside}
use Rattle.vs_entries.specs.declared.refusal.Refusal.{Refusal}
use Rattle.vs_entries.specs.declared.refusal.Refusal.TheVariants.{Wrong, Memory}
use Rattle.vs_entries.specs.declared.row.Added.{Added}
use Rattle.vs_entries.specs.declared.row.Added.TheVariants.{Changes, Journals}
use Rattle.vs_entries.specs.declared.out.Out.{Out}
use Rattle.vs_entries.specs.declared.out.Stop.{Stop}
use Rattle.vs_entries.specs.declared.out.Stop.TheVariants as stop
use Rattle.vs_entries.specs.declared.out.Turn.{Turn}
use Rattle.vs_entries.specs.declared.out.Turn.TheVariants.{Goes, Ends}

-- the answer is what is meant, unless memory ran out
abbrev pub Answers : {A : Type 0} → Result A Refusal → Result A Why → Type 0
Answers (Ok x) meant = meant ≡ Ok x
Answers (Err (Wrong why)) meant = meant ≡ Err why
Answers (Err Memory) meant = Unit {0}

-- what is told of a body that isn't taken
abbrev pub refusal_of : ℕ → RowRefusal → Refusal
refusal_of kind row.Memory = Memory
refusal_of kind refusal = Wrong (why_of kind refusal)

-- what is told of a journal's text of so many bytes that is refused
abbrev pub journal_refusal_of : ℕ → JournalRefusal → Refusal
journal_refusal_of size journal.Memory = Memory
journal_refusal_of size refusal = Wrong (journal_why size refusal)

-- what counts of the rows that were read
abbrev pub counted_in : Added → List Counted
counted_in (Changes changes) = map Changed changes
counted_in (Journals journals) = map Journaled journals

-- this counts, and nothing else does; unless memory ran out
abbrev pub Counts : Result Added Refusal → Result (List Counted) Why → Type 0
Counts (Ok rows) meant = meant ≡ Ok (counted_in rows)
Counts (Err (Wrong why)) meant = meant ≡ Err why
Counts (Err Memory) meant = Unit {0}

-- the work of a transaction of these changes, or of this journal
abbrev pub work_of : List Change → Option JournalValue → Work
work_of changes None = Rows changes
work_of changes (Some j) = Journal j

-- the work of the open transaction
abbrev pub work_in : Progress → Work
work_in p = work_of p.changes p.journal

-- nothing counted yet
abbrev pub has_no_work : Work → Bool
has_no_work (Rows []) = true
has_no_work work = false

-- the place of a log, by the tables that are known and the work so far
abbrev pub place_of : Standing → Tables → Work → Place Tables
place_of Front maps work = place.Front
place_of (Between first) maps work = place.Between first
place_of (Named gtid bytes) maps work = place.Named gtid bytes
place_of (Inside gtid bytes) maps work = place.Inside gtid bytes maps work

-- the state of the table, without the entries that were given
abbrev pub state_of : Progress → State Tables
state_of p = record { base = p.base; entries = []; known = p.known; place = place_of p.standing p.maps (work_in p) }

abbrev pub with_entries : List Entry → State Tables → State Tables
with_entries entries s = record s { entries = entries }

-- What was meant to be taken was, and perhaps an entry ended; or all stayed as it was. The entry, or what is wrong, is in the `Out`.
abbrev pub TakesTo : Result Turn Stop → Progress → Progress → Out → Result (State Tables) Why → Type 0
TakesTo (Ok Goes) old new out meant = meant ≡ Ok (state_of new)
TakesTo (Ok Ends) old new out meant = IsSomeAnd out.entry (λ e. meant ≡ Ok (with_entries (e ∷ []) (state_of new)))
TakesTo (Err stop.Wrong) old new out meant = IsSomeAnd out.why (λ why. meant ≡ Err why) × (new ≡ old)
TakesTo (Err stop.Memory) old new out meant = new ≡ old

-- the same of an event that ends no entry
abbrev pub MovesTo : Result (Unit {0}) Stop → Progress → Progress → Out → Result (State Tables) Why → Type 0
MovesTo (Ok x) old new out meant = meant ≡ Ok (state_of new)
MovesTo (Err stop.Wrong) old new out meant = IsSomeAnd out.why (λ why. meant ≡ Err why) × (new ≡ old)
MovesTo (Err stop.Memory) old new out meant = new ≡ old

-- the same, where what is wrong is in the answer
abbrev pub Moves : Result (Unit {0}) Refusal → Progress → Progress → Result (State Tables) Why → Type 0
Moves (Ok x) old new meant = meant ≡ Ok (state_of new)
Moves (Err (Wrong why)) old new meant = (meant ≡ Err why) × (new ≡ old)
Moves (Err Memory) old new meant = new ≡ old

-- what is told of a body that isn't taken is left in the `Out`
abbrev pub StopsBy : Refusal → Out → Stop → Type 0
StopsBy (Wrong why) out answer = (answer ≡ stop.Wrong) × (out.why ≡ Some why)
StopsBy Memory out answer = answer ≡ stop.Memory

-- what is wrong with an event of this kind where none of its sort is taken
abbrev pub misplaced : Sort → ℕ → Why
misplaced AnonymousEvent kind = Anonymous
misplaced ForeignEvent kind = Unsupported kind
misplaced sort kind = BadOrder kind

-- a schema without tables; the rules of no keyspace, which serve where no rules count
abbrev pub no_schema : Schema
no_schema = record { tables = []; skipped = [] }

abbrev pub any_rules : Rules Tables
any_rules = rules_of [] no_schema

-- no entry is open, and no base is known
abbrev pub is_early : Standing → Bool
is_early Front = true
is_early (Between first) = first
is_early (Named gtid bytes) = false
is_early (Inside gtid bytes) = false

-- whether something is wrong with the event there, and it isn't the format description
abbrev pub is_refused : Standing → Option Why → Bool
is_refused Front why = false
is_refused standing why = is_some why

-- the log with the base that a PREVIOUS_GTIDS event tells
abbrev pub with_previous : State Tables → Event → Result (State Tables) Why
with_previous s e = base_of (block_of (body_of e)) >>= λ set. Ok (with_base s set)

-- the log with an entry that a GTID event begins
abbrev pub with_gtid : State Tables → Event → Result (State Tables) Why
with_gtid s e = new_gtid s.known (body_of e) >>= λ g. Ok (named s e g)

-- the log with a query behind the GTID event of an entry, which has so many bytes
abbrev pub with_query : List ℕ → State Tables → Event → Gtid → ℕ → Result (State Tables) Why
with_query keyspace s e g bytes = statement_of keyspace (body_of e) >>= first_query [] s e g bytes

-- the log with a query inside a transaction of these tables and this work
abbrev pub with_later_query : List ℕ → State Tables → Event → Gtid → ℕ → Tables → Work → Result (State Tables) Why
with_later_query keyspace s e g bytes maps work = statement_of keyspace (body_of e) >>= later_query s e g bytes maps work

-- the log with an XID event, which ends such a transaction
abbrev pub with_xid : State Tables → Event → Gtid → Work → Result (State Tables) Why
with_xid s e g work = if nat_lt (length (body_of e)) 8 then Err (BadEvent 16) else Ok (ended s e g work)

-- the log with a table map in it
abbrev pub with_table_map : List ℕ → Schema → State Tables → Event → Gtid → ℕ → Tables → Work → Result (State Tables) Why
with_table_map keyspace schema s e g bytes maps work =
    or_why 19 (with_map keyspace schema maps (body_of e)) >>= λ more. Ok (record s { place = place.Inside g (bytes + length_of e) more work })

-- the log with a rows event in it
abbrev pub with_rows : List ℕ → State Tables → Event → Gtid → ℕ → Tables → Work → Result (State Tables) Why
with_rows keyspace s e g bytes maps work =
    counted_by keyspace (kind_of e) (rows_meant maps (kind_of e) (body_of e)) >>= λ counted. told s e g bytes maps (more_work work counted)

-- What counts was added to the work of the open transaction, and nothing else changed; or it can't stand beside that work.
abbrev pub Adds : Result (Unit {0}) Stop → Progress → Progress → Out → List Counted → Type 0
Adds (Ok x) old new out counted = (more_work (work_in old) counted ≡ Some (work_in new)) × (new ≡ record old { changes = new.changes; journal = new.journal })
Adds (Err stop.Wrong) old new out counted = (more_work (work_in old) counted ≡ None) × (out.why ≡ Some JournalNotAlone) × (new ≡ old)
Adds (Err stop.Memory) old new out counted = new ≡ old

-- the event stands whole at the front of the rest, which begins at this place
pub record IsFrontEvent (at : ℕ) (rest e : List ℕ) : Type 0 where
  pub held : is_held at rest ≡ true
  pub bytes : e ≡ take (length_of rest) rest
  pub size : length e ≡ length_of rest
  pub head : 19 ≤ length e
  pub within : length e ≤ length rest
  pub early : at + length e ≤ last_place
