-- The table of a log's events: what each event does where it stands, and what is wrong with it. Line by line.
use Rattle.vs_base.specs.declared.Gtid.{Gtid}
use Rattle.vs_base.specs.declared.Why.{Why}
use Rattle.vs_base.specs.declared.Why.TheVariants.{NoFormat, BadVersion, Checksummed, BadEvent, BadOrder, NestedBegin, Anonymous, BadGtid, RepeatedGtid, Unsupported, UnsupportedStatement, TooLarge, TooManyIntervals, JournalNotAlone}
use Rattle.vs_binlog.specs.declared.format.FormatRefusal.{FormatRefusal}
use Rattle.vs_binlog.specs.declared.format.FormatRefusal.TheVariants as format
use Rattle.vs_binlog.specs.declared.format.FormatRefusal.TheVariants.{ShortFormat, HeadLength}
use Rattle.vs_binlog.specs.Bodies.{format_body, gtid_body}
use Rattle.vs_gtid.specs.declared.Work.{Work}
use Rattle.vs_gtid.specs.declared.Work.TheVariants.{Rows, Other, Journal}
use Rattle.vs_gtid.specs.Positions.{Position, has}
use Rattle.vs_gtid.specs.Joins.{added}
use Rattle.vs_log.specs.declared.statement.Statement.{Statement}
use Rattle.vs_log.specs.declared.statement.Statement.TheVariants.{Begin, Commit, Savepoint, Xa, Single}
use Rattle.vs_log.specs.States.{Counted}
use Rattle.vs_log.specs.States.Counted.{Changed, Journaled}
use Rattle.vs_log.specs.States.{Place}
use Rattle.vs_log.specs.States.Place.{Front, Between, Named, Inside}
use Rattle.vs_log.specs.States.{State}
use Rattle.vs_log.specs.declared.event.Sort.{Sort}
use Rattle.vs_log.specs.declared.event.Sort.TheVariants.{AnonymousEvent, PassedOver, FormatEvent, PreviousEvent, GtidEvent, QueryEvent, XidEvent, MapEvent, RowsEvent, ForeignEvent}
use Rattle.std.specs.Prelude.{ℕ, ◌+◌, true, false, nat_lt, if◌then◌else◌, List, [], ◌∷◌, ◌++◌, length, Option, Some, None, Result, Ok, Err}
use Rattle.vs_base.specs.Limits.{most_intervals}
use Rattle.vs_binlog.specs.Heads.{Event, time_of, kind_of, length_of, body_of}
use Rattle.vs_log.specs.Events.{sort_of, limit}

-- What the bodies of events mean, where what is known of tables is of the type M.
pub record Rules (M : Type 0) : Type 0 where
  -- what is known of tables where a transaction begins
  pub no_tables : M
  -- a query
  pub statement : List ℕ → Result Statement Why
  -- a PREVIOUS_GTIDS event
  pub block : List ℕ → Result Position Why
  -- what is known of tables behind a table map, after what was known before it
  pub map : M → List ℕ → Result M Why
  -- a rows event, by its kind, where this is known of tables
  pub rows : M → ℕ → List ℕ → Result (List Counted) Why

infixl 10 ◌>>=◌
abbrev pub ◌>>=◌ : {A B : Type 0} → Result A Why → (A → Result B Why) → Result B Why
(Ok x) >>= f = f x
(Err e) >>= f = Err e

abbrev pub unless : {A : Type 0} → Option Why → A → Result A Why
unless None x = Ok x
unless (Some why) x = Err why

-- what is wrong with a format description
abbrev pub format_fault : Result (Unit {0}) FormatRefusal → Option Why
format_fault (Ok x) = None
format_fault (Err ShortFormat) = Some (BadEvent 15)
format_fault (Err (format.BadVersion version)) = Some (BadVersion version)
format_fault (Err (HeadLength length)) = Some (BadEvent 15)
format_fault (Err (format.Checksummed kind)) = Some (Checksummed kind)

abbrev pub format_refusal : List ℕ → Option Why
format_refusal body = format_fault (format_body body)

abbrev pub or_refused : {A : Type 0} → Option A → Why → Result A Why
or_refused None why = Err why
or_refused (Some x) why = Ok x

-- the GTID of a GTID event; a body that is long enough lacks one where the number is out of range
unfoldable pub gtid_in : List ℕ → Result Gtid Why
gtid_in body = if nat_lt (length body) 25 then Err (BadEvent 33) else or_refused (gtid_body body) BadGtid

-- the work of a query that stands alone; BEGIN and XA don't
abbrev pub single_work : Statement → Option Work
single_work Begin = None
single_work Xa = None
single_work Commit = Some Other
single_work Savepoint = Some Other
single_work (Single work) = Some work

-- the work with one thing more that counts: changes alone, or one journal alone
abbrev pub one_more : Work → Counted → Option Work
one_more (Rows changes) (Changed c) = Some (Rows (changes ++ c ∷ []))
one_more (Rows []) (Journaled j) = Some (Journal j)
one_more work counted = None

-- the work with what a further rows event tells
abbrev pub more_work : Work → List Counted → Option Work
more_work work [] = Some work
more_work work (c ∷ more) = elim (one_more work c) [ None ↦ None | Some next ↦ more_work next more ]

-- the bytes of the entry that is open
abbrev pub size : {M : Type 0} → Place M → ℕ
size Front = 0
size (Between first) = 0
size (Named g bytes) = bytes
size (Inside g bytes maps work) = bytes

-- the bytes that the event's head makes: of its entry, or of itself where it is passed over
abbrev pub sum_with : {M : Type 0} → Place M → Sort → ℕ → ℕ
sum_with place PassedOver bytes = bytes
sum_with place sort bytes = size place + bytes

unfoldable pub bytes_with : {M : Type 0} → Place M → Event → ℕ
bytes_with place e = sum_with place (sort_of e) (length_of e)

-- the entry ends with the event
abbrev pub ended : {M : Type 0} → State M → Event → Gtid → Work → State M
ended s e g work = record s { entries = s.entries ++ record { gtid = g; time = time_of e; work = work } ∷ []; place = Between false }

abbrev pub with_base : {M : Type 0} → State M → Position → State M
with_base s set = record s { base = set; known = set; place = Between false }

-- the GTID of an event behind the GTIDs known before it
abbrev pub new_gtid : Position → List ℕ → Result Gtid Why
new_gtid known body =
    gtid_in body >>= λ g.
    if has known g then Err (RepeatedGtid g)
    else if nat_lt most_intervals (length (added known g)) then Err TooManyIntervals
    else Ok g

-- it begins an entry
abbrev pub named : {M : Type 0} → State M → Event → Gtid → State M
named s e g = record s { known = added s.known g; place = Named g (length_of e) }

-- a query behind a GTID event; where a transaction begins, this is known of tables
abbrev pub first_query : {M : Type 0} → M → State M → Event → Gtid → ℕ → Statement → Result (State M) Why
first_query none s e g bytes Begin = Ok (record s { place = Inside g (bytes + length_of e) none (Rows []) })
first_query none s e g bytes Xa = Err UnsupportedStatement
first_query none s e g bytes Commit = Ok (ended s e g Other)
first_query none s e g bytes Savepoint = Ok (ended s e g Other)
first_query none s e g bytes (Single work) = Ok (ended s e g work)

-- a query inside a transaction
abbrev pub later_query : {M : Type 0} → State M → Event → Gtid → ℕ → M → Work → Statement → Result (State M) Why
later_query s e g bytes maps work Commit = Ok (ended s e g work)
later_query s e g bytes maps work Savepoint = Ok (record s { place = Inside g (bytes + length_of e) maps work })
later_query s e g bytes maps work Begin = Err NestedBegin
later_query s e g bytes maps work Xa = Err UnsupportedStatement
later_query s e g bytes maps work (Single single) = Err UnsupportedStatement

-- the rows go to the work
abbrev pub told : {M : Type 0} → State M → Event → Gtid → ℕ → M → Option Work → Result (State M) Why
told s e g bytes maps None = Err JournalNotAlone
told s e g bytes maps (Some work) = Ok (record s { place = Inside g (bytes + length_of e) maps work })

abbrev pub line : {M : Type 0} → Rules M → State M → Event → Place M → Sort → Result (State M) Why
line rules s e Front FormatEvent = unless (format_refusal (body_of e)) (record s { place = Between true })
line rules s e Front sort = Err NoFormat
line rules s e place AnonymousEvent = Err Anonymous
line rules s e place PassedOver = Ok s
line rules s e (Between true) PreviousEvent = rules.block (body_of e) >>= λ set. Ok (with_base s set)
line rules s e place FormatEvent = Err (BadOrder (kind_of e))
line rules s e place PreviousEvent = Err (BadOrder (kind_of e))
line rules s e place ForeignEvent = Err (Unsupported (kind_of e))
line rules s e (Between first) GtidEvent = new_gtid s.known (body_of e) >>= λ g. Ok (named s e g)
line rules s e (Between first) sort = Err (BadOrder (kind_of e))
line rules s e (Named g bytes) QueryEvent = rules.statement (body_of e) >>= first_query rules.no_tables s e g bytes
line rules s e (Named g bytes) sort = Err (BadOrder (kind_of e))
line rules s e (Inside g bytes maps work) QueryEvent = rules.statement (body_of e) >>= later_query s e g bytes maps work
line rules s e (Inside g bytes maps work) XidEvent = if nat_lt (length (body_of e)) 8 then Err (BadEvent 16) else Ok (ended s e g work)
line rules s e (Inside g bytes maps work) MapEvent = rules.map maps (body_of e) >>= λ more. Ok (record s { place = Inside g (bytes + length_of e) more work })
line rules s e (Inside g bytes maps work) RowsEvent = rules.rows maps (kind_of e) (body_of e) >>= λ counted. told s e g bytes maps (more_work work counted)
line rules s e (Inside g bytes maps work) sort = Err (BadOrder (kind_of e))

-- What an event makes of a log that stands so, or what is wrong with it. Its size comes first.
unfoldable pub step : {M : Type 0} → Rules M → State M → Event → Result (State M) Why
step rules s e = if nat_lt limit (bytes_with s.place e) then Err (TooLarge (bytes_with s.place e)) else line rules s e s.place (sort_of e)
