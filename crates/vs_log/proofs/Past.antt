-- What an event does to a log doesn't hang on the entries before it.
use Rattle.std.proofs.Common.{◌≡◌, ℕ, Bool, true, false, List, length, nat_lt, if◌then◌else◌, Option, Some, None, Result, Ok, Err, refl, ap, append_assoc}
use Rattle.vs_base.specs.declared.Gtid.{Gtid}
use Rattle.vs_base.specs.declared.Why.{Why}
use Rattle.vs_base.specs.declared.Why.TheVariants.{BadEvent, TooLarge}
use Rattle.vs_gtid.specs.declared.Entry.{Entry}
use Rattle.vs_gtid.specs.declared.Work.{Work}
use Rattle.vs_log.specs.declared.statement.Statement.{Statement}
use Rattle.vs_log.specs.declared.statement.Statement.TheVariants.{Begin, Commit, Savepoint, Xa, Single}
use Rattle.vs_log.specs.States.{Place}
use Rattle.vs_log.specs.States.Place.{Front, Between, Named, Inside}
use Rattle.vs_log.specs.States.{State}
use Rattle.vs_log.specs.declared.event.Sort.{Sort}
use Rattle.vs_log.specs.declared.event.Sort.TheVariants.{FormatEvent, PreviousEvent, GtidEvent, QueryEvent, XidEvent, MapEvent, RowsEvent}
use Rattle.vs_binlog.specs.Heads.{Event, kind_of, body_of}
use Rattle.vs_log.specs.Events.{sort_of, limit}
use Rattle.vs_log.specs.Steps.{result_with_past, with_past}
use Rattle.vs_log.specs.Table.{Rules, ◌>>=◌, unless, format_refusal, more_work, bytes_with, ended, with_base, new_gtid, named, first_query, later_query, told, line, step}

chain : {M : Type 0} {A : Type 0} (past : List Entry) (r : Result A Why) (f g : A → Result (State M) Why) → ((x : A) → f x ≡ result_with_past past (g x)) → (r >>= f) ≡ result_with_past past (r >>= g)
chain past (Ok x) f g h = h x
chain past (Err why) f g h = refl

if_whole : {M : Type 0} (past : List Entry) (refusal : Option Why) (s : State M) → unless refusal (with_past past s) ≡ result_with_past past (unless refusal s)
if_whole past None s = refl
if_whole past (Some why) s = refl

ends : {M : Type 0} (past : List Entry) (s : State M) (e : Event) (g : Gtid) (work : Work) → ◌≡◌ {A = Result (State M) Why} (Ok (ended (with_past past s) e g work)) (Ok (with_past past (ended s e g work)))
ends past s e g work = ap (λ z. Ok (record (ended s e g work) { entries = z })) (append_assoc past s.entries _)

first : {M : Type 0} (none : M) (past : List Entry) (s : State M) (e : Event) (g : Gtid) (bytes : ℕ) (said : Statement) → first_query none (with_past past s) e g bytes said ≡ result_with_past past (first_query none s e g bytes said)
first none past s e g bytes Begin = refl
first none past s e g bytes Xa = refl
first none past s e g bytes Commit = ends past s e g _
first none past s e g bytes Savepoint = ends past s e g _
first none past s e g bytes (Single work) = ends past s e g work

later : {M : Type 0} (past : List Entry) (s : State M) (e : Event) (g : Gtid) (bytes : ℕ) (maps : M) (work : Work) (said : Statement) →
    later_query (with_past past s) e g bytes maps work said ≡ result_with_past past (later_query s e g bytes maps work said)
later past s e g bytes maps work Commit = ends past s e g work
later past s e g bytes maps work Savepoint = refl
later past s e g bytes maps work Begin = refl
later past s e g bytes maps work Xa = refl
later past s e g bytes maps work (Single single) = refl

xid : {M : Type 0} (past : List Entry) (s : State M) (e : Event) (g : Gtid) (work : Work) (short : Bool) →
    (if short then Err (BadEvent 16) else Ok (ended (with_past past s) e g work)) ≡ result_with_past past (if short then Err (BadEvent 16) else Ok (ended s e g work))
xid past s e g work true = refl
xid past s e g work false = ends past s e g work

rows : {M : Type 0} (past : List Entry) (s : State M) (e : Event) (g : Gtid) (bytes : ℕ) (maps : M) (more : Option Work) → told (with_past past s) e g bytes maps more ≡ result_with_past past (told s e g bytes maps more)
rows past s e g bytes maps None = refl
rows past s e g bytes maps (Some work) = refl

line_behind : {M : Type 0} (rules : Rules M) (past : List Entry) (s : State M) (e : Event) (place : Place M) (sort : Sort) → line rules (with_past past s) e place sort ≡ result_with_past past (line rules s e place sort)
line_behind rules past s e Front FormatEvent = if_whole past (format_refusal (body_of e)) (record s { place = Between true })
line_behind rules past s e (Between true) PreviousEvent = chain past (rules.block (body_of e)) (λ set. Ok (with_base (with_past past s) set)) (λ set. Ok (with_base s set)) (λ set. refl)
line_behind rules past s e (Between first) GtidEvent = chain past (new_gtid s.known (body_of e)) (λ g. Ok (named (with_past past s) e g)) (λ g. Ok (named s e g)) (λ g. refl)
line_behind rules past s e (Named g bytes) QueryEvent = chain past (rules.statement (body_of e)) (first_query rules.no_tables (with_past past s) e g bytes) (first_query rules.no_tables s e g bytes) (first rules.no_tables past s e g bytes)
line_behind rules past s e (Inside g bytes maps work) QueryEvent =
    chain past (rules.statement (body_of e)) (later_query (with_past past s) e g bytes maps work) (later_query s e g bytes maps work) (later past s e g bytes maps work)
line_behind rules past s e (Inside g bytes maps work) XidEvent = xid past s e g work (nat_lt (length (body_of e)) 8)
line_behind rules past s e (Inside g bytes maps work) MapEvent = chain past (rules.map maps (body_of e)) _ _ (λ more. refl)
line_behind rules past s e (Inside g bytes maps work) RowsEvent =
    chain past (rules.rows maps (kind_of e) (body_of e)) (λ counted. told (with_past past s) e g bytes maps (more_work work counted)) (λ counted. told s e g bytes maps (more_work work counted)) (λ counted. rows past s e g bytes maps (more_work work counted))
line_behind rules past s e place sort = refl

sized : {M : Type 0} (past : List Entry) (large : Bool) (why : Why) (r t : Result (State M) Why) → r ≡ result_with_past past t → (if large then Err why else r) ≡ result_with_past past (if large then Err why else t)
sized past true why r t h = refl
sized past false why r t h = h

-- entries that stand before stay in front
pub step_behind : {M : Type 0} (rules : Rules M) (past : List Entry) (s : State M) (e : Event) → step rules (with_past past s) e ≡ result_with_past past (step rules s e)
unfolding step
step_behind rules past s e = sized past (nat_lt limit (bytes_with s.place e)) (TooLarge (bytes_with s.place e)) _ _ (line_behind rules past s e s.place (sort_of e))
