-- The positive lines of the table: what an event may do where a log stands.
use Rattle.std.proofs.Common.{◌≡◌, ◌≤◌, ◌+◌, ℕ, Bool, true, false, List, [], length, nat_lt, if◌then◌else◌, Option, Some, None, Result, Ok, Err, refl, ap, subst, ◌∙◌}
use Rattle.std.specs.Prelude.{◌⊎◌}
use Rattle.std.proofs.lemmas.Bool.{ltb-false}
use Rattle.vs_base.specs.declared.Gtid.{Gtid}
use Rattle.vs_base.specs.declared.Why.{Why}
use Rattle.vs_base.specs.declared.Why.TheVariants.{BadEvent}
use Rattle.vs_gtid.specs.declared.Work.{Work}
use Rattle.vs_gtid.specs.declared.Work.TheVariants.{Rows}
use Rattle.vs_gtid.specs.Positions.{Position}
use Rattle.vs_gtid.specs.Joins.{added}
use Rattle.vs_log.specs.declared.event.Sort.{Sort}
use Rattle.vs_log.specs.declared.event.Sort.TheVariants.{PassedOver, FormatEvent, PreviousEvent, GtidEvent, QueryEvent, XidEvent, MapEvent, RowsEvent}
use Rattle.vs_log.specs.declared.statement.Statement.{Statement}
use Rattle.vs_log.specs.declared.statement.Statement.TheVariants.{Begin, Commit, Savepoint, Xa, Single}
use Rattle.vs_log.specs.States.{Counted}
use Rattle.vs_log.specs.States.{Place}
use Rattle.vs_log.specs.States.Place.{Front, Between, Named, Inside}
use Rattle.vs_log.specs.States.{State}
use Rattle.vs_binlog.specs.Heads.{Event, kind_of, length_of, body_of}
use Rattle.vs_log.specs.Events.{sort_of, limit}
use Rattle.vs_log.specs.Table.{Rules, ◌>>=◌, unless, format_refusal, gtid_in, single_work, more_work, bytes_with, ended, with_base, new_gtid, named, first_query, later_query, told, line, step}
use Rattle.vs_log.specs.Productions.{IsFormat, IsGtid, Says, IsMap, Tells, Ends, IsNew}

-- the state with the event's bytes in the open transaction
abbrev pub inside : {M : Type 0} → State M → Event → Gtid → ℕ → M → Work → State M
inside s e g bytes maps work = record s { place = Inside g (bytes + length_of e) maps work }

pub data Moves {M : Type 0} (rules : Rules M) (s : State M) (e : Event) : Place M → State M → Type 0 where
  formatted : IsFormat e → Moves rules s e Front (record s { place = Between true })
  passed_between : (first : Bool) → sort_of e ≡ PassedOver → Moves rules s e (Between first) s
  passed_named : (g : Gtid) (bytes : ℕ) → sort_of e ≡ PassedOver → Moves rules s e (Named g bytes) s
  passed_inside : (g : Gtid) (bytes : ℕ) (maps : M) (work : Work) → sort_of e ≡ PassedOver → Moves rules s e (Inside g bytes maps work) s
  based : (set : Position) → sort_of e ≡ PreviousEvent → rules.block (body_of e) ≡ Ok set → Moves rules s e (Between true) (with_base s set)
  names : (first : Bool) (g : Gtid) → IsGtid e g → IsNew s.known g → Moves rules s e (Between first) (named s e g)
  singles : (g : Gtid) (bytes : ℕ) (statement : Statement) (work : Work) → Says rules e statement → single_work statement ≡ Some work → Moves rules s e (Named g bytes) (ended s e g work)
  begins : (g : Gtid) (bytes : ℕ) → Says rules e Begin → Moves rules s e (Named g bytes) (inside s e g bytes rules.no_tables (Rows []))
  saves : (g : Gtid) (bytes : ℕ) (maps : M) (work : Work) → Says rules e Savepoint → Moves rules s e (Inside g bytes maps work) (inside s e g bytes maps work)
  maps_on : (g : Gtid) (bytes : ℕ) (maps : M) (work : Work) (more : M) → IsMap rules maps e more → Moves rules s e (Inside g bytes maps work) (inside s e g bytes more work)
  tells : (g : Gtid) (bytes : ℕ) (maps : M) (work : Work) (counted : List Counted) (more : Work) → Tells rules maps e counted → more_work work counted ≡ Some more → Moves rules s e (Inside g bytes maps work) (inside s e g bytes maps more)
  ends : (g : Gtid) (bytes : ℕ) (maps : M) (work : Work) → Ends rules e → Moves rules s e (Inside g bytes maps work) (ended s e g work)

-- what a chain that is not refused went through
pub chained : {A B : Type 0} (r : Result A Why) (f : A → Result B Why) (y : B) → (r >>= f) ≡ Ok y → (x : A) × (r ≡ Ok x) × (f x ≡ Ok y)
chained (Ok x) f y h = (x, refl, h)
chained (Err why) f y h = cc

unrefused : {A : Type 0} (refusal : Option Why) (x y : A) → unless refusal x ≡ Ok y → (refusal ≡ None) × (x ≡ y)
unrefused None x y h = (refl, cc)
unrefused (Some why) x y h = cc

onto : {M : Type 0} (rules : Rules M) (s : State M) (e : Event) (place : Place M) (x next : State M) → Moves rules s e place x → ◌≡◌ {A = Result (State M) Why} (Ok x) (Ok next) → Moves rules s e place next
onto rules s e place x next m h = subst (λ z. Moves rules s e place z) (let p : x ≡ next = cc in p) m

tested : (a b : Bool) (g x : Gtid) (why also : Why) → (if a then Err why else if b then Err also else Ok g) ≡ Ok x → (a ≡ false) × (b ≡ false) × (g ≡ x)
tested true b g x why also h = cc
tested false true g x why also h = cc
tested false false g x why also h = (refl, refl, cc)

pub new_gtid-is : (known : Position) (body : List ℕ) (g : Gtid) → new_gtid known body ≡ Ok g → (gtid_in body ≡ Ok g) × IsNew known g
new_gtid-is known body g h =
    let c = chained (gtid_in body) _ g h in
    let t = tested _ _ _ _ _ _ c.2 in
    let is : c.0 ≡ g = t.2 in
    (c.1 ∙ ap (λ z. Ok z) is, subst (λ z. IsNew known z) is (record { lacks = t.0; few = ltb-false 1024 (length (added known c.0)) t.1 }))

line_gtid : {M : Type 0} (rules : Rules M) (s : State M) (e : Event) (next : State M) (first : Bool) → sort_of e ≡ GtidEvent →
    (new_gtid s.known (body_of e) >>= λ g. Ok (named s e g)) ≡ Ok next → Moves rules s e (Between first) next
line_gtid rules s e next first k h =
    let c = chained (new_gtid s.known (body_of e)) _ next h in
    let n = new_gtid-is s.known (body_of e) c.0 c.1 in
    onto rules s e (Between first) _ next (names first c.0 (record { kind = k; layout = n.0 }) n.1) c.2

first_line : {M : Type 0} (rules : Rules M) (s : State M) (e : Event) (next : State M) (g : Gtid) (bytes : ℕ) (said : Statement) → Says rules e said →
    first_query rules.no_tables s e g bytes said ≡ Ok next → Moves rules s e (Named g bytes) next
first_line rules s e next g bytes Begin k h = onto rules s e _ _ next (begins g bytes k) h
first_line rules s e next g bytes Commit k h = onto rules s e _ _ next (singles g bytes Commit _ k refl) h
first_line rules s e next g bytes Savepoint k h = onto rules s e _ _ next (singles g bytes Savepoint _ k refl) h
first_line rules s e next g bytes Xa k h = cc
first_line rules s e next g bytes (Single work) k h = onto rules s e _ _ next (singles g bytes (Single work) work k refl) h

later_line : {M : Type 0} (rules : Rules M) (s : State M) (e : Event) (next : State M) (g : Gtid) (bytes : ℕ) (maps : M) (work : Work) (said : Statement) → Says rules e said →
    later_query s e g bytes maps work said ≡ Ok next → Moves rules s e (Inside g bytes maps work) next
later_line rules s e next g bytes maps work Commit k h = onto rules s e _ _ next (ends g bytes maps work (◌⊎◌.inr k)) h
later_line rules s e next g bytes maps work Savepoint k h = onto rules s e _ _ next (saves g bytes maps work k) h
later_line rules s e next g bytes maps work Begin k h = cc
later_line rules s e next g bytes maps work Xa k h = cc
later_line rules s e next g bytes maps work (Single one) k h = cc

xid_line : {M : Type 0} (rules : Rules M) (s : State M) (e : Event) (next : State M) (g : Gtid) (bytes : ℕ) (maps : M) (work : Work) (short : Bool) →
    nat_lt (length (body_of e)) 8 ≡ short → sort_of e ≡ XidEvent → (if short then Err (BadEvent 16) else Ok (ended s e g work)) ≡ Ok next → Moves rules s e (Inside g bytes maps work) next
xid_line rules s e next g bytes maps work true t k h = cc
xid_line rules s e next g bytes maps work false t k h = onto rules s e _ _ next (ends g bytes maps work (◌⊎◌.inl (record { kind = k; layout = ltb-false _ _ t }))) h

told_line : {M : Type 0} (rules : Rules M) (s : State M) (e : Event) (next : State M) (g : Gtid) (bytes : ℕ) (maps : M) (work : Work) (counted : List Counted) (more : Option Work) →
    more_work work counted ≡ more → Tells rules maps e counted → told s e g bytes maps more ≡ Ok next → Moves rules s e (Inside g bytes maps work) next
told_line rules s e next g bytes maps work counted None t k h = cc
told_line rules s e next g bytes maps work counted (Some more) t k h = onto rules s e _ _ next (tells g bytes maps work counted more k t) h

pub line_moves : {M : Type 0} (rules : Rules M) (s : State M) (e : Event) (next : State M) (place : Place M) (sort : Sort) → sort_of e ≡ sort → line rules s e place sort ≡ Ok next → Moves rules s e place next
line_moves rules s e next Front FormatEvent k h =
    let u = unrefused (format_refusal (body_of e)) _ next h in
    subst (λ z. Moves rules s e Front z) u.1 (formatted (record { kind = k; layout = u.0 }))
line_moves rules s e next (Between first) PassedOver k h = onto rules s e _ _ next (passed_between first k) h
line_moves rules s e next (Named g bytes) PassedOver k h = onto rules s e _ _ next (passed_named g bytes k) h
line_moves rules s e next (Inside g bytes maps work) PassedOver k h = onto rules s e _ _ next (passed_inside g bytes maps work k) h
line_moves rules s e next (Between true) PreviousEvent k h =
    let c = chained (rules.block (body_of e)) _ next h in
    onto rules s e _ _ next (based c.0 k c.1) c.2
line_moves rules s e next (Between first) GtidEvent k h = line_gtid rules s e next first k h
line_moves rules s e next (Named g bytes) QueryEvent k h =
    let c = chained (rules.statement (body_of e)) _ next h in
    first_line rules s e next g bytes c.0 (record { kind = k; layout = c.1 }) c.2
line_moves rules s e next (Inside g bytes maps work) QueryEvent k h =
    let c = chained (rules.statement (body_of e)) _ next h in
    later_line rules s e next g bytes maps work c.0 (record { kind = k; layout = c.1 }) c.2
line_moves rules s e next (Inside g bytes maps work) XidEvent k h = xid_line rules s e next g bytes maps work _ refl k h
line_moves rules s e next (Inside g bytes maps work) MapEvent k h =
    let c = chained (rules.map maps (body_of e)) _ next h in
    onto rules s e _ _ next (maps_on g bytes maps work c.0 (record { kind = k; layout = c.1 })) c.2
line_moves rules s e next (Inside g bytes maps work) RowsEvent k h =
    let c = chained (rules.rows maps (kind_of e) (body_of e)) _ next h in
    told_line rules s e next g bytes maps work c.0 _ refl (record { kind = k; layout = c.1 }) c.2
line_moves rules s e next place sort k h = absurd (cc)

sized : {M : Type 0} (size most : ℕ) (rules : Rules M) (s : State M) (e : Event) (next : State M) (large : Bool) (why : Why) (r : Result (State M) Why) → nat_lt most size ≡ large → (if large then Err why else r) ≡ Ok next → (size ≤ most) × (r ≡ Ok next)
sized size most rules s e next true why r t h = cc
sized size most rules s e next false why r t h = (ltb-false most size t, h)

-- what the table takes
pub step_moves : {M : Type 0} (rules : Rules M) (s : State M) (e : Event) (next : State M) → step rules s e ≡ Ok next → (bytes_with s.place e ≤ limit) × Moves rules s e s.place next
unfolding step
step_moves rules s e next h =
    let t = sized (bytes_with s.place e) limit rules s e next _ _ _ refl h in
    (t.0, line_moves rules s e next s.place (sort_of e) refl t.1)
