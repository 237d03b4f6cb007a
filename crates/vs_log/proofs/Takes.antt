-- Each positive line of the table is a step, and steps make a walk.
use Rattle.std.proofs.Common.{◌≡◌, ◌≤◌, ◌+◌, ℕ, Bool, true, false, List, [], ◌∷◌, ◌++◌, length, nat_lt, if◌then◌else◌, Some, None, Result, Ok, Err, refl, ap, sym, subst, ◌∙◌, arith}
use Rattle.std.specs.Prelude.{◌⊎◌}
use Rattle.std.specs.List.{filter, AllByRecursion}
use Rattle.std.proofs.lemmas.Bool.{le-ltb}
use Rattle.vs_base.specs.declared.Gtid.{Gtid}
use Rattle.vs_base.specs.declared.Why.{Why}
use Rattle.vs_base.specs.declared.Why.TheVariants.{BadEvent, RepeatedGtid, TooLarge, TooManyIntervals}
use Rattle.vs_gtid.specs.declared.Work.{Work}
use Rattle.vs_gtid.specs.Positions.{Position, has}
use Rattle.vs_gtid.specs.Joins.{added}
use Rattle.vs_log.specs.declared.event.Sort.{Sort}
use Rattle.vs_log.specs.declared.event.Sort.TheVariants.{PassedOver}
use Rattle.vs_log.specs.declared.statement.Statement.{Statement}
use Rattle.vs_log.specs.declared.statement.Statement.TheVariants.{Begin, Commit, Savepoint, Xa, Single}
use Rattle.vs_log.specs.States.{Place}
use Rattle.vs_log.specs.States.Place.{Front, Between, Named, Inside}
use Rattle.vs_log.specs.States.{State}
use Rattle.vs_binlog.specs.Heads.{Event, length_of, body_of}
use Rattle.vs_log.specs.Events.{sort_of, limit}
use Rattle.vs_log.specs.Table.{Rules, ◌>>=◌, unless, gtid_in, single_work, more_work, size, sum_with, bytes_with, ended, with_base, new_gtid, named, first_query, later_query, told, line, step}
use Rattle.vs_log.specs.Productions.{counts, is_counted, IsNew}
use Rattle.vs_log.proofs.Moves.{Moves, chained, step_moves}
use Rattle.vs_log.proofs.Moves.Moves.{formatted, passed_between, passed_named, passed_inside, based, names, singles, begins, saves, maps_on, tells, ends}

-- the state to which events lead
abbrev pub walk : {M : Type 0} → Rules M → State M → List Event → Result (State M) Why
walk rules s [] = Ok s
walk rules s (e ∷ es) = step rules s e >>= λ next. walk rules next es

new_gtid-takes : (known : Position) (body : List ℕ) (g : Gtid) → gtid_in body ≡ Ok g → IsNew known g → new_gtid known body ≡ Ok g
new_gtid-takes known body g h new =
    ap (λ r. r >>= λ x. if has known x then Err (RepeatedGtid x) else if nat_lt 1024 (length (added known x)) then Err TooManyIntervals else Ok x) h
    ∙ ap (λ b. if b then Err (RepeatedGtid g) else if nat_lt 1024 (length (added known g)) then Err TooManyIntervals else Ok g) new.lacks
    ∙ ap (λ b. if b then Err TooManyIntervals else Ok g) (le-ltb 1024 (length (added known g)) new.few)

query_line : {M : Type 0} (rules : Rules M) (s : State M) (e : Event) (statement : Statement) (f : Statement → Result (State M) Why) → rules.statement (body_of e) ≡ Ok statement → (rules.statement (body_of e) >>= f) ≡ f statement
query_line rules s e statement f h = ap (λ r. r >>= f) h

single_line : {M : Type 0} (none : M) (s : State M) (e : Event) (g : Gtid) (bytes : ℕ) (statement : Statement) (work : Work) → single_work statement ≡ Some work → first_query none s e g bytes statement ≡ Ok (ended s e g work)
single_line none s e g bytes Begin work h = absurd (cc)
single_line none s e g bytes Xa work h = absurd (cc)
single_line none s e g bytes Commit work h = ap (λ o. elim o [ None ↦ first_query none s e g bytes Commit | Some w ↦ Ok (ended s e g w) ]) h
single_line none s e g bytes Savepoint work h = ap (λ o. elim o [ None ↦ first_query none s e g bytes Savepoint | Some w ↦ Ok (ended s e g w) ]) h
single_line none s e g bytes (Single one) work h = ap (λ o. elim o [ None ↦ first_query none s e g bytes (Single one) | Some w ↦ Ok (ended s e g w) ]) h

line_takes : {M : Type 0} (rules : Rules M) (s : State M) (e : Event) (place : Place M) (next : State M) → Moves rules s e place next → line rules s e place (sort_of e) ≡ Ok next
line_takes rules s e place next (formatted is) =
    ap (λ k. line rules s e Front k) is.kind ∙ ap (λ r. unless r (record s { place = Between true })) is.layout
line_takes rules s e place next (passed_between first k) = ap (λ z. line rules s e (Between first) z) k
line_takes rules s e place next (passed_named g bytes k) = ap (λ z. line rules s e (Named g bytes) z) k
line_takes rules s e place next (passed_inside g bytes maps work k) = ap (λ z. line rules s e (Inside g bytes maps work) z) k
line_takes rules s e place next (based set k r) = ap (λ z. line rules s e (Between true) z) k ∙ ap (λ z. z >>= λ x. Ok (with_base s x)) r
line_takes rules s e place next (names first g is new) =
    ap (λ z. line rules s e (Between first) z) is.kind ∙ ap (λ z. z >>= λ x. Ok (named s e x)) (new_gtid-takes s.known (body_of e) g is.layout new)
line_takes rules s e place next (singles g bytes statement work says one) =
    ap (λ z. line rules s e (Named g bytes) z) says.kind ∙ query_line rules s e statement (first_query rules.no_tables s e g bytes) says.layout ∙ single_line rules.no_tables s e g bytes statement work one
line_takes rules s e place next (begins g bytes says) =
    ap (λ z. line rules s e (Named g bytes) z) says.kind ∙ query_line rules s e Begin (first_query rules.no_tables s e g bytes) says.layout
line_takes rules s e place next (saves g bytes maps work says) =
    ap (λ z. line rules s e (Inside g bytes maps work) z) says.kind ∙ query_line rules s e Savepoint (later_query s e g bytes maps work) says.layout
line_takes rules s e place next (maps_on g bytes maps work more is) =
    ap (λ z. line rules s e (Inside g bytes maps work) z) is.kind
    ∙ ap (λ r. r >>= λ x. Ok (record s { place = Inside g (bytes + length_of e) x work })) is.layout
line_takes rules s e place next (tells g bytes maps work counted more is t) =
    ap (λ z. line rules s e (Inside g bytes maps work) z) is.kind
    ∙ ap (λ r. r >>= λ x. told s e g bytes maps (more_work work x)) is.layout
    ∙ ap (λ o. told s e g bytes maps o) t
line_takes rules s e place next (ends g bytes maps work (◌⊎◌.inl is)) =
    ap (λ z. line rules s e (Inside g bytes maps work) z) is.kind ∙ ap (λ b. if b then Err (BadEvent 16) else Ok (ended s e g work)) (le-ltb _ _ is.layout)
line_takes rules s e place next (ends g bytes maps work (◌⊎◌.inr says)) =
    ap (λ z. line rules s e (Inside g bytes maps work) z) says.kind ∙ query_line rules s e Commit (later_query s e g bytes maps work) says.layout

-- the table takes what a line of it allows
pub takes : {M : Type 0} (rules : Rules M) (s : State M) (e : Event) (next : State M) → bytes_with s.place e ≤ limit → Moves rules s e s.place next → step rules s e ≡ Ok next
unfolding step
takes rules s e next fits m =
    ap (λ b. if b then Err (TooLarge (bytes_with s.place e)) else line rules s e s.place (sort_of e)) (le-ltb limit (bytes_with s.place e) fits) ∙ line_takes rules s e s.place next m

sum_fits : {M : Type 0} (place : Place M) (sort : Sort) (n most : ℕ) → size place + n ≤ most → sum_with place sort n ≤ most
sum_fits place PassedOver n most h = omega arith
sum_fits place sort n most h = h

pub takes_counted : {M : Type 0} (rules : Rules M) (s : State M) (e : Event) (next : State M) → size s.place + length_of e ≤ limit → Moves rules s e s.place next → step rules s e ≡ Ok next
unfolding bytes_with
takes_counted rules s e next fits m = takes rules s e next (sum_fits s.place (sort_of e) (length_of e) limit fits) m

pub walk_one : {M : Type 0} (rules : Rules M) (s next : State M) (e : Event) (es : List Event) → step rules s e ≡ Ok next → walk rules s (e ∷ es) ≡ walk rules next es
walk_one rules s next e es h = ap (λ r. r >>= λ x. walk rules x es) h

pub walk-append : {M : Type 0} (rules : Rules M) (s t : State M) (xs ys : List Event) → walk rules s xs ≡ Ok t → walk rules s (xs ++ ys) ≡ walk rules t ys
walk-append rules s t [] ys h = ap (λ z. walk rules z ys) (let p : s ≡ t = cc in p)
walk-append rules s t (x ∷ xs) ys h =
    let c = chained (step rules s x) (λ z. walk rules z xs) t h in
    walk_one rules s c.0 x (xs ++ ys) c.1 ∙ walk-append rules c.0 t xs ys c.2

-- behind the format description
abbrev is_behind : {M : Type 0} → Place M → Bool
is_behind Front = false
is_behind place = true

moves_behind : {M : Type 0} (rules : Rules M) (s : State M) (e : Event) (place : Place M) (next : State M) → is_behind s.place ≡ true → Moves rules s e place next → is_behind next.place ≡ true
moves_behind rules s e place next b (formatted is) = refl
moves_behind rules s e place next b (passed_between first k) = b
moves_behind rules s e place next b (passed_named g bytes k) = b
moves_behind rules s e place next b (passed_inside g bytes maps work k) = b
moves_behind rules s e place next b (based set k r) = refl
moves_behind rules s e place next b (names first g is new) = refl
moves_behind rules s e place next b (singles g bytes statement work says one) = refl
moves_behind rules s e place next b (begins g bytes says) = refl
moves_behind rules s e place next b (saves g bytes maps work says) = refl
moves_behind rules s e place next b (maps_on g bytes maps work more is) = refl
moves_behind rules s e place next b (tells g bytes maps work counted more is t) = refl
moves_behind rules s e place next b (ends g bytes maps work end) = refl

passes : {M : Type 0} (rules : Rules M) (s : State M) (e : Event) (place : Place M) → is_behind place ≡ true → sort_of e ≡ PassedOver → Moves rules s e place s
passes rules s e Front b k = absurd (cc)
passes rules s e (Between first) b k = passed_between first k
passes rules s e (Named g bytes) b k = passed_named g bytes k
passes rules s e (Inside g bytes maps work) b k = passed_inside g bytes maps work k

uncounted : (sort : Sort) → counts sort ≡ false → sort ≡ PassedOver
uncounted PassedOver h = refl
uncounted sort h = absurd (cc)

passed_step : {M : Type 0} (rules : Rules M) (s : State M) (e : Event) → is_behind s.place ≡ true → is_counted e ≡ false → length_of e ≤ limit → step rules s e ≡ Ok s
unfolding bytes_with
passed_step rules s e b k fits =
    let p : sort_of e ≡ PassedOver = uncounted (sort_of e) k in
    takes rules s e s (subst (λ z. sum_with s.place z (length_of e) ≤ limit) (sym p) fits) (passes rules s e s.place b p)

-- what is passed over changes nothing
pub filter_walk : {M : Type 0} (rules : Rules M) (s t : State M) (es : List Event) → is_behind s.place ≡ true → AllByRecursion (λ e. length_of e ≤ limit) es →
    walk rules s (filter is_counted es) ≡ Ok t → walk rules s es ≡ Ok t
filter_walk rules s t [] b fits h = h
filter_walk rules s t (e ∷ es) b fits h = go (is_counted e) refl h (λ next bn. filter_walk rules next t es bn fits.1) where
  go : (kept : Bool) → is_counted e ≡ kept → walk rules s (if kept then e ∷ filter is_counted es else filter is_counted es) ≡ Ok t →
      ((next : State _) → is_behind next.place ≡ true → walk rules next (filter is_counted es) ≡ Ok t → walk rules next es ≡ Ok t) → walk rules s (e ∷ es) ≡ Ok t
  go true k w rest =
      let c = chained (step rules s e) (λ z. walk rules z (filter is_counted es)) t w in
      walk_one rules s c.0 e es c.1 ∙ rest c.0 (moves_behind rules s e s.place c.0 b (step_moves rules s e c.0 c.1).1) c.2
  go false k w rest = walk_one rules s s e es (passed_step rules s e b k fits.0) ∙ rest s b w
