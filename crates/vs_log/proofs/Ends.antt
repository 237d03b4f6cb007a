-- An entry ends at one place of the bytes.
use Rattle.std.proofs.Common.{◌≡◌, ◌≤◌, ◌+◌, ℕ, false, List, [], ◌∷◌, ◌++◌, length, take, Option, Some, None, Result, Ok, refl, ap, sym, subst, ◌∙◌, append_assoc, arith, length-append}
use Rattle.std.specs.Prelude.{◌⊎◌}
use Rattle.std.specs.List.{AllByRecursion}
use Rattle.std.proofs.lemmas.List.{append-nil, append_cancel_left, take_at}
use Rattle.vs_base.specs.declared.Gtid.{Gtid}
use Rattle.vs_base.specs.declared.Why.{Why}
use Rattle.vs_log.specs.States.{Place, State}
use Rattle.vs_log.specs.States.Place.{Between}
use Rattle.vs_binlog.specs.Heads.{Event}
use Rattle.vs_log.specs.Events.{magic, joined, IsEvent}
use Rattle.vs_log.specs.Table.{Rules, step}
use Rattle.vs_log.specs.Meaning.{front, is_base_known, log_meant}
use Rattle.vs_log.specs.Productions.{EntryEndsAt, IsCut, IsLog, IsWholeLog}
use Rattle.vs_log.specs.Laws.{HasOnePlace}
use Rattle.vs_log.specs.Steps.{open_gtid}
use Rattle.vs_log.proofs.Bases.{knows_its_base}
use Rattle.vs_log.proofs.Growth.{entries_behind}
use Rattle.vs_log.proofs.Longest.{closed, is_between, stands}
use Rattle.vs_log.proofs.Moves.{Moves, chained, step_moves}
use Rattle.vs_log.proofs.Moves.Moves.{formatted, passed_between, passed_named, passed_inside, based, names, singles, begins, saves, maps_on, tells, ends}
use Rattle.vs_log.proofs.Names.{Opens, step_opens}
use Rattle.vs_log.proofs.Places.{one_place, same_head}
use Rattle.vs_log.proofs.Takes.{walk, walk-append}
use Rattle.vs_log.proofs.Complete.{complete}

-- entries stay
step_grows : {M : Type 0} (rules : Rules M) (s : State M) (e : Event) (next : State M) → step rules s e ≡ Ok next → length s.entries ≤ length next.entries
step_grows rules s e next h = go (open_gtid s.place) (step_opens rules s e next h) where
  go : (o : Option Gtid) → Opens s e o next → length s.entries ≤ length next.entries
  go None k = omega (arith, ap length k.1)
  go (Some g) (◌⊎◌.inl k) = omega (arith, ap length k.1)
  go (Some g) (◌⊎◌.inr k) = let x = k.1 in omega (arith, ap length x.1, length-append s.entries (x.0 ∷ []))

walk_grows : {M : Type 0} (rules : Rules M) (s : State M) (es : List Event) (t : State M) → walk rules s es ≡ Ok t → length s.entries ≤ length t.entries
walk_grows rules s [] t h = let same : s ≡ t = cc in omega (arith, ap (λ z. length z.entries) same)
walk_grows rules s (e ∷ es) t h =
    let c = chained (step rules s e) (λ z. walk rules z es) t h in
    omega (arith, step_grows rules s e c.0 c.1, walk_grows rules c.0 es t c.2)

-- behind an event there are at least the entries with it
over : {M : Type 0} (rules : Rules M) (s : State M) (e : Event) (es : List Event) (t u : State M) → walk rules s (e ∷ []) ≡ Ok t → walk rules s (e ∷ es) ≡ Ok u → length t.entries ≤ length u.entries
over rules s e es t u h k =
    let c = chained (step rules s e) (λ z. walk rules z []) t h in
    let d = chained (step rules s e) (λ z. walk rules z es) u k in
    let there : c.0 ≡ t = (let q : ◌≡◌ {A = Result (State _) Why} (Ok c.0) (Ok t) = c.2 in cc) in
    let same : d.0 ≡ c.0 = (let q : ◌≡◌ {A = Result (State _) Why} (Ok d.0) (Ok c.0) = sym d.1 ∙ c.1 in cc) in
    omega (arith, ap (λ z. length z.entries) (same ∙ there), walk_grows rules d.0 es u d.2)

-- two beginnings of the same bytes, each of which ends with the entry behind as many
same_ends : {M : Type 0} (rules : Rules M) (s a b t u : State M) (xs ys : List Event) (e f : Event) (rest more : List ℕ) (n : ℕ) →
    AllByRecursion IsEvent (xs ++ e ∷ []) → AllByRecursion IsEvent (ys ++ f ∷ []) → joined (xs ++ e ∷ []) ++ rest ≡ joined (ys ++ f ∷ []) ++ more →
    walk rules s xs ≡ Ok a → length a.entries ≡ n → walk rules s (xs ++ e ∷ []) ≡ Ok t → length t.entries ≡ n + 1 →
    walk rules s ys ≡ Ok b → length b.entries ≡ n → walk rules s (ys ++ f ∷ []) ≡ Ok u → length u.entries ≡ n + 1 → xs ++ e ∷ [] ≡ ys ++ f ∷ []
same_ends rules s a b t u [] [] e f rest more n i j h wa na wt nt wb nb wu nu = ap (λ z. z ∷ []) (same_head e f [] [] rest more i.0 j.0 h).0
same_ends rules s a b t u [] (y ∷ ys) e f rest more n i j h wa na wt nt wb nb wu nu =
    let p = same_head e y [] (joined (ys ++ f ∷ [])) rest more i.0 j.0 h in
    absurd (omega (arith, nt, nb, over rules s e ys t b wt (ap (λ z. walk rules s (z ∷ ys)) p.0 ∙ wb)))
same_ends rules s a b t u (x ∷ xs) [] e f rest more n i j h wa na wt nt wb nb wu nu =
    let p = same_head x f (joined (xs ++ e ∷ [])) [] rest more i.0 j.0 h in
    absurd (omega (arith, nu, na, over rules s f xs u a wu (ap (λ z. walk rules s (z ∷ xs)) (sym p.0) ∙ wa)))
same_ends rules s a b t u (x ∷ xs) (y ∷ ys) e f rest more n i j h wa na wt nt wb nb wu nu =
    let p = same_head x y (joined (xs ++ e ∷ [])) (joined (ys ++ f ∷ [])) rest more i.0 j.0 h in
    let ca = chained (step rules s x) (λ z. walk rules z xs) a wa in
    let ct = chained (step rules s x) (λ z. walk rules z (xs ++ e ∷ [])) t wt in
    let cb = chained (step rules s x) (λ z. walk rules z ys) b (ap (λ z. walk rules s (z ∷ ys)) p.0 ∙ wb) in
    let cu = chained (step rules s x) (λ z. walk rules z (ys ++ f ∷ [])) u (ap (λ z. walk rules s (z ∷ (ys ++ f ∷ []))) p.0 ∙ wu) in
    let t_a : ct.0 ≡ ca.0 = (let q : ◌≡◌ {A = Result (State _) Why} (Ok ct.0) (Ok ca.0) = sym ct.1 ∙ ca.1 in cc) in
    let b_a : cb.0 ≡ ca.0 = (let q : ◌≡◌ {A = Result (State _) Why} (Ok cb.0) (Ok ca.0) = sym cb.1 ∙ ca.1 in cc) in
    let u_a : cu.0 ≡ ca.0 = (let q : ◌≡◌ {A = Result (State _) Why} (Ok cu.0) (Ok ca.0) = sym cu.1 ∙ ca.1 in cc) in
    let rests : xs ++ e ∷ [] ≡ ys ++ f ∷ [] = same_ends rules ca.0 a b t u xs ys e f rest more n i.1 j.1 p.1 ca.2 na (subst (λ z. walk rules z (xs ++ e ∷ []) ≡ Ok t) t_a ct.2) nt
    (subst (λ z. walk rules z ys ≡ Ok b) b_a cb.2) nb (subst (λ z. walk rules z (ys ++ f ∷ []) ≡ Ok u) u_a cu.2) nu in
    ap (λ z. x ∷ z) rests ∙ ap (λ z. z ∷ (ys ++ f ∷ [])) p.0

one_end : {M : Type 0} (rules : Rules M) (bytes : List ℕ) (n at other : ℕ) → EntryEndsAt rules bytes n at → EntryEndsAt rules bytes n other → at ≡ other
one_end rules bytes n at other a b =
    let same_bytes : joined (a.before ++ a.last ∷ []) ++ a.rest ≡ joined (b.before ++ b.last ∷ []) ++ b.rest = append_cancel_left magic _ _ (sym a.cut.are ∙ b.cut.are) in
    let same : a.before ++ a.last ∷ [] ≡ b.before ++ b.last ∷ [] =
    same_ends rules front a.without b.without a.state b.state a.before b.before a.last b.last a.rest b.rest n a.cut.whole b.cut.whole same_bytes
    (complete rules a.before a.without a.begins_without) a.few (complete rules (a.before ++ a.last ∷ []) a.state a.begins) a.more
    (complete rules b.before b.without b.begins_without) b.few (complete rules (b.before ++ b.last ∷ []) b.state b.begins) b.more in
    a.place ∙ ap (λ z. 4 + length (joined z)) same ∙ sym b.place

-- an event with which an entry comes leaves none open
grew : {M : Type 0} (rules : Rules M) (s : State M) (e : Event) (place : Place M) (next : State M) → length next.entries ≡ length s.entries + 1 → Moves rules s e place next → next.place ≡ Between false
grew rules s e place next h (formatted is) = absurd (omega (arith, h))
grew rules s e place next h (passed_between first k) = absurd (omega (arith, h))
grew rules s e place next h (passed_named g bytes k) = absurd (omega (arith, h))
grew rules s e place next h (passed_inside g bytes maps work k) = absurd (omega (arith, h))
grew rules s e place next h (based set k r) = absurd (omega (arith, h))
grew rules s e place next h (names first g is new) = absurd (omega (arith, h))
grew rules s e place next h (singles g bytes statement work says one) = refl
grew rules s e place next h (begins g bytes says) = absurd (omega (arith, h))
grew rules s e place next h (saves g bytes maps work says) = absurd (omega (arith, h))
grew rules s e place next h (maps_on g bytes maps work more is) = absurd (omega (arith, h))
grew rules s e place next h (tells g bytes maps work counted more is t) = absurd (omega (arith, h))
grew rules s e place next h (ends g bytes maps work end) = refl

last_step : {M : Type 0} (rules : Rules M) (bytes : List ℕ) (n at : ℕ) (e : EntryEndsAt rules bytes n at) → step rules e.without e.last ≡ Ok e.state
last_step rules bytes n at e =
    let all = sym (walk-append rules front e.without e.before (e.last ∷ []) (complete rules e.before e.without e.begins_without)) ∙ complete rules (e.before ++ e.last ∷ []) e.state e.begins in
    let c = chained (step rules e.without e.last) (λ z. walk rules z []) e.state all in
    let same : c.0 ≡ e.state = (let q : ◌≡◌ {A = Result (State _) Why} (Ok c.0) (Ok e.state) = c.2 in cc) in
    c.1 ∙ ap (λ z. Ok z) same

-- the bytes up to the end of an entry
front_of_bytes : (bytes : List ℕ) (events : List Event) (rest : List ℕ) (at : ℕ) → IsCut bytes events rest → at ≡ 4 + length (joined events) → IsCut (take at bytes) events []
front_of_bytes bytes events rest at c place =
    let long : length (magic ++ joined events) ≡ at = omega (arith, place, length-append magic (joined events)) in
    record {
      are =
          ap (λ z. take at z) (c.are ∙ sym (append_assoc magic (joined events) rest))
          ∙ take_at (magic ++ joined events) rest at long ∙ ap (λ z. magic ++ z) (sym (append-nil (joined events)));
      whole = c.whole;
      short = c.short;
    }

whole_front : {M : Type 0} (rules : Rules M) (bytes : List ℕ) (n at : ℕ) → EntryEndsAt rules bytes n at →
    IsWholeLog rules (take at bytes) (log_meant rules bytes).base (take (n + 1) (log_meant rules bytes).entries)
whole_front rules bytes n at e =
    let events = e.before ++ e.last ∷ [] in
    let between : e.state.place ≡ Between false = grew rules e.without e.last e.without.place e.state (omega (arith, e.few, e.more)) (step_moves rules e.without e.last e.state (last_step rules bytes n at e)).1 in
    let st = stands rules e.before e.last e.state e.begins in
    let none : st.opened ≡ [] = closed rules st.known st.opened e.state e.state.place (ap is_between between) st.begun in
    let log : IsLog rules events e.state.base e.state.entries st.known [] = subst (λ z. IsLog rules events e.state.base e.state.entries st.known z) none st.log in
    let base = ((knows_its_base rules bytes).behind events e.state e.rest e.cut e.begins (ap (λ z. is_base_known z None) between)).1 in
    let more = entries_behind rules bytes events e.rest e.state e.cut e.begins in
    let entries : take (n + 1) (log_meant rules bytes).entries ≡ e.state.entries = ap (λ z. take (n + 1) z) more.1 ∙ take_at e.state.entries more.0 (n + 1) e.more in
    subst (λ b. IsWholeLog rules (take at bytes) b (take (n + 1) (log_meant rules bytes).entries)) (sym base)
    (subst (λ es. IsWholeLog rules (take at bytes) e.state.base es) (sym entries)
    (record { events = events; cut = front_of_bytes bytes events e.rest at e.cut e.place; known = st.known; log = log }))

pub has_one_place : {M : Type 0} (rules : Rules M) (bytes : List ℕ) → HasOnePlace rules bytes
has_one_place rules bytes = record { begins = one_place rules bytes; ends = one_end rules bytes; whole = whole_front rules bytes }
