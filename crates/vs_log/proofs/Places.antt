-- The event that names a GTID stands at one place of the bytes.
use Rattle.std.proofs.Common.{◌≡◌, ◌+◌, ◌||◌, ℕ, true, false, List, [], ◌∷◌, ◌++◌, length, take, drop, None, Result, Ok, refl, ap, sym, subst, ◌∙◌, append_assoc}
use Rattle.std.specs.Prelude.{◌⊎◌}
use Rattle.std.specs.List.{AllByRecursion}
use Rattle.std.proofs.lemmas.List.{append_cancel_left}
use Rattle.std.proofs.Math.Bool.{or_comm}
use Rattle.vs_base.specs.declared.Gtid.{Gtid}
use Rattle.vs_base.specs.declared.Why.{Why}
use Rattle.vs_base.specs.Names.{same_gtid}
use Rattle.vs_base.proofs.NameLemmas.{same_gtid-refl}
use Rattle.vs_gtid.specs.Positions.{Position, has}
use Rattle.vs_gtid.specs.Joins.{added}
use Rattle.vs_gtid.proofs.JoinLemmas.{has-added}
use Rattle.vs_log.specs.declared.event.Sort.TheVariants.{PassedOver, FormatEvent, PreviousEvent, GtidEvent, QueryEvent, XidEvent, MapEvent, RowsEvent}
use Rattle.vs_log.specs.States.{Place}
use Rattle.vs_log.specs.States.{State}
use Rattle.vs_binlog.specs.Heads.{Event, length_of}
use Rattle.vs_log.specs.Events.{magic, joined, IsEvent}
use Rattle.vs_log.specs.Table.{Rules, named, step}
use Rattle.vs_log.specs.Meaning.{front, is_base_known}
use Rattle.vs_log.specs.Productions.{IsGtid, StandsAt}
use Rattle.vs_log.proofs.Moves.{Moves, chained, step_moves}
use Rattle.vs_log.proofs.Moves.Moves.{formatted, passed_between, passed_named, passed_inside, based, names, singles, begins, saves, maps_on, tells, ends}
use Rattle.vs_log.proofs.Cuts.{head_taken, head_dropped}
use Rattle.vs_log.proofs.Takes.{walk}
use Rattle.vs_log.proofs.Complete.{complete}

-- the GTID is known, where no PREVIOUS_GTIDS event may replace what is known
abbrev Knows : {M : Type 0} → Gtid → State M → Type 0
Knows g s = (is_base_known s.place None ≡ true) × (has s.known g ≡ true)

-- a set with a GTID more has what it had, and that GTID
has_also : (known : Position) (g x : Gtid) → has known x ≡ true → has (added known g) x ≡ true
has_also known g x h = has-added known g x ∙ ap (λ b. b || same_gtid g x) h

has_it : (known : Position) (g : Gtid) → has (added known g) g ≡ true
has_it known g = has-added known g g ∙ or_comm (has known g) (same_gtid g g) ∙ ap (λ b. b || has known g) (same_gtid-refl g)

-- so it stays known
moves_know : {M : Type 0} (rules : Rules M) (s : State M) (e : Event) (place : Place M) (next : State M) (g : Gtid) → is_base_known place None ≡ true → Knows g s → Moves rules s e place next → Knows g next
moves_know rules s e place next g p k (formatted is) = absurd (cc)
moves_know rules s e place next g p k (passed_between first is) = k
moves_know rules s e place next g p k (passed_named x bytes is) = k
moves_know rules s e place next g p k (passed_inside x bytes maps work is) = k
moves_know rules s e place next g p k (based set is r) = absurd (cc)
moves_know rules s e place next g p k (names first x is new) = (refl, has_also s.known x g k.1)
moves_know rules s e place next g p k (singles x bytes statement work says one) = (refl, k.1)
moves_know rules s e place next g p k (begins x bytes says) = (refl, k.1)
moves_know rules s e place next g p k (saves x bytes maps work says) = (refl, k.1)
moves_know rules s e place next g p k (maps_on x bytes maps work more is) = (refl, k.1)
moves_know rules s e place next g p k (tells x bytes maps work counted more is t) = (refl, k.1)
moves_know rules s e place next g p k (ends x bytes maps work end) = (refl, k.1)

step_knows : {M : Type 0} (rules : Rules M) (s : State M) (e : Event) (next : State M) (g : Gtid) → Knows g s → step rules s e ≡ Ok next → Knows g next
step_knows rules s e next g k t = moves_know rules s e s.place next g k.0 k (step_moves rules s e next t).1

-- an event that names a GTID is taken where the GTID is new, and then the GTID is known
abbrev Names : {M : Type 0} → Gtid → State M → State M → Type 0
Names g s next = (has s.known g ≡ false) × Knows g next

one_gtid : (e : Event) (g x : Gtid) → IsGtid e g → IsGtid e x → x ≡ g
one_gtid e g x is also = let h : ◌≡◌ {A = Result Gtid Why} (Ok x) (Ok g) = sym also.layout ∙ is.layout in cc

moves_name : {M : Type 0} (rules : Rules M) (s : State M) (e : Event) (place : Place M) (next : State M) (g : Gtid) → IsGtid e g → Moves rules s e place next → Names g s next
moves_name rules s e place next g is (formatted other) = absurd (let h : GtidEvent ≡ FormatEvent = sym is.kind ∙ other.kind in cc)
moves_name rules s e place next g is (passed_between first p) = absurd (let h : GtidEvent ≡ PassedOver = sym is.kind ∙ p in cc)
moves_name rules s e place next g is (passed_named x bytes p) = absurd (let h : GtidEvent ≡ PassedOver = sym is.kind ∙ p in cc)
moves_name rules s e place next g is (passed_inside x bytes maps work p) = absurd (let h : GtidEvent ≡ PassedOver = sym is.kind ∙ p in cc)
moves_name rules s e place next g is (based set p r) = absurd (let h : GtidEvent ≡ PreviousEvent = sym is.kind ∙ p in cc)
moves_name rules s e place next g is (names first x also new) =
    subst (λ z. Names z s (named s e x)) (one_gtid e g x is also) (new.lacks, (refl, has_it s.known x))
moves_name rules s e place next g is (singles x bytes statement work says one) = absurd (let h : GtidEvent ≡ QueryEvent = sym is.kind ∙ says.kind in cc)
moves_name rules s e place next g is (begins x bytes says) = absurd (let h : GtidEvent ≡ QueryEvent = sym is.kind ∙ says.kind in cc)
moves_name rules s e place next g is (saves x bytes maps work says) = absurd (let h : GtidEvent ≡ QueryEvent = sym is.kind ∙ says.kind in cc)
moves_name rules s e place next g is (maps_on x bytes maps work more other) = absurd (let h : GtidEvent ≡ MapEvent = sym is.kind ∙ other.kind in cc)
moves_name rules s e place next g is (tells x bytes maps work counted more other t) = absurd (let h : GtidEvent ≡ RowsEvent = sym is.kind ∙ other.kind in cc)
moves_name rules s e place next g is (ends x bytes maps work (◌⊎◌.inl xid)) = absurd (let h : GtidEvent ≡ XidEvent = sym is.kind ∙ xid.kind in cc)
moves_name rules s e place next g is (ends x bytes maps work (◌⊎◌.inr says)) = absurd (let h : GtidEvent ≡ QueryEvent = sym is.kind ∙ says.kind in cc)

step_names : {M : Type 0} (rules : Rules M) (s : State M) (e : Event) (next : State M) (g : Gtid) → IsGtid e g → step rules s e ≡ Ok next → Names g s next
step_names rules s e next g is t = moves_name rules s e s.place next g is (step_moves rules s e next t).1

-- where a GTID is known, no walk comes past an event that names it
not_again : {M : Type 0} (rules : Rules M) (s t : State M) (es : List Event) (e : Event) (g : Gtid) → Knows g s → IsGtid e g → walk rules s (es ++ e ∷ []) ≡ Ok t → ⊥
not_again rules s t [] e g k is w =
    let c = chained (step rules s e) (λ z. walk rules z []) t w in
    let h : true ≡ false = sym k.1 ∙ (step_names rules s e c.0 g is c.1).0 in
    cc
not_again rules s t (x ∷ es) e g k is w =
    let c = chained (step rules s x) (λ z. walk rules z (es ++ e ∷ [])) t w in
    not_again rules c.0 t es e g (step_knows rules s x c.0 g k c.1) is c.2

-- behind an event that names the GTID, none does
not_behind : {M : Type 0} (rules : Rules M) (s u : State M) (es : List Event) (e f : Event) (g : Gtid) → IsGtid e g → IsGtid f g → walk rules s (e ∷ (es ++ f ∷ [])) ≡ Ok u → ⊥
not_behind rules s u es e f g is also v =
    let c = chained (step rules s e) (λ z. walk rules z (es ++ f ∷ [])) u v in
    not_again rules c.0 u es f g (step_names rules s e c.0 g is c.1).1 also c.2

-- the same bytes begin with the same whole event, and the same is left
pub same_head : (e f : Event) (xs ys rest more : List ℕ) → IsEvent e → IsEvent f → (e ++ xs) ++ rest ≡ (f ++ ys) ++ more → (e ≡ f) × (xs ++ rest ≡ ys ++ more)
same_head e f xs ys rest more is also h =
    let k : e ++ (xs ++ rest) ≡ f ++ (ys ++ more) = sym (append_assoc e xs rest) ∙ h ∙ append_assoc f ys more in (
      sym (head_taken e (xs ++ rest) is) ∙ ap (λ z. take (length_of z) z) k ∙ head_taken f (ys ++ more) also,
      sym (head_dropped e (xs ++ rest) is) ∙ ap (λ z. drop (length_of z) z) k ∙ head_dropped f (ys ++ more) also,
    )

-- before events of the same bytes that name one GTID stand the same events
same_before : {M : Type 0} (rules : Rules M) (s t u : State M) (xs ys : List Event) (e f : Event) (rest more : List ℕ) (g : Gtid) →
    AllByRecursion IsEvent (xs ++ e ∷ []) → AllByRecursion IsEvent (ys ++ f ∷ []) → joined (xs ++ e ∷ []) ++ rest ≡ joined (ys ++ f ∷ []) ++ more →
    IsGtid e g → IsGtid f g → walk rules s (xs ++ e ∷ []) ≡ Ok t → walk rules s (ys ++ f ∷ []) ≡ Ok u → xs ≡ ys
same_before rules s t u [] [] e f rest more g a b h is also w v = refl
same_before rules s t u [] (y ∷ ys) e f rest more g a b h is also w v =
    let p = same_head e y [] (joined (ys ++ f ∷ [])) rest more a.0 b.0 h in
    absurd (not_behind rules s u ys e f g is also (ap (λ z. walk rules s (z ∷ (ys ++ f ∷ []))) p.0 ∙ v))
same_before rules s t u (x ∷ xs) [] e f rest more g a b h is also w v =
    let p = same_head x f (joined (xs ++ e ∷ [])) [] rest more a.0 b.0 h in
    absurd (not_behind rules s t xs f e g also is (ap (λ z. walk rules s (z ∷ (xs ++ e ∷ []))) (sym p.0) ∙ w))
same_before rules s t u (x ∷ xs) (y ∷ ys) e f rest more g a b h is also w v =
    let p = same_head x y (joined (xs ++ e ∷ [])) (joined (ys ++ f ∷ [])) rest more a.0 b.0 h in
    let v_here : walk rules s (x ∷ (ys ++ f ∷ [])) ≡ Ok u = ap (λ z. walk rules s (z ∷ (ys ++ f ∷ []))) p.0 ∙ v in
    let c = chained (step rules s x) (λ z. walk rules z (xs ++ e ∷ [])) t w in
    let d = chained (step rules s x) (λ z. walk rules z (ys ++ f ∷ [])) u v_here in
    let same : d.0 ≡ c.0 = (let q : ◌≡◌ {A = Result (State _) Why} (Ok d.0) (Ok c.0) = sym d.1 ∙ c.1 in cc) in
    let rests : xs ≡ ys = same_before rules c.0 t u xs ys e f rest more g a.1 b.1 p.1 is also c.2 (subst (λ z. walk rules z (ys ++ f ∷ []) ≡ Ok u) same d.2) in
    ap (λ z. x ∷ z) rests ∙ ap (λ z. z ∷ ys) p.0

-- so its event stands at one place
pub one_place : {M : Type 0} (rules : Rules M) (bytes : List ℕ) (g : Gtid) (at other : ℕ) → StandsAt rules bytes g at → StandsAt rules bytes g other → at ≡ other
one_place rules bytes g at other a b =
    let same_bytes : joined (a.before ++ a.event ∷ []) ++ a.rest ≡ joined (b.before ++ b.event ∷ []) ++ b.rest = append_cancel_left magic _ _ (sym a.cut.are ∙ b.cut.are) in
    let same : a.before ≡ b.before =
    same_before rules front a.state b.state a.before b.before a.event b.event a.rest b.rest g a.cut.whole b.cut.whole same_bytes a.names b.names
    (complete rules (a.before ++ a.event ∷ []) a.state a.begins) (complete rules (b.before ++ b.event ∷ []) b.state b.begins) in
    a.place ∙ ap (λ z. 4 + length (joined z)) same ∙ sym b.place
