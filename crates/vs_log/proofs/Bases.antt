-- When the base of a log is known, by the beginning of a log that its bytes are.
use Rattle.std.proofs.Common.{◌≡◌, ◌≤◌, ◌<◌, ◌+◌, ℕ, zero, suc, Bool, true, false, List, [], ◌∷◌, ◌++◌, length, take, drop, if◌then◌else◌, Option, Some, None, Result, Ok, Err, refl, ap, sym, subst, ◌∙◌, arith, length-drop}
use Rattle.std.specs.Prelude.{◌⊎◌}
use Rattle.std.specs.List.{filter}
use Rattle.std.proofs.lemmas.Bool.Decides.{nat_tests}
use Rattle.vs_base.specs.declared.Why.{Why}
use Rattle.vs_gtid.specs.Logs.{Log}
use Rattle.vs_gtid.specs.Positions.{Position}
use Rattle.vs_log.specs.States.{Place}
use Rattle.vs_log.specs.States.Place.{Front, Between, Named, Inside}
use Rattle.vs_log.specs.States.{State}
use Rattle.vs_binlog.specs.Heads.{Event, length_of}
use Rattle.vs_log.specs.Events.{is_held, magic, joined}
use Rattle.vs_log.specs.Table.{Rules, step}
use Rattle.vs_log.specs.Meaning.{at_place, front, head_refusal, log_of, follow, follow_with, has_magic, is_base_known, knows_base, log_meant, tell_base}
use Rattle.vs_log.specs.Productions.{is_counted, is_first, is_nil, in_turn, BeginsLog, IsBase, IsBegun, IsCut, Means, Parts, RefusesEvent, Stands}
use Rattle.vs_log.specs.Laws.{KnowsItsBase}
use Rattle.vs_log.proofs.Moves.{Moves, step_moves}
use Rattle.vs_log.proofs.Moves.Moves.{formatted, passed_between, passed_named, passed_inside, based, names, singles, begins, saves, maps_on, tells, ends}
use Rattle.vs_log.proofs.Only.{follow_stops, follow_walk, log_behind, magic_there}
use Rattle.vs_log.proofs.Complete.{complete}
use Rattle.vs_log.proofs.Follows.{means}
use Rattle.vs_log.proofs.Shapes.{left_nil, nil_from, no_entries, right_nil}
use Rattle.vs_log.proofs.Faults.{grows, refusal_stays}
use Rattle.vs_log.proofs.Growth.{cut_longer}

base_from : {M : Type 0} (rules : Rules M) (bytes : List ℕ) (right : Bool) → has_magic bytes ≡ right →
    knows_base rules bytes ≡ (if right then follow_with tell_base (suc (length bytes)) rules 4 front (drop 4 bytes) else false)
unfolding knows_base
base_from rules bytes right h = ap (λ b. if b then follow_with tell_base (suc (length bytes)) rules 4 front (drop 4 bytes) else false) h

-- whether the base is known, behind events that begin the log
base_behind : {M : Type 0} (rules : Rules M) (bytes : List ℕ) (events : List Event) (rest : List ℕ) (s : State M) → IsCut bytes events rest → BeginsLog rules events s →
    (m : ℕ) × (length rest < m) × (knows_base rules bytes ≡ follow_with tell_base m rules (4 + length (joined events)) s rest)
base_behind rules bytes events rest s c b =
    let n = suc (length (magic ++ (joined events ++ rest))) in
    let k = follow_walk tell_base n rules 4 front s events rest c.whole c.short (complete rules events s b) (omega arith) in
    (k.0, k.1, ap (λ z. knows_base rules z) c.are ∙ base_from rules (magic ++ (joined events ++ rest)) true (magic_there (joined events ++ rest)) ∙ k.2)

by_parts : {M : Type 0} (rules : Rules M) (bytes : List ℕ) (events : List Event) (s : State M) (rest : List ℕ) (why : Option Why) → IsCut bytes events rest → BeginsLog rules events s →
    RefusesEvent rules s (4 + length (joined events)) rest why → knows_base rules bytes ≡ is_base_known s.place why
by_parts rules bytes events s rest why c b r =
    let k = base_behind rules bytes events rest s c b in
    k.2 ∙ follow_stops tell_base k.0 rules (4 + length (joined events)) s rest why k.1 r

known_more : {M : Type 0} (place : Place M) (why : Option Why) → is_base_known place None ≡ true → is_base_known place why ≡ true
known_more Front why h = absurd (cc)
known_more (Between true) why h = absurd (cc)
known_more (Between false) why h = refl
known_more (Named g bytes) why h = refl
known_more (Inside g bytes maps work) why h = refl

-- a base that is known stays known, and stays
abbrev Keeps : {M : Type 0} → State M → State M → Type 0
Keeps s next = (is_base_known next.place None ≡ true) × (next.base ≡ s.base)

moves_keep : {M : Type 0} (rules : Rules M) (s : State M) (e : Event) (place : Place M) (next : State M) → is_base_known s.place None ≡ true → is_base_known place None ≡ true → Moves rules s e place next → Keeps s next
moves_keep rules s e place next h k (formatted is) = absurd (cc)
moves_keep rules s e place next h k (passed_between first p) = (h, refl)
moves_keep rules s e place next h k (passed_named g bytes p) = (h, refl)
moves_keep rules s e place next h k (passed_inside g bytes maps work p) = (h, refl)
moves_keep rules s e place next h k (based set p r) = absurd (cc)
moves_keep rules s e place next h k (names first g is new) = (refl, refl)
moves_keep rules s e place next h k (singles g bytes statement work says one) = (refl, refl)
moves_keep rules s e place next h k (begins g bytes says) = (refl, refl)
moves_keep rules s e place next h k (saves g bytes maps work says) = (refl, refl)
moves_keep rules s e place next h k (maps_on g bytes maps work more is) = (refl, refl)
moves_keep rules s e place next h k (tells g bytes maps work counted more is t) = (refl, refl)
moves_keep rules s e place next h k (ends g bytes maps work end) = (refl, refl)

pub step_keeps : {M : Type 0} (rules : Rules M) (s : State M) (e : Event) (next : State M) → is_base_known s.place None ≡ true → step rules s e ≡ Ok next → Keeps s next
step_keeps rules s e next h t = moves_keep rules s e s.place next h h (step_moves rules s e next t).1

-- what the reading comes to from there
abbrev Knows : {M : Type 0} → State M → ℕ → Rules M → ℕ → List ℕ → Type 0
Knows s n rules at rest = (follow_with tell_base n rules at s rest ≡ true) × ((follow n rules at s rest).base ≡ s.base)

follow_knows : {M : Type 0} (n : ℕ) (rules : Rules M) (at : ℕ) (s : State M) (rest : List ℕ) → is_base_known s.place None ≡ true → Knows s n rules at rest
unfolding follow_with
follow_knows zero rules at s rest h = (h, refl)
follow_knows (suc n) rules at s rest h =
    turn (is_held at rest) (step rules s (take (length_of rest) rest)) refl (λ next k. follow_knows n rules (at + length_of rest) next (drop (length_of rest) rest) k)
  where
    turn : (whole : Bool) (r : Result (State _) Why) → step rules s (take (length_of rest) rest) ≡ r →
        ((next : State _) → is_base_known next.place None ≡ true → Knows next n rules (at + length_of rest) (drop (length_of rest) rest)) →
        (
        (
        if whole
        then (elim r [ Ok next ↦ follow_with tell_base n rules (at + length_of rest) next (drop (length_of rest) rest) | Err why ↦ tell_base s at (Some why) ])
        else tell_base s at (head_refusal at s.place rest)
        )
        ≡ true
        )
        × ((
        if whole
        then (elim r [ Ok next ↦ follow n rules (at + length_of rest) next (drop (length_of rest) rest) | Err why ↦ log_of s at (Some why) ])
        else log_of s at (head_refusal at s.place rest)
        ).base
        ≡ s.base)
    turn false r t k = (known_more s.place (head_refusal at s.place rest) h, refl)
    turn true (Err why) t k = (known_more s.place (Some why) h, refl)
    turn true (Ok next) t k =
        let keeps = step_keeps rules s (take (length_of rest) rest) next h t in
        let more = k next keeps.0 in
        (more.0, more.1 ∙ keeps.1)

behind : {M : Type 0} (rules : Rules M) (bytes : List ℕ) (events : List Event) (s : State M) (rest : List ℕ) → IsCut bytes events rest → BeginsLog rules events s → is_base_known s.place None ≡ true →
    (knows_base rules bytes ≡ true) × ((log_meant rules bytes).base ≡ s.base)
behind rules bytes events s rest c b h =
    let k = base_behind rules bytes events rest s c b in
    let l = log_behind rules bytes events rest s c b in (
      k.2 ∙ (follow_knows k.0 rules (4 + length (joined events)) s rest h).0,
      ap (λ (z : Log). z.base) l.2 ∙ (follow_knows l.0 rules (4 + length (joined events)) s rest h).1,
    )

follow-short : {M : Type 0} (rules : Rules M) (n : ℕ) (rest : List ℕ) → length rest < 19 → follow_with tell_base (suc n) rules 4 front rest ≡ false
unfolding follow_with is_held head_refusal
follow-short rules n rest short = grind (arith, nat_tests)

short : {M : Type 0} (rules : Rules M) (bytes : List ℕ) → has_magic bytes ≡ true → length bytes < 4 → knows_base rules bytes ≡ false
short rules bytes h l = base_from rules bytes true h ∙ follow-short rules (length bytes) (drop 4 bytes) (omega (arith, length-drop 4 bytes))

-- where the base isn't known, a PREVIOUS_GTIDS event may follow
may_follow : {M : Type 0} (rules : Rules M) (known : Position) (opened : List Event) (s : State M) (place : Place M) (why : Option Why) → IsBegun rules known opened s place → is_base_known place why ≡ false → is_first place ≡ true
may_follow rules known opened s Front why b h = elim b [ ]
may_follow rules known opened s (Between true) why b h = refl
may_follow rules known opened s (Between false) why b h = absurd (cc)
may_follow rules known opened s (Named g bytes) why b h = absurd (cc)
may_follow rules known opened s (Inside g bytes maps work) why b h = absurd (cc)

-- and then none stood before
no_base : {M : Type 0} (rules : Rules M) (events : List Event) (s : State M) → Stands rules events s → is_first s.place ≡ true → s.base ≡ []
no_base rules events s st h =
    let l = st.log in
    let none : filter is_counted l.after ≡ [] = nil_from (filter is_counted l.after) (sym (ap (λ z. is_nil (filter is_counted (drop 1 z))) l.are) ∙ sym st.first ∙ h) in
    let no_previous : l.previous ≡ [] = left_nil l.previous (in_turn l.groups ++ st.opened) (sym l.parts ∙ none) in
    subst (λ z. IsBase rules z s.base) no_previous l.is_base

begun_base : {M : Type 0} (rules : Rules M) (events : List Event) (s : State M) (why : Option Why) → BeginsLog rules events s → is_base_known s.place why ≡ false → s.base ≡ []
begun_base rules [] s why b h = ap (λ (z : State _). z.base) b
begun_base rules (e ∷ events) s why b h = no_base rules (e ∷ events) s b (may_follow rules b.known b.opened s s.place why b.begun h)

unknown : {M : Type 0} (rules : Rules M) (bytes : List ℕ) → knows_base rules bytes ≡ false → (log_meant rules bytes).base ≡ []
unknown rules bytes h = go (means rules bytes) where
  go : Means rules bytes (log_meant rules bytes) → (log_meant rules bytes).base ≡ []
  go (◌⊎◌.inl p) =
      let stays : is_base_known p.state.place p.why ≡ false = sym (by_parts rules bytes p.events p.state p.rest p.why p.cut p.begins p.refused) ∙ h in
      ap (λ (z : Log). z.base) p.is ∙ begun_base rules p.events p.state p.why p.begins stays
  go (◌⊎◌.inr (◌⊎◌.inl small)) = ap (λ (z : Log). z.base) small.2
  go (◌⊎◌.inr (◌⊎◌.inr none)) = ap (λ (z : Log). z.base) none.1

-- where an event is taken behind which the base isn't known, the sets stay
abbrev Leaves : {M : Type 0} → State M → State M → Type 0
Leaves s next = (next.base ≡ s.base) × (next.known ≡ s.known)

moves_leave : {M : Type 0} (rules : Rules M) (s : State M) (e : Event) (place : Place M) (next : State M) → is_base_known next.place None ≡ false → Moves rules s e place next → Leaves s next
moves_leave rules s e place next h (formatted is) = (refl, refl)
moves_leave rules s e place next h (passed_between first p) = (refl, refl)
moves_leave rules s e place next h (passed_named g bytes p) = (refl, refl)
moves_leave rules s e place next h (passed_inside g bytes maps work p) = (refl, refl)
moves_leave rules s e place next h (based set p r) = absurd (cc)
moves_leave rules s e place next h (names first g is new) = absurd (cc)
moves_leave rules s e place next h (singles g bytes statement work says one) = absurd (cc)
moves_leave rules s e place next h (begins g bytes says) = (refl, refl)
moves_leave rules s e place next h (saves g bytes maps work says) = (refl, refl)
moves_leave rules s e place next h (maps_on g bytes maps work more is) = (refl, refl)
moves_leave rules s e place next h (tells g bytes maps work counted more is t) = (refl, refl)
moves_leave rules s e place next h (ends g bytes maps work end) = absurd (cc)

pub step_leaves : {M : Type 0} (rules : Rules M) (s : State M) (e : Event) (next : State M) → step rules s e ≡ Ok next → is_base_known next.place None ≡ false → Leaves s next
step_leaves rules s e next t h = moves_leave rules s e s.place next h (step_moves rules s e next t).1

-- ---- a base that is known stays

abbrev Stays : {M : Type 0} → Rules M → List ℕ → List ℕ → Type 0
Stays rules bytes more = (knows_base rules (bytes ++ more) ≡ true) × ((log_meant rules (bytes ++ more)).base ≡ (log_meant rules bytes).base)

stays_behind : {M : Type 0} (rules : Rules M) (bytes more : List ℕ) (p : Parts rules bytes (log_meant rules bytes)) → is_base_known p.state.place None ≡ true → Stays rules bytes more
stays_behind rules bytes more p h =
    let later = behind rules (bytes ++ more) p.events p.state (p.rest ++ more) (cut_longer bytes more p.events p.rest p.cut) p.begins h in
    (later.0, later.1 ∙ sym (behind rules bytes p.events p.state p.rest p.cut p.begins h).1)

stays_at_fault : {M : Type 0} (rules : Rules M) (bytes more : List ℕ) (p : Parts rules bytes (log_meant rules bytes)) (why : Option Why) → p.why ≡ why →
    is_base_known p.state.place None ≡ false → is_base_known p.state.place why ≡ true → Stays rules bytes more
stays_at_fault rules bytes more p None is h k = let no : true ≡ false = sym k ∙ h in absurd (cc)
stays_at_fault rules bytes more p (Some why) is h k =
    let at = 4 + length (joined p.events) in
    let refused = refusal_stays rules p.state at p.rest more why (subst (λ z. RefusesEvent rules p.state at p.rest z) is p.refused) in
    let fault : (log_meant rules bytes).fault ≡ Some (at, why) = ap (λ (z : Log). z.fault) p.is ∙ ap (λ z. at_place at z) is in (
      by_parts rules (bytes ++ more) p.events p.state (p.rest ++ more) (Some why) (cut_longer bytes more p.events p.rest p.cut) p.begins refused ∙ k,
      ap (λ (z : Log). z.base) ((grows rules bytes more).faulty (at, why) fault),
    )

stays : {M : Type 0} (rules : Rules M) (bytes more : List ℕ) → knows_base rules bytes ≡ true → Stays rules bytes more
stays rules bytes more known = go (means rules bytes) where
  by_place : (p : Parts rules bytes (log_meant rules bytes)) (b : Bool) → is_base_known p.state.place None ≡ b → Stays rules bytes more
  by_place p true h = stays_behind rules bytes more p h
  by_place p false h = stays_at_fault rules bytes more p p.why refl h (sym (by_parts rules bytes p.events p.state p.rest p.why p.cut p.begins p.refused) ∙ known)

  by_magic : (b : Bool) → has_magic bytes ≡ b → length bytes < 4 → Stays rules bytes more
  by_magic true h l = let no : true ≡ false = sym known ∙ short rules bytes h l in absurd (cc)
  by_magic false h l = let no : true ≡ false = sym known ∙ base_from rules bytes false h in absurd (cc)

  go : Means rules bytes (log_meant rules bytes) → Stays rules bytes more
  go (◌⊎◌.inl p) = by_place p (is_base_known p.state.place None) refl
  go (◌⊎◌.inr (◌⊎◌.inl small)) = by_magic (has_magic bytes) refl small.0
  go (◌⊎◌.inr (◌⊎◌.inr none)) = let no : true ≡ false = sym known ∙ base_from rules bytes false none.0 in absurd (cc)

-- ---- where there is an entry, the base is known

nothing_entered : {M : Type 0} (rules : Rules M) (events : List Event) (s : State M) → Stands rules events s → is_first s.place ≡ true → s.entries ≡ []
nothing_entered rules events s st h =
    let l = st.log in
    let none : filter is_counted l.after ≡ [] = nil_from (filter is_counted l.after) (sym (ap (λ z. is_nil (filter is_counted (drop 1 z))) l.are) ∙ sym st.first ∙ h) in
    let behind_base : in_turn l.groups ++ st.opened ≡ [] = right_nil l.previous (in_turn l.groups ++ st.opened) (sym l.parts ∙ none) in
    no_entries rules s.base st.known l.groups s.entries l.are_entries (left_nil (in_turn l.groups) st.opened behind_base)

begun_entries : {M : Type 0} (rules : Rules M) (events : List Event) (s : State M) (why : Option Why) → BeginsLog rules events s → is_base_known s.place why ≡ false → s.entries ≡ []
begun_entries rules [] s why b h = ap (λ (z : State _). z.entries) b
begun_entries rules (e ∷ events) s why b h = nothing_entered rules (e ∷ events) s b (may_follow rules b.known b.opened s s.place why b.begun h)

entered : {M : Type 0} (rules : Rules M) (bytes : List ℕ) → 1 ≤ length (log_meant rules bytes).entries → knows_base rules bytes ≡ true
entered rules bytes some = go (means rules bytes) where
  none_there : (log_meant rules bytes).entries ≡ [] → knows_base rules bytes ≡ true
  none_there is = absurd (omega (arith, some, ap (λ es. length es) is))

  by_base : (p : Parts rules bytes (log_meant rules bytes)) (b : Bool) → is_base_known p.state.place p.why ≡ b → knows_base rules bytes ≡ true
  by_base p true h = by_parts rules bytes p.events p.state p.rest p.why p.cut p.begins p.refused ∙ h
  by_base p false h = none_there (ap (λ (z : Log). z.entries) p.is ∙ begun_entries rules p.events p.state p.why p.begins h)

  go : Means rules bytes (log_meant rules bytes) → knows_base rules bytes ≡ true
  go (◌⊎◌.inl p) = by_base p (is_base_known p.state.place p.why) refl
  go (◌⊎◌.inr (◌⊎◌.inl small)) = none_there (ap (λ (z : Log). z.entries) small.2)
  go (◌⊎◌.inr (◌⊎◌.inr none)) = none_there (ap (λ (z : Log). z.entries) none.1)

pub knows_its_base : {M : Type 0} (rules : Rules M) (bytes : List ℕ) → KnowsItsBase rules bytes
knows_its_base rules bytes = record {
  parts = by_parts rules bytes;
  behind = behind rules bytes;
  short = short rules bytes;
  none = base_from rules bytes false;
  unknown = unknown rules bytes;
  stays = stays rules bytes;
  entries = entered rules bytes;
}
