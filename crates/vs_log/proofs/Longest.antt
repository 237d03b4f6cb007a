-- The base and the entries are those of the longest front that is a whole log.
use Rattle.std.proofs.Common.{◌≡◌, ◌≤◌, ◌<◌, ◌+◌, ℕ, Bool, true, false, List, [], ◌∷◌, ◌++◌, length, take, Option, Some, None, Ok, Err, refl, ap, sym, subst, ◌∙◌, append_assoc, arith, length-append}
use Rattle.std.specs.Prelude.{◌⊎◌}
use Rattle.std.specs.List.{AllByRecursion}
use Rattle.std.proofs.lemmas.Bool.{cases_Bool}
use Rattle.std.proofs.lemmas.List.{append-nil, append_cancel_left}
use Rattle.vs_base.specs.declared.Why.{Why}
use Rattle.vs_gtid.specs.declared.Entry.{Entry}
use Rattle.vs_gtid.specs.Logs.{Log}
use Rattle.vs_gtid.specs.Positions.{Position}
use Rattle.vs_log.specs.States.{Place}
use Rattle.vs_log.specs.States.Place.{Between}
use Rattle.vs_log.specs.States.{State}
use Rattle.vs_binlog.specs.Heads.{Event, length_of}
use Rattle.vs_log.specs.Events.{is_held, last_place, magic, joined, IsEvent}
use Rattle.vs_log.specs.Table.{Rules, step}
use Rattle.vs_log.specs.Meaning.{front, has_magic, log_meant}
use Rattle.vs_log.specs.Productions.{BeginsLog, IsBegun, Stands, RefusesEvent, IsLog, IsWholeLog, Parts, Means}
use Rattle.vs_log.specs.Laws.{HasNoEntry, IsLongest, IsOfWholeLog}
use Rattle.vs_log.proofs.Moves.{Moves, chained, step_moves}
use Rattle.vs_log.proofs.Moves.Moves.{formatted, passed_between, passed_named, passed_inside, based, names, singles, begins, saves, maps_on, tells, ends}
use Rattle.vs_log.proofs.Shapes.{front_all, left_nil}
use Rattle.vs_log.proofs.Sound.{sound_step}
use Rattle.vs_log.proofs.Cuts.{holds, head_taken, joined-append}
use Rattle.vs_log.proofs.Follows.{means}
use Rattle.vs_log.proofs.Takes.{walk}
use Rattle.vs_log.proofs.Complete.{complete}
use Rattle.vs_log.proofs.Beginnings.{takes_beginnings}
use Rattle.vs_log.proofs.Only.{magic_there}
use Rattle.vs_log.proofs.Growth.{more_entries, whole_state, whole_begins, whole_log}

-- the longest front of the events that is a whole log
record Best {M : Type 0} (rules : Rules M) (events : List Event) (base : Position) (entries : List Entry) : Type 0 where
  some : List Event
  others : List Event
  are : events ≡ some ++ others
  known : Position
  log : IsLog rules some base entries known []
  longest : (these tail : List Event) (b k : Position) (es : List Entry) → events ≡ these ++ tail → IsLog rules these b es k [] → length (joined these) ≤ length (joined some)

abbrev NoneWhole : {M : Type 0} → Rules M → List Event → Type 0
NoneWhole rules events = (these tail : List Event) (b k : Position) (es : List Entry) → events ≡ these ++ tail → IsLog rules these b es k [] → ⊥

abbrev BestOrNone : {M : Type 0} → Rules M → List Event → Position → List Entry → Type 0
BestOrNone rules events base entries = Best rules events base entries ⊎ (NoneWhole rules events × (base ≡ []) × (entries ≡ []))

abbrev pub is_between : {M : Type 0} → Place M → Bool
is_between (Between first) = true
is_between place = false

pub closed : {M : Type 0} (rules : Rules M) (known : Position) (opened : List Event) (s : State M) (place : Place M) → is_between place ≡ true → IsBegun rules known opened s place → opened ≡ []
closed rules known opened s (Between first) h b = b.0
closed rules known opened s place h b = absurd (cc)

pub stands : {M : Type 0} (rules : Rules M) (events : List Event) (e : Event) (s : State M) → BeginsLog rules (events ++ e ∷ []) s → Stands rules (events ++ e ∷ []) s
stands rules [] e s b = b
stands rules (f ∷ events) e s b = b

-- what leaves an entry open, adds none
kept : {M : Type 0} (rules : Rules M) (s : State M) (e : Event) (place : Place M) (next : State M) → is_between next.place ≡ false → Moves rules s e place next → (s.base ≡ next.base) × (s.entries ≡ next.entries)
kept rules s e place next b (formatted is) = absurd (cc)
kept rules s e place next b (passed_between first k) = (refl, refl)
kept rules s e place next b (passed_named g bytes k) = (refl, refl)
kept rules s e place next b (passed_inside g bytes maps work k) = (refl, refl)
kept rules s e place next b (based set k r) = absurd (cc)
kept rules s e place next b (names first g is new) = (refl, refl)
kept rules s e place next b (singles g bytes statement work says one) = absurd (cc)
kept rules s e place next b (begins g bytes says) = (refl, refl)
kept rules s e place next b (saves g bytes maps work says) = (refl, refl)
kept rules s e place next b (maps_on g bytes maps work more is) = (refl, refl)
kept rules s e place next b (tells g bytes maps work counted more is t) = (refl, refl)
kept rules s e place next b (ends g bytes maps work end) = absurd (cc)

-- a front of a list with one element more is all of it, or a front of the list
front_of : (xs ys : List Event) (e : Event) (zs : List Event) → xs ++ e ∷ [] ≡ ys ++ zs → (ys ≡ xs ++ e ∷ []) ⊎ ((more : List Event) × (xs ≡ ys ++ more))
front_of xs [] e zs h = ◌⊎◌.inr (xs, refl)
front_of [] (y ∷ ys) e zs h =
    let head : y ≡ e = cc in
    let tail : ys ++ zs ≡ [] = cc in
    ◌⊎◌.inl (ap (λ z. z ∷ ys) head ∙ ap (λ z. e ∷ z) (left_nil ys zs tail))
front_of (x ∷ xs) (y ∷ ys) e zs h =
    let head : x ≡ y = cc in
    let tail : xs ++ e ∷ [] ≡ ys ++ zs = cc in
    elim (front_of xs ys e zs tail) [
      | ◌⊎◌.inl a ↦ ◌⊎◌.inl (ap (λ z. z ∷ ys) (sym head) ∙ ap (λ z. x ∷ z) a)
      | ◌⊎◌.inr m ↦ ◌⊎◌.inr (m.0, ap (λ z. z ∷ xs) head ∙ ap (λ z. y ∷ z) m.1)
    ]

-- no whole log leads to an open entry
not_open : {M : Type 0} (rules : Rules M) (events : List Event) (s : State M) (b k : Position) (es : List Entry) → BeginsLog rules events s → is_between s.place ≡ false → IsLog rules events b es k [] → ⊥
not_open rules events s b k es begun open_ l =
    let one : s ≡ whole_state events b es k = (takes_beginnings rules).once events s (whole_state events b es k) begun (whole_begins rules events b es k l) in
    let h : false ≡ true = sym open_ ∙ ap (λ z. is_between z.place) one in
    cc

joined_front : (these tail events : List Event) → events ≡ these ++ tail → length (joined these) ≤ length (joined events)
joined_front these tail events h =
    omega (arith, ap (λ z. length (joined z)) h, ap length (joined-append these tail), length-append (joined these) (joined tail))

best_more : {M : Type 0} (rules : Rules M) (events : List Event) (e : Event) (base : Position) (entries : List Entry) (next : State M) → BestOrNone rules events base entries →
    BeginsLog rules (events ++ e ∷ []) next → is_between next.place ≡ false → BestOrNone rules (events ++ e ∷ []) base entries
best_more rules events e base entries next (◌⊎◌.inl best) b h = ◌⊎◌.inl (record {
  some = best.some;
  others = best.others ++ e ∷ [];
  are = ap (λ z. z ++ e ∷ []) best.are ∙ append_assoc best.some best.others (e ∷ []);
  known = best.known;
  log = best.log;
  longest = λ these tail lb lk es are l. elim (front_of events these e tail are) [
    | ◌⊎◌.inl a ↦ absurd (not_open rules (events ++ e ∷ []) next lb lk es b h (subst (λ z. IsLog rules z lb es lk []) a l))
    | ◌⊎◌.inr m ↦ best.longest these m.0 lb lk es m.1 l
  ];
})
best_more rules events e base entries next (◌⊎◌.inr none) b h = ◌⊎◌.inr (
  λ these tail lb lk es are l. elim (front_of events these e tail are) [
    | ◌⊎◌.inl a ↦ not_open rules (events ++ e ∷ []) next lb lk es b h (subst (λ z. IsLog rules z lb es lk []) a l)
    | ◌⊎◌.inr m ↦ none.0 these m.0 lb lk es m.1 l
  ],
  none.1,
  none.2,
)

best_step : {M : Type 0} (rules : Rules M) (events : List Event) (s next : State M) (e : Event) → BestOrNone rules events s.base s.entries → BeginsLog rules events s → step rules s e ≡ Ok next →
    BestOrNone rules (events ++ e ∷ []) next.base next.entries
best_step rules events s next e best b h = elim (cases_Bool (is_between next.place)) [
  | ◌⊎◌.inl now ↦ (
      let st = stands rules events e next (sound_step rules events s next e b h) in
      ◌⊎◌.inl (record {
        some = events ++ e ∷ [];
        others = [];
        are = sym (append-nil (events ++ e ∷ []));
        known = st.known;
        log = subst (λ z. IsLog rules (events ++ e ∷ []) next.base next.entries st.known z) (closed rules st.known st.opened next next.place now st.begun) st.log;
        longest = λ these tail lb lk es are l. joined_front these tail (events ++ e ∷ []) are;
      })
      )
  | ◌⊎◌.inr not_now ↦ (
      let k = kept rules s e s.place next not_now (step_moves rules s e next h).1 in
      subst (λ z. BestOrNone rules (events ++ e ∷ []) next.base z) k.1 (subst (λ z. BestOrNone rules (events ++ e ∷ []) z s.entries) k.0
      (best_more rules events e s.base s.entries next best (sound_step rules events s next e b h) not_now))
      )
]

best_walk : {M : Type 0} (rules : Rules M) (events more : List Event) (s t : State M) → BestOrNone rules events s.base s.entries → BeginsLog rules events s → walk rules s more ≡ Ok t →
    BestOrNone rules (events ++ more) t.base t.entries
best_walk rules events [] s t best b w =
    let same : s ≡ t = cc in
    subst (λ z. BestOrNone rules z t.base t.entries) (sym (append-nil events)) (subst (λ (z : State _). BestOrNone rules events z.base z.entries) same best)
best_walk rules events (e ∷ more) s t best b w =
    let c = chained (step rules s e) (λ z. walk rules z more) t w in
    subst (λ z. BestOrNone rules z t.base t.entries) (append_assoc events (e ∷ []) more)
    (best_walk rules (events ++ e ∷ []) more c.0 t (best_step rules events s c.0 e best b c.1) (sound_step rules events s c.0 e b c.1) c.2)

none_first : {M : Type 0} (rules : Rules M) → NoneWhole rules []
none_first rules [] tail b k es h l = let g : [] ≡ l.format ∷ l.after = l.are in cc
none_first rules (x ∷ xs) tail b k es h l = cc

best_of : {M : Type 0} (rules : Rules M) (events : List Event) (s : State M) → BeginsLog rules events s → BestOrNone rules events s.base s.entries
best_of rules events s b = best_walk rules [] events front s (◌⊎◌.inr (none_first rules, refl, refl)) refl (complete rules events s b)

-- two ways to cut one list of bytes: one has the events of the other at its front
abbrev Further : List Event → List Event → List ℕ → List ℕ → Type 0
Further xs ys r q = (e : Event) × (tail : List Event) × (xs ≡ ys ++ e ∷ tail) × (q ≡ e ++ (joined tail ++ r)) × IsEvent e

alike : (e f more also : List ℕ) → IsEvent e → IsEvent f → e ++ more ≡ f ++ also → e ≡ f
alike e f more also is it h = sym (head_taken e more is) ∙ ap (λ z. take (length_of z) z) h ∙ head_taken f also it

cut_fronts : (xs ys : List Event) (r q : List ℕ) → AllByRecursion IsEvent xs → AllByRecursion IsEvent ys → joined xs ++ r ≡ joined ys ++ q →
    ((tail : List Event) × (ys ≡ xs ++ tail)) ⊎ Further xs ys r q
cut_fronts [] ys r q a b h = ◌⊎◌.inl (ys, refl)
cut_fronts (e ∷ xs) [] r q a b h = ◌⊎◌.inr (e, xs, refl, sym h ∙ append_assoc e (joined xs) r, a.0)
cut_fronts (e ∷ xs) (f ∷ ys) r q a b h =
    let g : e ++ (joined xs ++ r) ≡ f ++ (joined ys ++ q) = sym (append_assoc e (joined xs) r) ∙ h ∙ append_assoc f (joined ys) q in
    let same : e ≡ f = alike e f (joined xs ++ r) (joined ys ++ q) a.0 b.0 g in
    let rest : joined xs ++ r ≡ joined ys ++ q = append_cancel_left f (joined xs ++ r) (joined ys ++ q) (ap (λ z. z ++ (joined xs ++ r)) (sym same) ∙ g) in
    elim (cut_fronts xs ys r q a.1 b.1 rest) [
      | ◌⊎◌.inl t ↦ ◌⊎◌.inl (t.0, ap (λ z. z ∷ ys) (sym same) ∙ ap (λ z. e ∷ z) t.1)
      | ◌⊎◌.inr u ↦ ◌⊎◌.inr (u.0, u.1, ap (λ z. z ∷ xs) same ∙ ap (λ z. f ∷ z) u.2, u.3, u.4)
    ]

-- where an event is refused, no log goes on with it
not_on : {M : Type 0} (rules : Rules M) (events tail : List Event) (s t : State M) (at : ℕ) (rest more : List ℕ) (e : Event) (why : Option Why) → BeginsLog rules events s → RefusesEvent rules s at rest why →
    rest ≡ e ++ more → IsEvent e → at + length e ≤ last_place → BeginsLog rules (events ++ e ∷ tail) t → ⊥
not_on rules events tail s t at rest more e why b r are is short also = go why r where
  whole : is_held at rest ≡ true
  whole = ap (λ z. is_held at z) are ∙ holds at e more is short

  go : (why : Option Why) → RefusesEvent rules s at rest why → ⊥
  go None h = let never : true ≡ false = sym whole ∙ h.0 in cc
  go (Some w) (◌⊎◌.inr h) = let never : true ≡ false = sym whole ∙ h.0 in cc
  go (Some w) (◌⊎◌.inl x) =
      let same : x.event ≡ e = alike x.event e x.more more x.whole is (sym x.are ∙ are) in
      (takes_beginnings rules).refuses events tail s t e w b (subst (λ z. step rules s z ≡ Err w) same x.refused) also

-- the events of a whole log at the front are events of the log
front_events : {M : Type 0} (rules : Rules M) (bytes first more : List ℕ) (b : Position) (es : List Entry) (log : Log) (p : Parts rules bytes log) → bytes ≡ first ++ more → (w : IsWholeLog rules first b es) →
    (tail : List Event) × (p.events ≡ w.events ++ tail)
front_events rules bytes first more b es log p are w = elim (cut_fronts w.events p.events more p.rest w.cut.whole p.cut.whole same) [
  | ◌⊎◌.inl t ↦ t
  | ◌⊎◌.inr u ↦ absurd (not_on rules p.events u.1 p.state (whole_state w.events b es w.known) (4 + length (joined p.events)) p.rest (joined u.1 ++ more) u.0 p.why p.begins p.refused u.3 u.4
      (short u.0 u.1 u.2) (subst (λ z. BeginsLog rules z (whole_state w.events b es w.known)) u.2 (whole_begins rules w.events b es w.known w.log)))
]
  where
    same : joined w.events ++ more ≡ joined p.events ++ p.rest
    same = append_cancel_left magic (joined w.events ++ more) (joined p.events ++ p.rest)
        (ap (λ z. (magic ++ z) ++ more) (sym (append-nil (joined w.events))) ∙ ap (λ z. z ++ more) (sym w.cut.are) ∙ sym are ∙ p.cut.are)

    short : (e : Event) (tail : List Event) → w.events ≡ p.events ++ e ∷ tail → (4 + length (joined p.events)) + length e ≤ last_place
    short e tail h = omega (
      arith,
      w.cut.short,
      ap (λ z. length (joined z)) h,
      ap length (joined-append p.events (e ∷ tail)),
      length-append (joined p.events) (e ++ joined tail),
      length-append e (joined tail),
    )

whole_length : {M : Type 0} (rules : Rules M) (first : List ℕ) (b : Position) (es : List Entry) (w : IsWholeLog rules first b es) → length first ≡ 4 + length (joined w.events)
whole_length rules first b es w = omega (arith, ap length w.cut.are, ap length (append-nil (joined w.events)))

abbrev LongestOrNone : {M : Type 0} → Rules M → List ℕ → Position → List Entry → Type 0
LongestOrNone rules bytes base entries = IsLongest rules bytes base entries ⊎ (HasNoEntry rules bytes × (base ≡ []) × (entries ≡ []))

longest_parts : {M : Type 0} (rules : Rules M) (bytes : List ℕ) (log : Log) (p : Parts rules bytes log) (base : Position) (entries : List Entry) → Best rules p.events base entries → IsLongest rules bytes base entries
longest_parts rules bytes log p base entries best = record {
  prefix = magic ++ joined best.some;
  rest = joined best.others ++ p.rest;
  are = p.cut.are ∙ ap (λ z. magic ++ z) (
      ap (λ z. joined z ++ p.rest) best.are ∙ ap (λ z. z ++ p.rest) (joined-append best.some best.others) ∙ append_assoc (joined best.some) (joined best.others) p.rest
      );
  whole = record {
    events = best.some;
    cut = record {
      are = ap (λ z. magic ++ z) (sym (append-nil (joined best.some)));
      whole = front_all IsEvent best.some best.others (subst (λ z. AllByRecursion IsEvent z) best.are p.cut.whole);
      short = omega (arith, p.cut.short, joined_front best.some best.others p.events best.are);
    };
    known = best.known;
    log = best.log;
  };
  longest = λ first more b es are w.
      let t = front_events rules bytes first more b es log p are w in
      omega (arith, whole_length rules first b es w, best.longest w.events t.0 b w.known es t.1 w.log);
}

of_parts : {M : Type 0} (rules : Rules M) (bytes : List ℕ) (log : Log) (p : Parts rules bytes log) → LongestOrNone rules bytes p.state.base p.state.entries
of_parts rules bytes log p = elim (best_of rules p.events p.state p.begins) [
  | ◌⊎◌.inl best ↦ ◌⊎◌.inl (longest_parts rules bytes log p p.state.base p.state.entries best)
  | ◌⊎◌.inr none ↦ ◌⊎◌.inr (
    λ first more b es are w. let t = front_events rules bytes first more b es log p are w in none.0 w.events t.0 b w.known es t.1 w.log,
    none.1,
    none.2,
  )
]

no_log : {M : Type 0} (rules : Rules M) (bytes first more : List ℕ) (b : Position) (es : List Entry) → has_magic bytes ≡ false → bytes ≡ first ++ more → IsWholeLog rules first b es → ⊥
no_log rules bytes first more b es h are w =
    let begins_so : bytes ≡ magic ++ ((joined w.events ++ []) ++ more) = are ∙ ap (λ z. z ++ more) w.cut.are in
    let never : true ≡ false = sym (ap (λ z. has_magic z) begins_so ∙ magic_there ((joined w.events ++ []) ++ more)) ∙ h in
    cc

too_short : {M : Type 0} (rules : Rules M) (bytes first more : List ℕ) (b : Position) (es : List Entry) → length bytes < 4 → bytes ≡ first ++ more → IsWholeLog rules first b es → ⊥
too_short rules bytes first more b es h are w = let l : 4 ≤ length bytes = omega (arith, ap length are, length-append first more, whole_length rules first b es w) in omega arith

of_means : {M : Type 0} (rules : Rules M) (bytes : List ℕ) (log : Log) → Means rules bytes log → LongestOrNone rules bytes log.base log.entries
of_means rules bytes log (◌⊎◌.inl p) = subst (λ (z : Log). LongestOrNone rules bytes z.base z.entries) (sym p.is) (of_parts rules bytes log p)
of_means rules bytes log (◌⊎◌.inr (◌⊎◌.inl short)) =
    ◌⊎◌.inr (λ first more b es are w. too_short rules bytes first more b es short.0 are w, ap (λ (z : Log). z.base) short.2, ap (λ (z : Log). z.entries) short.2)
of_means rules bytes log (◌⊎◌.inr (◌⊎◌.inr none)) =
    ◌⊎◌.inr (λ first more b es are w. no_log rules bytes first more b es none.0 are w, ap (λ (z : Log). z.base) none.1, ap (λ (z : Log). z.entries) none.1)

comes_first : {M : Type 0} (rules : Rules M) (bytes first rest : List ℕ) (base : Position) (es : List Entry) → bytes ≡ first ++ rest → IsWholeLog rules first base es →
    (later : List Entry) × ((log_meant rules bytes).entries ≡ es ++ later)
comes_first rules bytes first rest base es are w =
    let m = more_entries rules first rest in
    (m.0, ap (λ z. (log_meant rules z).entries) are ∙ m.1 ∙ ap (λ (z : Log). z.entries ++ m.0) (whole_log rules first base es w))

pub of_whole_log : {M : Type 0} (rules : Rules M) (bytes : List ℕ) → IsOfWholeLog rules bytes
of_whole_log rules bytes = record { some = of_means rules bytes (log_meant rules bytes) (means rules bytes); fronts = comes_first rules bytes }
