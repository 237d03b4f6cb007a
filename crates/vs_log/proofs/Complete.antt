-- What begins a log by the productions, the table takes.
use Rattle.std.proofs.Common.{◌≡◌, ◌≤◌, ◌+◌, ℕ, Bool, true, false, List, [], ◌∷◌, ◌++◌, map, drop, if◌then◌else◌, Option, Some, None, Result, Ok, refl, ap, sym, subst, ◌∙◌, append_assoc, arith}
use Rattle.std.specs.Prelude.{◌⊎◌}
use Rattle.std.specs.List.{filter, AllByRecursion}
use Rattle.std.proofs.lemmas.List.{append-nil}
use Rattle.vs_base.specs.declared.Gtid.{Gtid}
use Rattle.vs_base.specs.declared.Why.{Why}
use Rattle.vs_base.specs.declared.Change.{Change}
use Rattle.vs_gtid.specs.declared.Work.{Work}
use Rattle.vs_gtid.specs.declared.Work.TheVariants.{Rows, Ddl, Other, Journal}
use Rattle.vs_gtid.specs.declared.Entry.{Entry}
use Rattle.vs_gtid.specs.Positions.{Position}
use Rattle.vs_gtid.specs.Joins.{added}
use Rattle.vs_log.specs.States.{Counted}
use Rattle.vs_log.specs.States.Counted.{Changed}
use Rattle.vs_log.specs.States.{Place}
use Rattle.vs_log.specs.States.Place.{Front, Between, Named, Inside}
use Rattle.vs_log.specs.States.{State}
use Rattle.vs_binlog.specs.Heads.{Event, length_of}
use Rattle.vs_log.specs.Events.{limit}
use Rattle.vs_log.specs.Table.{Rules, one_more, more_work, step}
use Rattle.vs_log.specs.Meaning.{front}
use Rattle.vs_log.specs.Productions.{is_counted, total, in_turn, is_nil, is_first, IsBase, IsMiddle, IsWork, IsGtid, IsUnended, IsSingle, IsTransaction, IsEntry, IsNew, AreEntries, IsBegun, Stands, BeginsLog}
use Rattle.vs_log.proofs.Moves.Moves.{formatted, based, names, singles, begins, saves, maps_on, tells, ends}
use Rattle.vs_log.proofs.Shapes.{total-append, no_entry, front_all}
use Rattle.vs_log.proofs.Takes.{walk, walk_one, walk-append, takes_counted, filter_walk}

abbrev standing : {M : Type 0} → Position → List Entry → Position → Place M → State M
standing base entries known place = record { base = base; entries = entries; known = known; place = place }

-- the work of things that count one behind the other
work_parts : (work : Work) (told more : List Counted) (next : Work) → more_work work (told ++ more) ≡ Some next → (mid : Work) × (more_work work told ≡ Some mid) × (more_work mid more ≡ Some next)
work_parts work [] more next h = (work, refl, h)
work_parts work (c ∷ told) more next h = go (one_more work c) refl h (λ w. work_parts w told more next) where
  go : (r : Option Work) → one_more work c ≡ r → (elim r [ None ↦ None | Some x ↦ more_work x (told ++ more) ]) ≡ Some next →
      ((w : Work) → more_work w (told ++ more) ≡ Some next → (mid : Work) × (more_work w told ≡ Some mid) × (more_work mid more ≡ Some next)) →
      (mid : Work) × (more_work work (c ∷ told) ≡ Some mid) × (more_work mid more ≡ Some next)
  go None e g k = absurd (cc)
  go (Some x) e g k =
      let m = k x g in
      (m.0, ap (λ r. elim r [ None ↦ None | Some y ↦ more_work y told ]) e ∙ m.1, m.2)

pub rows_work : (before changes : List Change) → more_work (Rows before) (map Changed changes) ≡ Some (Rows (before ++ changes))
rows_work before [] = ap (λ z. Some (Rows z)) (sym (append-nil before))
rows_work before (c ∷ changes) = rows_work (before ++ c ∷ []) changes ∙ ap (λ z. Some (Rows z)) (append_assoc before (c ∷ []) changes)

comes_work : (counted : List Counted) (work : Work) → IsWork counted work → more_work (Rows []) counted ≡ Some work
comes_work counted (Rows changes) w = ap (λ z. more_work (Rows []) z) w ∙ rows_work [] changes
comes_work counted (Journal j) w = ap (λ z. more_work (Rows []) z) w
comes_work counted (Ddl text) w = elim w [ ]
comes_work counted Other w = elim w [ ]

walk_middle : {M : Type 0} (rules : Rules M) (base known : Position) (entries : List Entry) (g : Gtid) (bytes : ℕ) (before maps : M) (middle : List Event) (counted : List Counted) (work next : Work) →
    IsMiddle rules before middle counted maps → more_work work counted ≡ Some next → bytes + total middle ≤ limit →
    walk rules (standing base entries known (Inside g bytes before work)) middle ≡ Ok (standing base entries known (Inside g (bytes + total middle) maps next))
walk_middle rules base known entries g bytes before maps [] counted work next m w fits =
    let n : bytes ≡ bytes + 0 = omega arith in
    let same : work ≡ next = (let h : more_work work [] ≡ Some next = ap (λ z. more_work work z) (sym m.0) ∙ w in cc) in
    ap (λ b. Ok (standing base entries known (Inside g b before work))) n
    ∙ ap (λ z. Ok (standing base entries known (Inside g (bytes + 0) z work))) m.1
    ∙ ap (λ z. Ok (standing base entries known (Inside g (bytes + 0) maps z))) same
walk_middle rules base known entries g bytes before maps (e ∷ middle) counted work next m w fits =
    let s = standing base entries known (Inside g bytes before work) in
    let sum : (bytes + length_of e) + total middle ≡ bytes + (length_of e + total middle) = omega arith in
    let fits_e : bytes + length_of e ≤ limit = omega arith in
    let fits_rest : (bytes + length_of e) + total middle ≤ limit = omega arith in
    let last : ◌≡◌ {A = Result (State _) Why} (Ok (standing base entries known (Inside g ((bytes + length_of e) + total middle) maps next))) (Ok (standing base entries known (Inside g (bytes + (length_of e + total middle)) maps next)))
    = ap (λ z. Ok (standing base entries known (Inside g z maps next))) sum in
    elim m [
      | ◌⊎◌.inl a ↦
          walk_one rules s _ e middle (takes_counted rules s e _ fits_e (maps_on g bytes before work a.0 a.1))
          ∙ walk_middle rules base known entries g (bytes + length_of e) a.0 maps middle counted work next a.2 w fits_rest ∙ last
      | ◌⊎◌.inr b ↦ elim b [
        | ◌⊎◌.inl t ↦ (
            let p = work_parts work t.0 t.1 next (ap (λ z. more_work work z) (sym t.3) ∙ w) in
            walk_one rules s _ e middle (takes_counted rules s e _ fits_e (tells g bytes before work t.0 p.0 t.2 p.1))
            ∙ walk_middle rules base known entries g (bytes + length_of e) before maps middle t.1 p.0 next t.4 p.2 fits_rest ∙ last
            )
        | ◌⊎◌.inr q ↦
            walk_one rules s _ e middle (takes_counted rules s e _ fits_e (saves g bytes before work q.0))
            ∙ walk_middle rules base known entries g (bytes + length_of e) before maps middle counted work next q.1 w fits_rest ∙ last
      ]
    ]

step_named : {M : Type 0} (rules : Rules M) (base known : Position) (entries : List Entry) (first : Bool) (e : Event) (g : Gtid) → IsGtid e g → IsNew known g → length_of e ≤ limit →
    step rules (standing base entries known (Between first)) e ≡ Ok (standing base entries (added known g) (Named g (length_of e)))
step_named rules base known entries first e g is new fits = takes_counted rules (standing base entries known (Between first)) e _ (omega arith) (names first g is new)

walk_unended : {M : Type 0} (rules : Rules M) (base known : Position) (entries : List Entry) (first : Bool) (opened : List Event) (g : Gtid) (maps : M) (work : Work) →
    IsUnended rules opened g maps work → IsNew known g → total opened ≤ limit →
    walk rules (standing base entries known (Between first)) opened ≡ Ok (standing base entries (added known g) (Inside g (total opened) maps work))
walk_unended rules base known entries first opened g maps work u new fits =
    let lengths : total opened ≡ length_of u.gtid + (length_of u.begin + total u.middle) = ap total u.are in
    let s = standing base entries known (Between first) in
    let t = standing base entries (added known g) (Named g (length_of u.gtid)) in
    let fits_gtid : length_of u.gtid ≤ limit = omega arith in
    let fits_begin : length_of u.gtid + length_of u.begin ≤ limit = omega arith in
    let fits_middle : (length_of u.gtid + length_of u.begin) + total u.middle ≤ limit = omega arith in
    let sum : (length_of u.gtid + length_of u.begin) + total u.middle ≡ total opened = omega arith in
    ap (λ z. walk rules s z) u.are
    ∙ walk_one rules s t u.gtid (u.begin ∷ u.middle) (step_named rules base known entries first u.gtid g u.names new fits_gtid)
    ∙ walk_one rules t _ u.begin u.middle (takes_counted rules t u.begin _ fits_begin (begins g (length_of u.gtid) u.begins))
    ∙ walk_middle rules base (added known g) entries g (length_of u.gtid + length_of u.begin) rules.no_tables maps u.middle u.counted (Rows []) work u.tells (comes_work u.counted work u.comes) fits_middle
    ∙ ap (λ z. Ok (standing base entries (added known g) (Inside g z maps work))) sum

walk_single : {M : Type 0} (rules : Rules M) (base known : Position) (entries : List Entry) (first : Bool) (group : List Event) (x : Entry) → IsSingle rules group x → IsNew known x.gtid → total group ≤ limit →
    walk rules (standing base entries known (Between first)) group ≡ Ok (standing base (entries ++ x ∷ []) (added known x.gtid) (Between false))
walk_single rules base known entries first group x is new fits =
    let lengths : total group ≡ length_of is.gtid + (length_of is.query + 0) = ap total is.are in
    let s = standing base entries known (Between first) in
    let t = standing base entries (added known x.gtid) (Named x.gtid (length_of is.gtid)) in
    let fits_gtid : length_of is.gtid ≤ limit = omega arith in
    let fits_query : length_of is.gtid + length_of is.query ≤ limit = omega arith in
    ap (λ z. walk rules s z) is.are
    ∙ walk_one rules s t is.gtid (is.query ∷ []) (step_named rules base known entries first is.gtid x.gtid is.names new fits_gtid)
    ∙ walk_one rules t _ is.query [] (takes_counted rules t is.query _ fits_query (singles x.gtid (length_of is.gtid) is.statement x.work is.says is.work))
    ∙ ap (λ z. Ok (standing base (entries ++ record { gtid = x.gtid; time = z; work = x.work } ∷ []) (added known x.gtid) (Between false))) (sym is.time)

walk_transaction : {M : Type 0} (rules : Rules M) (base known : Position) (entries : List Entry) (first : Bool) (group : List Event) (x : Entry) → IsTransaction rules group x → IsNew known x.gtid → total group ≤ limit →
    walk rules (standing base entries known (Between first)) group ≡ Ok (standing base (entries ++ x ∷ []) (added known x.gtid) (Between false))
walk_transaction rules base known entries first group x is new fits =
    let lengths : total group ≡ total is.opened + (length_of is.last + 0) = ap total is.are ∙ total-append is.opened (is.last ∷ []) in
    let s = standing base entries known (Between first) in
    let t = standing base entries (added known x.gtid) (Inside x.gtid (total is.opened) is.maps x.work) in
    let fits_opened : total is.opened ≤ limit = omega arith in
    let fits_last : total is.opened + length_of is.last ≤ limit = omega arith in
    ap (λ z. walk rules s z) is.are
    ∙ walk-append rules s t is.opened (is.last ∷ []) (walk_unended rules base known entries first is.opened x.gtid is.maps x.work is.begun new fits_opened)
    ∙ walk_one rules t _ is.last [] (takes_counted rules t is.last _ fits_last (ends x.gtid (total is.opened) is.maps x.work is.ends))
    ∙ ap (λ z. Ok (standing base (entries ++ record { gtid = x.gtid; time = z; work = x.work } ∷ []) (added known x.gtid) (Between false))) (sym is.time)

walk_entry : {M : Type 0} (rules : Rules M) (base known : Position) (entries : List Entry) (first : Bool) (group : List Event) (x : Entry) → IsEntry rules group x → IsNew known x.gtid →
    walk rules (standing base entries known (Between first)) group ≡ Ok (standing base (entries ++ x ∷ []) (added known x.gtid) (Between false))
walk_entry rules base known entries first group x is new = elim is.form [
  | ◌⊎◌.inl single ↦ walk_single rules base known entries first group x single new is.size
  | ◌⊎◌.inr one ↦ walk_transaction rules base known entries first group x one new is.size
]

-- whether no event counted yet, behind such groups
first_behind : Bool → List (List Event) → Bool
first_behind first [] = first
first_behind first (group ∷ groups) = false

still_false : (groups : List (List Event)) → first_behind false groups ≡ false
unfolding first_behind
still_false [] = refl
still_false (group ∷ groups) = refl

walk_groups : {M : Type 0} (rules : Rules M) (base known after : Position) (entries es : List Entry) (first : Bool) (groups : List (List Event)) → AreEntries rules known groups es after →
    walk rules (standing base entries known (Between first)) (in_turn groups) ≡ Ok (standing base (entries ++ es) after (Between (first_behind first groups)))
unfolding first_behind
walk_groups rules base known after entries [] first [] a =
    ap (λ z. Ok (standing base z known (Between first))) (sym (append-nil entries)) ∙ ap (λ z. Ok (standing base (entries ++ []) z (Between first))) a
walk_groups rules base known after entries (x ∷ es) first [] a = elim a [ ]
walk_groups rules base known after entries [] first (group ∷ groups) a = elim a [ ]
walk_groups rules base known after entries (x ∷ es) first (group ∷ groups) a =
    let s = standing base entries known (Between first) in
    let t = standing base (entries ++ x ∷ []) (added known x.gtid) (Between false) in
    walk-append rules s t group (in_turn groups) (walk_entry rules base known entries first group x a.0 a.1)
    ∙ walk_groups rules base (added known x.gtid) after (entries ++ x ∷ []) es false groups a.2
    ∙ ap (λ z. Ok (standing base z after (Between (first_behind false groups)))) (append_assoc entries (x ∷ []) es)
    ∙ ap (λ z. Ok (standing base (entries ++ x ∷ es) after (Between z))) (still_false groups)

walk_base : {M : Type 0} (rules : Rules M) (base : Position) (previous : List Event) → IsBase rules previous base → AllByRecursion (λ e. length_of e ≤ limit) previous →
    walk rules (standing [] [] [] (Between true)) previous ≡ Ok (standing base [] base (Between (is_nil previous)))
walk_base rules base [] b fits = ap (λ z. Ok (standing z [] z (Between true))) (sym b)
walk_base rules base (e ∷ []) b fits =
    let s = standing [] [] [] (Between true) in
    let fits_e : length_of e ≤ limit = fits.0 in
    walk_one rules s _ e [] (takes_counted rules s e _ (omega arith) (based base b.0 b.1))
walk_base rules base (e ∷ f ∷ es) b fits = elim b [ ]

-- the open events lead to the place that they say
walk_opened : {M : Type 0} (rules : Rules M) (base known : Position) (entries : List Entry) (first : Bool) (opened : List Event) (s : State M) (place : Place M) → IsBegun rules known opened s place →
    (is_first place ≡ (if is_nil opened then first else false)) →
    walk rules (standing base entries known (Between first)) opened ≡ Ok (standing base entries s.known place)
walk_opened rules base known entries first opened s Front b f = elim b [ ]
walk_opened rules base known entries first opened s (Between now) b f =
    let same : now ≡ first = f ∙ ap (λ z. if is_nil z then first else false) b.0 in
    ap (λ z. walk rules (standing base entries known (Between first)) z) b.0
    ∙ ap (λ z. Ok (standing base entries z (Between first))) (sym b.1) ∙ ap (λ z. Ok (standing base entries s.known (Between z))) (sym same)
walk_opened rules base known entries first opened s (Named g bytes) b f =
    let t = standing base entries known (Between first) in
    let n = b.0 in
    let lengths : total opened ≡ length_of n.gtid + 0 = ap total n.are in
    let fits : length_of n.gtid ≤ limit = omega (arith, b.4) in
    let same : length_of n.gtid ≡ bytes = omega (arith, b.3) in
    ap (λ z. walk rules t z) n.are
    ∙ walk_one rules t _ n.gtid [] (step_named rules base known entries first n.gtid g n.names b.1 fits)
    ∙ ap (λ z. Ok (standing base entries z (Named g (length_of n.gtid)))) (sym b.2) ∙ ap (λ z. Ok (standing base entries s.known (Named g z))) same
walk_opened rules base known entries first opened s (Inside g bytes maps work) b f =
    walk_unended rules base known entries first opened g maps work b.0 b.1 b.4
    ∙ ap (λ z. Ok (standing base entries z (Inside g (total opened) maps work))) (sym b.2) ∙ ap (λ z. Ok (standing base entries s.known (Inside g z maps work))) (sym b.3)

kept_all : (P : Event → Type 0) (es : List Event) → AllByRecursion P es → AllByRecursion P (filter is_counted es)
kept_all P [] a = tt
kept_all P (e ∷ es) a = go (is_counted e) (kept_all P es a.1) where
  go : (b : Bool) → AllByRecursion P (filter is_counted es) → AllByRecursion P (if b then e ∷ filter is_counted es else filter is_counted es)
  go true rest = (a.0, rest)
  go false rest = rest

-- whether any event counted, by the parts
empty_parts : {M : Type 0} (rules : Rules M) (base known : Position) (entries : List Entry) (previous : List Event) (groups : List (List Event)) (opened : List Event) → AreEntries rules base groups entries known →
    is_nil (previous ++ (in_turn groups ++ opened)) ≡ (if is_nil opened then first_behind (is_nil previous) groups else false)
unfolding first_behind
empty_parts rules base known entries (e ∷ previous) [] [] a = refl
empty_parts rules base known entries (e ∷ previous) [] (o ∷ opened) a = refl
empty_parts rules base known entries (e ∷ previous) (group ∷ groups) [] a = refl
empty_parts rules base known entries (e ∷ previous) (group ∷ groups) (o ∷ opened) a = refl
empty_parts rules base known entries [] [] [] a = refl
empty_parts rules base known entries [] [] (o ∷ opened) a = refl
empty_parts rules base known [] [] (group ∷ groups) opened a = elim a [ ]
empty_parts rules base known (x ∷ es) [] ([] ∷ groups) opened a = absurd (no_entry rules x a.0)
empty_parts rules base known (x ∷ es) [] ((e ∷ group) ∷ groups) [] a = refl
empty_parts rules base known (x ∷ es) [] ((e ∷ group) ∷ groups) (o ∷ opened) a = refl

walk_log : {M : Type 0} (rules : Rules M) (events : List Event) (s : State M) → Stands rules events s → walk rules front events ≡ Ok s
walk_log rules events s st =
    let l = st.log in
    let sizes : AllByRecursion (λ e. length_of e ≤ limit) (l.format ∷ l.after) = subst (λ z. AllByRecursion (λ e. length_of e ≤ limit) z) l.are l.sizes in
    let fits : length_of l.format ≤ limit = sizes.0 in
    let kept : AllByRecursion (λ e. length_of e ≤ limit) (l.previous ++ (in_turn l.groups ++ st.opened)) =
    subst (λ z. AllByRecursion (λ e. length_of e ≤ limit) z) l.parts (kept_all (λ e. length_of e ≤ limit) l.after sizes.1) in
    let one : State _ = standing [] [] [] (Between true) in
    let two : State _ = standing s.base [] s.base (Between (is_nil l.previous)) in
    let three : State _ = standing s.base s.entries st.known (Between (first_behind (is_nil l.previous) l.groups)) in
    let first : is_first s.place ≡ (if is_nil st.opened then first_behind (is_nil l.previous) l.groups else false) =
    st.first ∙ ap (λ z. is_nil (filter is_counted (drop 1 z))) l.are ∙ ap is_nil l.parts
    ∙ empty_parts rules s.base st.known s.entries l.previous l.groups st.opened l.are_entries in
    ap (λ z. walk rules front z) l.are
    ∙ walk_one rules front one l.format l.after (takes_counted rules front l.format _ (omega arith) (formatted l.is_format))
    ∙ filter_walk rules one s l.after refl sizes.1 (
    ap (λ z. walk rules one z) l.parts
    ∙ walk-append rules one two l.previous (in_turn l.groups ++ st.opened) (walk_base rules s.base l.previous l.is_base (front_all (λ e. length_of e ≤ limit) l.previous _ kept))
    ∙ walk-append rules two three (in_turn l.groups) st.opened (walk_groups rules s.base s.base st.known [] s.entries (is_nil l.previous) l.groups l.are_entries)
    ∙ walk_opened rules s.base st.known s.entries _ st.opened s s.place st.begun first
    )

-- what begins a log, leads the table to the state that it says
pub complete : {M : Type 0} (rules : Rules M) (events : List Event) (s : State M) → BeginsLog rules events s → walk rules front events ≡ Ok s
complete rules [] s b = ap (λ z. Ok z) (sym b)
complete rules (e ∷ events) s b = walk_log rules (e ∷ events) s b
