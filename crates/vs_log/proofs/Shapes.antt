-- What the shapes of a log are when an event comes behind.
use Rattle.std.proofs.Common.{◌≡◌, ◌+◌, true, false, List, [], ◌∷◌, ◌++◌, if◌then◌else◌, Option, Some, None, refl, ap, sym, subst, ◌∙◌, append_assoc, arith}
use Rattle.std.specs.Prelude.{◌⊎◌}
use Rattle.std.specs.List.{filter, AllByRecursion}
use Rattle.std.proofs.lemmas.List.{append-nil, map-append}
use Rattle.std.proofs.lemmas.List.Elements.{filter-append}
use Rattle.vs_gtid.specs.declared.Work.{Work}
use Rattle.vs_gtid.specs.declared.Work.TheVariants.{Rows, Ddl, Other, Journal}
use Rattle.vs_gtid.specs.declared.Entry.{Entry}
use Rattle.vs_gtid.specs.Positions.{Position}
use Rattle.vs_gtid.specs.Joins.{added}
use Rattle.vs_log.specs.States.{Counted}
use Rattle.vs_log.specs.States.Counted.{Changed, Journaled}
use Rattle.vs_binlog.specs.Heads.{Event}
use Rattle.vs_log.specs.Table.{Rules, one_more, more_work}
use Rattle.vs_log.specs.Productions.{is_counted, total, in_turn, is_nil, IsMiddle, IsWork, IsEntry, IsNew, AreEntries}

pub all_more : {A : Type 0} (P : A → Type 0) (xs : List A) (x : A) → AllByRecursion P xs → P x → AllByRecursion P (xs ++ x ∷ [])
all_more P [] x a p = (p, tt)
all_more P (y ∷ ys) x a p = (a.0, all_more P ys x a.1 p)

pub front_all : {A : Type 0} (P : A → Type 0) (xs ys : List A) → AllByRecursion P (xs ++ ys) → AllByRecursion P xs
front_all P [] ys a = tt
front_all P (x ∷ xs) ys a = (a.0, front_all P xs ys a.1)

pub total-append : (xs ys : List Event) → total (xs ++ ys) ≡ total xs + total ys
total-append [] ys = omega arith
total-append (x ∷ xs) ys = omega (arith, total-append xs ys)

pub in_turn-more : (groups : List (List Event)) (group : List Event) → in_turn (groups ++ group ∷ []) ≡ in_turn groups ++ group
in_turn-more [] group = append-nil group
in_turn-more (g ∷ groups) group = ap (λ z. g ++ z) (in_turn-more groups group) ∙ sym (append_assoc g (in_turn groups) group)

pub entries_more : {M : Type 0} (rules : Rules M) (base known : Position) (groups : List (List Event)) (entries : List Entry) (group : List Event) (e : Entry) →
    AreEntries rules base groups entries known → IsEntry rules group e → IsNew known e.gtid →
    AreEntries rules base (groups ++ group ∷ []) (entries ++ e ∷ []) (added known e.gtid)
entries_more rules base known [] [] group e a is new = (is, subst (λ z. IsNew z e.gtid) (sym a) new, ap (λ z. added z e.gtid) a)
entries_more rules base known [] (x ∷ xs) group e a is new = elim a [ ]
entries_more rules base known (g ∷ groups) [] group e a is new = elim a [ ]
entries_more rules base known (g ∷ groups) (x ∷ xs) group e a is new = (a.0, a.1, entries_more rules (added base x.gtid) known groups xs group e a.2 is new)

pub no_entry : {M : Type 0} (rules : Rules M) (e : Entry) → IsEntry rules [] e → ⊥
no_entry rules e is = elim is.form [
  | ◌⊎◌.inl single ↦ let h : [] ≡ single.gtid ∷ single.query ∷ [] = single.are in cc
  | ◌⊎◌.inr one ↦ not_ended one.opened one.last one.are
] where
  not_ended : (xs : List Event) (x : Event) → [] ≡ xs ++ x ∷ [] → ⊥
  not_ended [] x h = cc
  not_ended (y ∷ ys) x h = cc

pub left_nil : {A : Type 0} (xs ys : List A) → xs ++ ys ≡ [] → xs ≡ []
left_nil [] ys h = refl
left_nil (x ∷ xs) ys h = cc

pub right_nil : {A : Type 0} (xs ys : List A) → xs ++ ys ≡ [] → ys ≡ []
right_nil [] ys h = h
right_nil (x ∷ xs) ys h = cc

pub no_entries : {M : Type 0} (rules : Rules M) (base known : Position) (groups : List (List Event)) (entries : List Entry) →
    AreEntries rules base groups entries known → in_turn groups ≡ [] → entries ≡ []
no_entries rules base known [] [] a h = refl
no_entries rules base known [] (e ∷ es) a h = elim a [ ]
no_entries rules base known (g ∷ gs) [] a h = refl
no_entries rules base known (g ∷ gs) (e ∷ es) a h = absurd (no_entry rules e (subst (λ z. IsEntry rules z e) (left_nil g (in_turn gs) h) a.0))

pub nil_from : {A : Type 0} (xs : List A) → is_nil xs ≡ true → xs ≡ []
nil_from [] h = refl
nil_from (x ∷ xs) h = cc

pub is_nil-more : {A : Type 0} (xs : List A) (x : A) → is_nil (xs ++ x ∷ []) ≡ false
is_nil-more [] x = refl
is_nil-more (y ∷ ys) x = refl

-- a front of what is kept is what is kept of a front
pub filter_more : (es : List Event) (e : Event) → is_counted e ≡ true → filter is_counted (es ++ e ∷ []) ≡ filter is_counted es ++ e ∷ []
filter_more es e k = filter-append is_counted es (e ∷ []) ∙ ap (λ b. filter is_counted es ++ (if b then e ∷ [] else [])) k

pub filter_same : (es : List Event) (e : Event) → is_counted e ≡ false → filter is_counted (es ++ e ∷ []) ≡ filter is_counted es
filter_same es e k = filter-append is_counted es (e ∷ []) ∙ ap (λ b. filter is_counted es ++ (if b then e ∷ [] else [])) k ∙ append-nil (filter is_counted es)

pub middle_more : {M : Type 0} (rules : Rules M) (before : M) (middle : List Event) (counted : List Counted) (maps : M) (e : Event) (more : List Counted) (after : M) →
    IsMiddle rules before middle counted maps → IsMiddle rules maps (e ∷ []) more after → IsMiddle rules before (middle ++ e ∷ []) (counted ++ more) after
middle_more rules before [] counted maps e more after m n =
    subst (λ z. IsMiddle rules before (e ∷ []) (z ++ more) after) (sym m.0) (subst (λ z. IsMiddle rules z (e ∷ []) more after) (sym m.1) n)
middle_more rules before (f ∷ middle) counted maps e more after m n = elim m [
  | ◌⊎◌.inl a ↦ ◌⊎◌.inl (a.0, a.1, middle_more rules a.0 middle counted maps e more after a.2 n)
  | ◌⊎◌.inr b ↦ elim b [
    | ◌⊎◌.inl t ↦ ◌⊎◌.inr (◌⊎◌.inl (t.0, t.1 ++ more, t.2, ap (λ z. z ++ more) t.3 ∙ append_assoc t.0 t.1 more, middle_more rules before middle t.1 maps e more after t.4 n))
    | ◌⊎◌.inr s ↦ ◌⊎◌.inr (◌⊎◌.inr (s.0, middle_more rules before middle counted maps e more after s.1 n))
  ]
]

one_work : (work : Work) (counted : List Counted) (c : Counted) (next : Work) → IsWork counted work → one_more work c ≡ Some next → IsWork (counted ++ c ∷ []) next
one_work (Rows changes) counted (Changed c) next w h =
    subst (λ z. IsWork (counted ++ Changed c ∷ []) z) (let p : Rows (changes ++ c ∷ []) ≡ next = cc in p) (ap (λ z. z ++ Changed c ∷ []) w ∙ sym (map-append Changed changes (c ∷ [])))
one_work (Rows []) counted (Journaled j) next w h =
    subst (λ z. IsWork (counted ++ Journaled j ∷ []) z) (let p : Journal j ≡ next = cc in p) (ap (λ z. z ++ Journaled j ∷ []) w)
one_work (Rows (x ∷ xs)) counted (Journaled j) next w h = absurd (cc)
one_work (Ddl text) counted c next w h = elim w [ ]
one_work Other counted c next w h = elim w [ ]
one_work (Journal j) counted c next w h = absurd (cc)

pub work_more : (work : Work) (counted more : List Counted) (next : Work) → IsWork counted work → more_work work more ≡ Some next → IsWork (counted ++ more) next
work_more work counted [] next w h = subst (λ z. IsWork (counted ++ []) z) (let p : work ≡ next = cc in p) (subst (λ z. IsWork z work) (sym (append-nil counted)) w)
work_more work counted (c ∷ more) next w h = go (one_more work c) refl h (λ x. work_more x (counted ++ c ∷ []) more next) where
  go : (r : Option Work) → one_more work c ≡ r → (elim r [ None ↦ None | Some x ↦ more_work x more ]) ≡ Some next →
      ((x : Work) → IsWork (counted ++ c ∷ []) x → more_work x more ≡ Some next → IsWork ((counted ++ c ∷ []) ++ more) next) → IsWork (counted ++ c ∷ more) next
  go None e g k = absurd (cc)
  go (Some x) e g k = subst (λ z. IsWork z next) (append_assoc counted (c ∷ []) more) (k x (one_work work counted c x w e) g)
