-- A table comes to its place by name.
use Rattle.std.proofs.Common.{◌≡◌, ℕ, Bool, true, false, List, [], ◌∷◌, ◌++◌, refl, ap, sym, subst, ◌∙◌}
use Rattle.std.specs.Prelude.{cond, Some, ◌||◌}
use Rattle.std.specs.BTreeMap.{insert_entry, is_at}
use Rattle.std.specs.List.{AllByRecursion, filter, list_any}
use Rattle.std.specs.List.Sorted.{IsStrictlySortedBy}
use Rattle.std.specs.Map.{keys_of, lookup, values_of}
use Rattle.std.specs.Option.{is_some}
use Rattle.std.specs.Ordering.{is_eq, match_ordering, nat_cmp, ordering_reverse}
use Rattle.std.specs.Cmp.Lexicographic.{slice_cmp, texts_ties}
use Rattle.std.specs.declared.cmp.Ordering.{Ordering}
use Rattle.std.specs.declared.cmp.Ordering.TheVariants.{Less, Equal, Greater}
use Rattle.std.proofs.lemmas.Cmp.{nat_list_cmp_total}
use Rattle.std.proofs.lemmas.List.Folds.{list_any-append}
use Rattle.std.proofs.lemmas.Map.Keys.{sorted_head, sorted_tail}
use Rattle.std.proofs.lemmas.Map.Lookups.{exact_bytes}
use Rattle.vs_base.specs.declared.table.Table.{Table}
use Rattle.vs_schema.specs.Kinds.{same}
use Rattle.vs_schema.specs.Laws.{Ascend}
use Rattle.vs_schema.specs.Named.{AreNamed, AreTheSame}
use Rattle.vs_schema.specs.Rules.{names_table, stands_before, stands_behind, with_table}

abbrev Before : Table → Table → Type 0
Before t u = slice_cmp nat_cmp t.name u.name ≡ Less

-- the tables with one more, before the first that stands behind it, and in place of one of its name
abbrev pub put : Table → List Table → List Table
put t [] = t ∷ []
put t (u ∷ us) = match_ordering (slice_cmp nat_cmp t.name u.name) (t ∷ u ∷ us) (t ∷ us) (u ∷ put t us)

-- each stands before all that follow
abbrev pub AreSorted : List Table → Type 0
AreSorted [] = Unit {0}
AreSorted (u ∷ us) = AllByRecursion (Before u) us × AreSorted us

turned : (a b : List ℕ) (o : Ordering) → slice_cmp nat_cmp a b ≡ o → slice_cmp nat_cmp b a ≡ ordering_reverse o
turned a b o e = nat_list_cmp_total.antisymm b a ∙ ap ordering_reverse e

all_behind : (t u : Table) (us : List Table) → Before t u → AllByRecursion (Before u) us → AllByRecursion (Before t) us
all_behind t u [] b h = tt
all_behind t u (v ∷ vs) b h = (nat_list_cmp_total.trans t.name u.name v.name b h.0, all_behind t u vs b h.1)

none_before : (t : Table) (us : List Table) → AllByRecursion (Before t) us → filter (stands_before t.name) us ≡ []
none_before t [] h = refl
none_before t (u ∷ us) h = rw (turned t.name u.name Less h.0) (none_before t us h.1)

each_behind : (t : Table) (us : List Table) → AllByRecursion (Before t) us → filter (stands_behind t.name) us ≡ us
each_behind t [] h = refl
each_behind t (u ∷ us) h = rw (turned t.name u.name Less h.0) (ap (λ z. u ∷ z) (each_behind t us h.1))

-- among tables that ascend, those before one and those behind it stand around its place
pub put_is : (t : Table) (us : List Table) → AreSorted us → with_table us t ≡ put t us
put_is t [] h = refl
put_is t (u ∷ us) h = go (slice_cmp nat_cmp t.name u.name) refl (put_is t us h.1)
  where
    go : (o : Ordering) → slice_cmp nat_cmp t.name u.name ≡ o → with_table us t ≡ put t us → with_table (u ∷ us) t ≡ match_ordering o (t ∷ u ∷ us) (t ∷ us) (u ∷ put t us)
    go Less e rest =
        let all : AllByRecursion (Before t) us = all_behind t u us e h.0 in
        rw (turned t.name u.name Less e) (rw (none_before t us all, each_behind t us all) refl)
    go Equal e rest =
        let same_name : t.name ≡ u.name = exact_bytes t.name u.name e in
        let all : AllByRecursion (Before t) us = subst (λ name. AllByRecursion (λ (v : Table). slice_cmp nat_cmp name v.name ≡ Less) us) (sym same_name) h.0 in
        rw (turned t.name u.name Equal e) (rw (none_before t us all, each_behind t us all) refl)
    go Greater e rest = rw (turned t.name u.name Greater e) (ap (λ z. u ∷ z) rest)

pub sorted_ascending : (us : List Table) → Ascend us → AreSorted us
sorted_ascending [] a = tt
sorted_ascending (u ∷ []) a = (tt, tt)
sorted_ascending (u ∷ v ∷ vs) a =
    let rest = sorted_ascending (v ∷ vs) a.1 in
    ((a.0, all_behind u v vs a.0 rest.0), rest)

abbrev IsBelow : Table → List Table → Type 0
IsBelow t [] = Unit {0}
IsBelow t (u ∷ us) = Before t u

ascend_cons : (t : Table) (us : List Table) → IsBelow t us → Ascend us → Ascend (t ∷ us)
ascend_cons t [] b a = tt
ascend_cons t (u ∷ us) b a = (b, a)

ascend_head : (t : Table) (us : List Table) → Ascend (t ∷ us) → IsBelow t us
ascend_head t [] a = tt
ascend_head t (u ∷ us) a = a.0

ascend_tail : (t : Table) (us : List Table) → Ascend (t ∷ us) → Ascend us
ascend_tail t [] a = tt
ascend_tail t (u ∷ us) a = a.1

below_along : (t u : Table) (us : List Table) → u.name ≡ t.name → IsBelow u us → IsBelow t us
below_along t u [] e b = tt
below_along t u (v ∷ vs) e b = subst (λ name. slice_cmp nat_cmp name v.name ≡ Less) e b

put_below : (u t : Table) (us : List Table) → Before u t → IsBelow u us → IsBelow u (put t us)
put_below u t [] b a = b
put_below u t (v ∷ vs) b a = go (slice_cmp nat_cmp t.name v.name)
  where
    go : (o : Ordering) → IsBelow u (match_ordering o (t ∷ v ∷ vs) (t ∷ vs) (v ∷ put t vs))
    go Less = b
    go Equal = b
    go Greater = a

pub ascend_put : (t : Table) (us : List Table) → Ascend us → Ascend (put t us)
ascend_put t [] a = tt
ascend_put t (u ∷ us) a = go (slice_cmp nat_cmp t.name u.name) refl (ascend_put t us (ascend_tail u us a))
  where
    go : (o : Ordering) → slice_cmp nat_cmp t.name u.name ≡ o → Ascend (put t us) → Ascend (match_ordering o (t ∷ u ∷ us) (t ∷ us) (u ∷ put t us))
    go Less e rest = ascend_cons t (u ∷ us) e a
    go Equal e rest = ascend_cons t us (below_along t u us (sym (exact_bytes t.name u.name e)) (ascend_head u us a)) (ascend_tail u us a)
    go Greater e rest = ascend_cons u (put t us) (put_below u t us (turned t.name u.name Greater e) (ascend_head u us a)) rest

pub all_put : (P : Table → Type 0) (t : Table) (us : List Table) → AllByRecursion P us → P t → AllByRecursion P (put t us)
all_put P t [] all p = (p, tt)
all_put P t (u ∷ us) all p = go (slice_cmp nat_cmp t.name u.name) (all_put P t us all.1 p)
  where
    go : (o : Ordering) → AllByRecursion P (put t us) → AllByRecursion P (match_ordering o (t ∷ u ∷ us) (t ∷ us) (u ∷ put t us))
    go Less rest = (p, all)
    go Equal rest = (p, all.1)
    go Greater rest = (all.0, rest)

-- ---- tables in a map from their names

sorted_values : (es : List (List ℕ × Table)) → AreNamed es → IsStrictlySortedBy (slice_cmp nat_cmp) (keys_of es) → AreSorted (values_of es)
sorted_values [] named h = tt
sorted_values (e ∷ es) named h = (each es named.1 (sorted_head (slice_cmp nat_cmp) e.0 (keys_of es) h), sorted_values es named.1 (sorted_tail (slice_cmp nat_cmp) e.0 (keys_of es) h))
  where
    each : (fs : List (List ℕ × Table)) → AreNamed fs → AllByRecursion (λ k. slice_cmp nat_cmp e.0 k ≡ Less) (keys_of fs) → AllByRecursion (Before e.1) (values_of fs)
    each [] n all = tt
    each (f ∷ fs) n all = (ap (λ name. slice_cmp nat_cmp name f.1.name) named.0 ∙ ap (slice_cmp nat_cmp e.0) n.0 ∙ all.0, each fs n.1 all.1)

abbrev put_at : Table → List ℕ × Table → List (List ℕ × Table) → List ℕ → List Table
put_at t e es name = values_of (match_ordering (slice_cmp nat_cmp t.name name) ((t.name, t) ∷ e ∷ es) ((e.0, t) ∷ es) (e ∷ insert_entry (slice_cmp nat_cmp) es t.name t))

values_put : (es : List (List ℕ × Table)) (t : Table) → AreNamed es → values_of (insert_entry (slice_cmp nat_cmp) es t.name t) ≡ put t (values_of es)
values_put [] t named = refl
values_put (e ∷ es) t named = ap (put_at t e es) (sym named.0) ∙ go (slice_cmp nat_cmp t.name e.1.name) (values_put es t named.1)
  where
    go : (o : Ordering) → values_of (insert_entry (slice_cmp nat_cmp) es t.name t) ≡ put t (values_of es)
        → values_of (match_ordering o ((t.name, t) ∷ e ∷ es) ((e.0, t) ∷ es) (e ∷ insert_entry (slice_cmp nat_cmp) es t.name t)) ≡ match_ordering o (t ∷ e.1 ∷ values_of es) (t ∷ values_of es) (e.1 ∷ put t (values_of es))
    go Less rest = refl
    go Equal rest = refl
    go Greater rest = ap (λ z. e.1 ∷ z) rest

-- the map's tables with one more
pub values_with : (es : List (List ℕ × Table)) (name : List ℕ) (t : Table) → name ≡ t.name → AreNamed es → IsStrictlySortedBy (slice_cmp nat_cmp) (keys_of es) → values_of (insert_entry (slice_cmp nat_cmp) es name t) ≡ with_table (values_of es) t
values_with es name t is named h = ap (λ k. values_of (insert_entry (slice_cmp nat_cmp) es k t)) is ∙ values_put es t named ∙ sym (put_is t (values_of es) (sorted_values es named h))

pub named_with : (es : List (List ℕ × Table)) (name : List ℕ) (t : Table) → name ≡ t.name → AreNamed es → AreNamed (insert_entry (slice_cmp nat_cmp) es name t)
named_with [] name t is named = (sym is, tt)
named_with (e ∷ es) name t is named = go (slice_cmp nat_cmp name e.0) refl (named_with es name t is named.1)
  where
    go : (o : Ordering) → slice_cmp nat_cmp name e.0 ≡ o → AreNamed (insert_entry (slice_cmp nat_cmp) es name t) → AreNamed (match_ordering o ((name, t) ∷ e ∷ es) ((e.0, t) ∷ es) (e ∷ insert_entry (slice_cmp nat_cmp) es name t))
    go Less k rest = (sym is, named)
    go Equal k rest = (sym is ∙ exact_bytes name e.0 k, named.1)
    go Greater k rest = (named.0, rest)

-- two names are equal where they compare so, either way round
turned_same : (a b : List ℕ) → same a b ≡ is_eq (slice_cmp nat_cmp b a)
turned_same a b = texts_ties a b ∙ go (slice_cmp nat_cmp b a) refl
  where
    go : (o : Ordering) → slice_cmp nat_cmp b a ≡ o → is_eq (slice_cmp nat_cmp a b) ≡ is_eq o
    go Less k = ap is_eq (turned b a Less k)
    go Equal k = ap is_eq (turned b a Equal k)
    go Greater k = ap is_eq (turned b a Greater k)

pub found : (es : List (List ℕ × Table)) (name : List ℕ) → AreNamed es → is_some (lookup (is_at (slice_cmp nat_cmp name)) es) ≡ list_any (names_table name) (values_of es)
found [] name named = refl
found (e ∷ es) name named = go (is_eq (slice_cmp nat_cmp name e.0)) (names_table name e.1) (sym (turned_same e.0 name) ∙ ap (λ k. same k name) (sym named.0)) (found es name named.1)
  where
    go : (b c : Bool) → b ≡ c → is_some (lookup (is_at (slice_cmp nat_cmp name)) es) ≡ list_any (names_table name) (values_of es)
        → is_some (cond b (Some e.1) (lookup (is_at (slice_cmp nat_cmp name)) es)) ≡ (c || list_any (names_table name) (values_of es))
    go true true k rest = refl
    go true false k rest = absurd (cc)
    go false true k rest = absurd (cc)
    go false false k rest = rest

-- ---- names that are skipped, in a set beside them

pub same_more : (sorted more names : List (List ℕ)) (name copy : List ℕ) → copy ≡ name
    → ((q : List ℕ) → list_any (is_at (slice_cmp nat_cmp q)) more ≡ cond (is_at (slice_cmp nat_cmp name) q) true (list_any (is_at (slice_cmp nat_cmp q)) sorted))
    → AreTheSame sorted names → AreTheSame more (names ++ copy ∷ [])
same_more sorted more names name copy is put_in same_names q =
    put_in q ∙ go (is_at (slice_cmp nat_cmp name) q) (list_any (is_at (slice_cmp nat_cmp q)) sorted) _ _ (sym (texts_ties name q) ∙ ap (λ k. same k q) (sym is)) (same_names q) ∙ sym (list_any-append (λ n. same n q) names (copy ∷ []))
  where
    go : (b s c l : Bool) → b ≡ c → s ≡ l → cond b true s ≡ (l || (c || false))
    go true s c true e k = refl
    go true s true false e k = refl
    go true s false false e k = absurd (cc)
    go false s true l e k = absurd (cc)
    go false s false true e k = k
    go false s false false e k = k
