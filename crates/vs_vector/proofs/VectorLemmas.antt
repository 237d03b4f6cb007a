-- Vectors under their changes.
use Rattle.std.proofs.Common.{◌≡◌, suc, ◌+◌, ◌<◌, ◌≤◌, ◌||◌, ◌&&◌, Bool, true, false, not, List, [], ◌∷◌, ◌++◌, map, filter, length, Some, None, is_some, refl, ap, sym, ◌∙◌, if◌then◌else◌, true≢false, arith, append_assoc, length-append}
use Rattle.std.specs.List.{find, list_any, AllByRecursion}
use Rattle.std.specs.Option.{unwrap_or}
use Rattle.std.proofs.lemmas.Bool.{and_parts}
use Rattle.std.proofs.lemmas.List.{map-append}
use Rattle.std.proofs.lemmas.List.Folds.{list_any-append}
use Rattle.vs_base.specs.Limits.{most_intervals}
use Rattle.vs_base.specs.Names.{same_name, names_differ}
use Rattle.vs_base.specs.declared.ShardName.{ShardName}
use Rattle.vs_base.proofs.NameLemmas.{same_name-is, same_name-refl}
use Rattle.vs_gtid.specs.Vectors.{Place, Vector, place_of, stands, moved, names, IsCanonicalPlace}
use Rattle.vs_vector.specs.Places.{IsLawfulPlace, IsVector, most_shards, place_position}

both : (x y : Bool) → x ≡ true → y ≡ true → (x && y) ≡ true
both x y p q = cc

neither : (x y : Bool) → x ≡ false → y ≡ false → (x || y) ≡ false
neither x y p q = cc

not_true : (x : Bool) → not x ≡ true → x ≡ false
not_true true e = absurd (true≢false (sym e))
not_true false e = refl

not_false : (x : Bool) → x ≡ false → not x ≡ true
not_false x e = ap not e

same_some : (p q : Place) → Some p ≡ Some q → p ≡ q
same_some p q e = ap (λ o. unwrap_or o p) e

or_parts : (x y : Bool) → (x || y) ≡ false → (x ≡ false) × (y ≡ false)
or_parts true y e = absurd (true≢false e)
or_parts false y e = (refl, e)

pub same_name-sym : (a b : ShardName) → same_name a b ≡ same_name b a
same_name-sym a b = by (same_name a b) (same_name b a) refl refl
  where
    by : (x y : Bool) → same_name a b ≡ x → same_name b a ≡ y → same_name a b ≡ same_name b a
    by true true p q = p ∙ sym q
    by false false p q = p ∙ sym q
    by true false p q = absurd (true≢false (sym (ap (λ n. same_name b n) (same_name-is a b p) ∙ same_name-refl b) ∙ q))
    by false true p q = absurd (true≢false (sym (ap (λ n. same_name a n) (same_name-is b a q) ∙ same_name-refl a) ∙ p))

-- another place leaves the names
pub names-moved : (v : Vector) (s : ShardName) (p : Place) → names (moved v s p) ≡ names v
names-moved [] s p = refl
names-moved (slot ∷ v) s p = by (same_name slot.0 s) (names-moved v s p)
  where
    by : (x : Bool) → names (moved v s p) ≡ names v → names (if x then (slot.0, p) ∷ v else slot ∷ moved v s p) ≡ slot.0 ∷ names v
    by true on = refl
    by false on = ap (λ l. slot.0 ∷ l) on

pub length-moved : (v : Vector) (s : ShardName) (p : Place) → length (moved v s p) ≡ length v
length-moved [] s p = refl
length-moved (slot ∷ v) s p = by (same_name slot.0 s) (length-moved v s p)
  where
    by : (x : Bool) → length (moved v s p) ≡ length v → length (if x then (slot.0, p) ∷ v else slot ∷ moved v s p) ≡ suc (length v)
    by true on = refl
    by false on = ap suc on

-- what holds of each place, and of the new one, holds of each place behind the change
all-moved : (P : Place → Type 0) (v : Vector) (s : ShardName) (p : Place) → AllByRecursion (λ slot. P slot.1) v → P p → AllByRecursion (λ slot. P slot.1) (moved v s p)
all-moved P [] s p all it = all
all-moved P (slot ∷ v) s p all it = by (same_name slot.0 s) (all-moved P v s p all.1 it)
  where
    by : (x : Bool) → AllByRecursion (λ t. P t.1) (moved v s p) → AllByRecursion (λ t. P t.1) (if x then (slot.0, p) ∷ v else slot ∷ moved v s p)
    by true on = (it, all.1)
    by false on = (all.0, on)

all-push : (P : Place → Type 0) (v : Vector) (s : ShardName) (p : Place) → AllByRecursion (λ slot. P slot.1) v → P p → AllByRecursion (λ slot. P slot.1) (v ++ (s, p) ∷ [])
all-push P [] s p all it = (it, all)
all-push P (slot ∷ v) s p all it = (all.0, all-push P v s p all.1 it)

abbrev IsShort : Place → Type 0
IsShort p = length (place_position p) ≤ most_intervals

pub IsVector-moved : (v : Vector) (s : ShardName) (p : Place) → IsLawfulPlace p → IsVector v → IsVector (moved v s p)
IsVector-moved v s p lawful keeps = record {
  distinct = ap names_differ (names-moved v s p) ∙ keeps.distinct;
  few = rw (length-moved v s p) keeps.few;
  canonical = all-moved IsCanonicalPlace v s p keeps.canonical lawful.canonical;
  short = all-moved IsShort v s p keeps.short lawful.short;
}

stands-cons : (slot : ShardName × Place) (v : Vector) (s : ShardName) → stands (slot ∷ v) s ≡ false → (same_name slot.0 s ≡ false) × (stands v s ≡ false)
stands-cons slot v s e = by (same_name slot.0 s) refl e
  where
    by : (x : Bool) → same_name slot.0 s ≡ x → is_some (if x then Some slot.1 else place_of v s) ≡ false → (same_name slot.0 s ≡ false) × (stands v s ≡ false)
    by true p h = absurd (true≢false h)
    by false p h = (p, h)

-- a name that doesn't stand there is another than those that do
names-push : (v : Vector) (s : ShardName) → names_differ (names v) ≡ true → stands v s ≡ false → names_differ (names v ++ s ∷ []) ≡ true
names-push [] s differ none = refl
names-push (slot ∷ v) s differ none =
    let parts = and_parts (not (list_any (same_name slot.0) (names v))) (names_differ (names v)) differ in
    let away = stands-cons slot v s none in
    both (not (list_any (same_name slot.0) (names v ++ s ∷ []))) (names_differ (names v ++ s ∷ []))
    (not_false _ (list_any-append (same_name slot.0) (names v) (s ∷ []) ∙ neither _ _ (not_true _ parts.0) (neither _ _ away.0 refl)))
    (names-push v s parts.1 away.1)

pub IsVector-push : (v : Vector) (s : ShardName) (p : Place) → IsLawfulPlace p → length v < most_shards → stands v s ≡ false → IsVector v → IsVector (v ++ (s, p) ∷ [])
IsVector-push v s p lawful room none keeps = record {
  distinct = ap names_differ (map-append (λ (slot : ShardName × Place). slot.0) v ((s, p) ∷ [])) ∙ names-push v s keeps.distinct none;
  few = rw (length-append v ((s, p) ∷ [])) (omega (arith, room));
  canonical = all-push IsCanonicalPlace v s p keeps.canonical lawful.canonical;
  short = all-push IsShort v s p keeps.short lawful.short;
}

-- of names that differ, none stands among those in front of it
pub absent-of-differ : (v : Vector) (s : ShardName) (rest : List ShardName) → names_differ (names v ++ s ∷ rest) ≡ true → stands v s ≡ false
absent-of-differ [] s rest differ = refl
absent-of-differ (slot ∷ v) s rest differ =
    let parts = and_parts (not (list_any (same_name slot.0) (names v ++ s ∷ rest))) (names_differ (names v ++ s ∷ rest)) differ in
    let none = or_parts _ _ (sym (list_any-append (same_name slot.0) (names v) (s ∷ rest)) ∙ not_true _ parts.0) in
    let away = or_parts (same_name slot.0 s) (list_any (same_name slot.0) rest) none.1 in
    ap (λ x. is_some (if x then Some slot.1 else place_of v s)) away.0 ∙ absent-of-differ v s rest parts.1

-- the next name goes over to those that stand there
pub differ-next : (v : Vector) (s : ShardName) (p : Place) (rest : List ShardName) → names_differ (names v ++ s ∷ rest) ≡ true → names_differ (names (v ++ (s, p) ∷ []) ++ rest) ≡ true
differ-next v s p rest differ =
    ap (λ l. names_differ (l ++ rest)) (map-append (λ (slot : ShardName × Place). slot.0) v ((s, p) ∷ [])) ∙ ap names_differ (append_assoc (names v) (s ∷ []) rest) ∙ differ

-- a name less in the middle: those that are left differ
pub differ-less : (v : Vector) (s : ShardName) (rest : List ShardName) → names_differ (names v ++ s ∷ rest) ≡ true → names_differ (names v ++ rest) ≡ true
differ-less [] s rest differ = (and_parts (not (list_any (same_name s) rest)) (names_differ rest) differ).1
differ-less (slot ∷ v) s rest differ =
    let parts = and_parts (not (list_any (same_name slot.0) (names v ++ s ∷ rest))) (names_differ (names v ++ s ∷ rest)) differ in
    let none = or_parts _ _ (sym (list_any-append (same_name slot.0) (names v) (s ∷ rest)) ∙ not_true _ parts.0) in
    let away = or_parts (same_name slot.0 s) (list_any (same_name slot.0) rest) none.1 in
    both (not (list_any (same_name slot.0) (names v ++ rest))) (names_differ (names v ++ rest))
    (not_false _ (list_any-append (same_name slot.0) (names v) rest ∙ neither _ _ none.0 away.1))
    (differ-less v s rest parts.1)

-- what doesn't stand there doesn't stand in a part of it
pub stands-filter : (keep : ShardName × Place → Bool) (v : Vector) (s : ShardName) → stands v s ≡ false → stands (filter keep v) s ≡ false
stands-filter keep [] s none = refl
stands-filter keep (slot ∷ v) s none = by (keep slot) (stands-cons slot v s none) (stands-filter keep v s (stands-cons slot v s none).1)
  where
    by : (x : Bool) → (same_name slot.0 s ≡ false) × (stands v s ≡ false) → stands (filter keep v) s ≡ false → stands (if x then slot ∷ filter keep v else filter keep v) s ≡ false
    by true away on = ap (λ y. is_some (if y then Some slot.1 else place_of (filter keep v) s)) away.0 ∙ on
    by false away on = on

-- none of the names stands in the vector
none-cons : (slot : ShardName × Place) (v : Vector) (ss : List ShardName) → list_any (stands (slot ∷ v)) ss ≡ false → (list_any (same_name slot.0) ss ≡ false) × (list_any (stands v) ss ≡ false)
none-cons slot v [] none = (refl, refl)
none-cons slot v (s ∷ ss) none =
    let parts = or_parts (stands (slot ∷ v) s) (list_any (stands (slot ∷ v)) ss) none in
    let here = stands-cons slot v s parts.0 in
    let on = none-cons slot v ss parts.1 in
    (neither _ _ here.0 on.0, neither _ _ here.1 on.1)

-- names that differ, behind a vector's in which none of them stands
pub differ-append : (v : Vector) (ss : List ShardName) → names_differ (names v) ≡ true → names_differ ss ≡ true → list_any (stands v) ss ≡ false → names_differ (names v ++ ss) ≡ true
differ-append [] ss differ new none = new
differ-append (slot ∷ v) ss differ new none =
    let parts = and_parts (not (list_any (same_name slot.0) (names v))) (names_differ (names v)) differ in
    let away = none-cons slot v ss none in
    both (not (list_any (same_name slot.0) (names v ++ ss))) (names_differ (names v ++ ss))
    (not_false _ (list_any-append (same_name slot.0) (names v) ss ∙ neither _ _ (not_true _ parts.0) away.0))
    (differ-append v ss parts.1 new away.1)

-- where none is found to stand in the vector, none stands in a part of it
pub none-filter : {X : Type 0} (name : X → ShardName) (keep : ShardName × Place → Bool) (v : Vector) (xs : List X) → find (λ x. stands v (name x)) xs ≡ None →
    list_any (stands (filter keep v)) (map name xs) ≡ false
none-filter name keep v [] e = refl
none-filter name keep v (x ∷ xs) e = by (stands v (name x)) refl e (λ h. none-filter name keep v xs h)
  where
    by : (b : Bool) → stands v (name x) ≡ b → (if b then Some x else find (λ y. stands v (name y)) xs) ≡ None →
        (find (λ y. stands v (name y)) xs ≡ None → list_any (stands (filter keep v)) (map name xs) ≡ false) → list_any (stands (filter keep v)) (map name (x ∷ xs)) ≡ false
    by true p h on = absurd (true≢false (ap is_some h))
    by false p h on = neither _ _ (stands-filter keep v (name x) p) (on h)

-- the place of one name changed, name by name
abbrev pub changed : ShardName → Place → ShardName × Place → ShardName × Place
changed s p slot = (slot.0, if same_name slot.0 s then p else slot.1)

unchanged : (v : Vector) (s a : ShardName) (p : Place) → a ≡ s → list_any (same_name a) (names v) ≡ false → map (changed s p) v ≡ v
unchanged [] s a p same none = refl
unchanged (slot ∷ v) s a p same none =
    let parts = or_parts (same_name a slot.0) (list_any (same_name a) (names v)) none in
    let other = same_name-sym slot.0 s ∙ ap (λ n. same_name n slot.0) (sym same) ∙ parts.0 in
    ap (λ x. (slot.0, if x then p else slot.1) ∷ map (changed s p) v) other ∙ ap (λ l. slot ∷ l) (unchanged v s a p same parts.1)

pub changed-is : (v : Vector) (s : ShardName) (p : Place) → names_differ (names v) ≡ true → map (changed s p) v ≡ moved v s p
changed-is [] s p differ = refl
changed-is (slot ∷ v) s p differ =
    let parts = and_parts (not (list_any (same_name slot.0) (names v))) (names_differ (names v)) differ in
    by (same_name slot.0 s) refl (λ same. unchanged v s slot.0 p same (not_true _ parts.0)) (changed-is v s p parts.1)
  where
    by : (x : Bool) → same_name slot.0 s ≡ x → (slot.0 ≡ s → map (changed s p) v ≡ v) → map (changed s p) v ≡ moved v s p →
        (slot.0, if x then p else slot.1) ∷ map (changed s p) v ≡ (if x then (slot.0, p) ∷ v else slot ∷ moved v s p)
    by true e here on = ap (λ l. (slot.0, p) ∷ l) (here (same_name-is slot.0 s e))
    by false e here on = ap (λ l. slot ∷ l) on

-- the place that is there, put there anew, changes nothing
pub moved-same : (v : Vector) (s : ShardName) (p : Place) → place_of v s ≡ Some p → moved v s p ≡ v
moved-same [] s p there = refl
moved-same (slot ∷ v) s p there = by (same_name slot.0 s) there (λ h. moved-same v s p h)
  where
    by : (x : Bool) → (if x then Some slot.1 else place_of v s) ≡ Some p → (place_of v s ≡ Some p → moved v s p ≡ v) → (if x then (slot.0, p) ∷ v else slot ∷ moved v s p) ≡ slot ∷ v
    by true h on = ap (λ q. (slot.0, q) ∷ v) (sym (same_some slot.1 p h))
    by false h on = ap (λ l. slot ∷ l) (on h)
