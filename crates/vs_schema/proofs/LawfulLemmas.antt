-- What the lines of a schema text have said keeps to the rules.
use Rattle.std.proofs.Common.{◌≡◌, Bool, true, false, not, List, [], ◌∷◌, ◌++◌, refl, ap, sym, subst, ◌∙◌}
use Rattle.std.specs.Prelude.{Option, Some, None, if◌then◌else◌}
use Rattle.std.specs.List.{AllByRecursion, list_any}
use Rattle.std.proofs.lemmas.Bool.{and_parts, and_from, or_parts}
use Rattle.std.proofs.lemmas.List.Folds.{list_any-append}
use Rattle.vs_base.specs.declared.table.Table.{Table}
use Rattle.vs_schema.specs.Laws.{Ascend, differ}
use Rattle.vs_schema.specs.Rules.{with_table}
use Rattle.vs_schema.proofs.TableLemmas.{all_put, ascend_put, put_is, sorted_ascending}

pub guarded : {A : Type 0} (b : Bool) (x : Option A) (y : A) → (if b then x else None) ≡ Some y → (b ≡ true) × (x ≡ Some y)
guarded true x y h = (refl, h)
guarded false x y h = absurd (cc)

pub untrue : (b : Bool) → not b ≡ true → b ≡ false
untrue true k = absurd (cc)
untrue false k = refl

none_more : {A : Type 0} (p : A → Bool) (xs : List A) (y : A) → list_any p xs ≡ false → p y ≡ false → list_any p (xs ++ y ∷ []) ≡ false
none_more p xs y h e = list_any-append p xs (y ∷ []) ∙ rw (h, e) refl

-- one more that is like none before it
pub differ_more : {A : Type 0} (alike : A → A → Bool) → ((x y : A) → alike x y ≡ alike y x) → (xs : List A) (y : A) → differ alike xs ≡ true → list_any (alike y) xs ≡ false → differ alike (xs ++ y ∷ []) ≡ true
differ_more alike symm [] y d h = refl
differ_more alike symm (x ∷ xs) y d h =
    let parts = and_parts (not (list_any (alike x) xs)) (differ alike xs) d in
    let others = or_parts (alike y x) (list_any (alike y) xs) h in
    let apart : list_any (alike x) (xs ++ y ∷ []) ≡ false = none_more (alike x) xs y (untrue (list_any (alike x) xs) parts.0) (symm x y ∙ others.0) in
    and_from _ _ (ap not apart) (differ_more alike symm xs y parts.1 others.1)

pub all_more : {A : Type 0} (P : A → Type 0) (xs : List A) (y : A) → AllByRecursion P xs → P y → AllByRecursion P (xs ++ y ∷ [])
all_more P [] y h p = (p, tt)
all_more P (x ∷ xs) y h p = (h.0, all_more P xs y h.1 p)

pub with_table-ascends : (tables : List Table) (t : Table) → Ascend tables → Ascend (with_table tables t)
with_table-ascends tables t a = subst Ascend (sym (put_is t tables (sorted_ascending tables a))) (ascend_put t tables a)

pub with_table-all : (P : Table → Type 0) (tables : List Table) (t : Table) → Ascend tables → AllByRecursion P tables → P t → AllByRecursion P (with_table tables t)
with_table-all P tables t a all p = subst (AllByRecursion P) (sym (put_is t tables (sorted_ascending tables a))) (all_put P t tables all p)
