-- A change of one of several tables.
use Rattle.std.proofs.Common.{◌≡◌, ℕ, zero, suc, ◌+◌, ◌<◌, Bool, true, false, cond, List, [], ◌∷◌, length, Option, Some, None, position, slice_index_or, slice_set, refl, ap, sym, ◌∙◌, arith}
use Rattle.std.proofs.lemmas.List.Quantifiers.{position-Some}
use Rattle.std.proofs.lemmas.Iterator.Adapters.{position_from-zero}
use Rattle.std.specs.List.{position_from}
use Rattle.std.specs.Option.{option_and_then, option_or}
use Rattle.vs_base.specs.declared.change.Change.{Change}
use Rattle.vs_tables.specs.Changes.{RefusalTells, RowFault, change_fault_in, fault_of_change, table_after, tables_after_one}
use Rattle.vs_tables.specs.declared.refusal.TableRefusal.{TableRefusal}
use Rattle.vs_tables.specs.Rows.{TableRows, is_table_named, table_rows}

-- the first table of the name stands at this place
record IsFirst (c : Change) (ts : List TableRows) (i : ℕ) (t : TableRows) : Type 0 where
  within : i < length ts
  named : is_table_named c.table (slice_index_or ts i t) ≡ true
  before : (k : ℕ) → k < i → is_table_named c.table (slice_index_or ts k t) ≡ false

behind : (c : Change) (u : TableRows) (ts : List TableRows) (i : ℕ) (t : TableRows) → IsFirst c (u ∷ ts) (suc i) t → IsFirst c ts i t
behind c u ts i t first = record {
  within = let h = first.within in omega arith;
  named = first.named;
  before = λ k h. first.before (suc k) (omega arith);
}

changed : (c : Change) (ts : List TableRows) (i : ℕ) (t new : TableRows) → IsFirst c ts i t → new ≡ table_after (slice_index_or ts i t) c →
    slice_set ts i new ≡ tables_after_one ts c
changed c [] i t new first is = absurd (let h = first.within in omega arith)
changed c (u ∷ ts) zero t new first is =
    ap (λ x. x ∷ ts) is ∙ ap (λ b. cond b (table_after u c ∷ ts) (u ∷ tables_after_one ts c)) (sym first.named)
changed c (u ∷ ts) (suc i) t new first is =
    ap (λ l. u ∷ l) (changed c ts i t new (behind c u ts i t first) is)
    ∙ ap (λ b. cond b (table_after u c ∷ ts) (u ∷ tables_after_one ts c)) (sym (first.before 0 (omega arith)))

found : (c : Change) (ts : List TableRows) (i : ℕ) (t : TableRows) → IsFirst c ts i t → table_rows ts c.table ≡ Some (slice_index_or ts i t)
found c [] i t first = absurd (let h = first.within in omega arith)
found c (u ∷ ts) zero t first = ap (λ b. cond b (Some u) (table_rows ts c.table)) first.named
found c (u ∷ ts) (suc i) t first =
    ap (λ b. cond b (Some u) (table_rows ts c.table)) (first.before 0 (omega arith)) ∙ found c ts i t (behind c u ts i t first)

first_at : (c : Change) (ts : List TableRows) (i : ℕ) (t : TableRows) → Some i ≡ position (is_table_named c.table) ts → IsFirst c ts i t
first_at c ts i t is =
    let all = position-Some (is_table_named c.table) ts i t (sym is) in
    record { within = all.0; named = all.1; before = all.2 }

pub set_at : (c : Change) (ts : List TableRows) (i : ℕ) (old new : TableRows) → Some i ≡ position (is_table_named c.table) ts → old ≡ slice_index_or ts i old →
    new ≡ table_after old c → slice_set ts i new ≡ tables_after_one ts c
set_at c ts i old new is there after = changed c ts i old new (first_at c ts i old is) (after ∙ ap (λ t. table_after t c) there)

pub fault_at : (c : Change) (ts : List TableRows) (i : ℕ) (old : TableRows) → Some i ≡ position (is_table_named c.table) ts → old ≡ slice_index_or ts i old →
    fault_of_change old c ≡ change_fault_in ts c
fault_at c ts i old is there =
    ap (λ t. fault_of_change t c) there ∙ sym (ap (option_and_then (λ t. fault_of_change t c)) (found c ts i old (first_at c ts i old is)))

module _ (c : Change) where
  abbrev place_from : ℕ → List TableRows → Option ℕ
  place_from i ts = position_from (is_table_named c.table) i ts

  -- no table has the name
  none_from : (i : ℕ) (ts : List TableRows) → place_from i ts ≡ None → (tables_after_one ts c ≡ ts) × (table_rows ts c.table ≡ None)
  none_from i [] is = (refl, refl)
  none_from i (t ∷ ts) is = go (is_table_named c.table t) is (none_from (i + 1) ts)
    where
      go : (b : Bool) → cond b (Some i) (place_from (i + 1) ts) ≡ None → (place_from (i + 1) ts ≡ None → (tables_after_one ts c ≡ ts) × (table_rows ts c.table ≡ None)) →
          (cond b (table_after t c ∷ ts) (t ∷ tables_after_one ts c) ≡ t ∷ ts) × (cond b (Some t) (table_rows ts c.table) ≡ None)
      go true e rest = absurd (cc)
      go false e rest = (ap (λ l. t ∷ l) (rest e).0, (rest e).1)

  none_at : (ts : List TableRows) → None ≡ position (is_table_named c.table) ts → (tables_after_one ts c ≡ ts) × (table_rows ts c.table ≡ None)
  none_at ts is = none_from 0 ts (sym (is ∙ position_from-zero (is_table_named c.table) ts))

  pub unchanged : (ts : List TableRows) → None ≡ position (is_table_named c.table) ts → ts ≡ tables_after_one ts c
  unchanged ts is = sym (none_at ts is).0

  pub no_fault : (ts : List TableRows) → None ≡ position (is_table_named c.table) ts → change_fault_in ts c ≡ None
  no_fault ts is = ap (option_and_then (λ t. fault_of_change t c)) (none_at ts is).1

-- a change that doesn't fit is the first that doesn't
pub tells_first : (why rest : Option (List ℕ × RowFault)) (refusal : TableRefusal) → RefusalTells why refusal → RefusalTells (option_or why rest) refusal
tells_first (Some w) rest refusal h = h
tells_first None rest (TableRefusal.MissingRow table) h = absurd (cc)
tells_first None rest (TableRefusal.DoubleRow table) h = absurd (cc)
tells_first None rest (TableRefusal.KeyTooLong table) h = absurd (cc)
tells_first None rest TableRefusal.Memory h = tt
