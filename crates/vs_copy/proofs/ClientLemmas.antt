-- A client can tell the keys of the rows of a copy.
use Rattle.std.proofs.Common.{◌≡◌, ℕ, ◌+◌, ◌==◌, Bool, true, false, not, cond, ◌||◌, nat_eq, nat_le, List, [], ◌∷◌, length, Option, Some, None, IsSome, refl, ap, sym, ◌∙◌}
use Rattle.std.specs.Option.{option_map_or}
use Rattle.std.specs.List.{AllByRecursion, list_all, list_any, position_from}
use Rattle.std.specs.Cmp.Lexicographic.{pointwise}
use Rattle.vs_base.specs.declared.table.Table.{Table}
use Rattle.vs_base.specs.Keys.{key_kinds}
use Rattle.vs_filter.specs.Rules.{table_in}
use Rattle.vs_filter.specs.Keys.{HasKey, KeyIsTaken, KeysAreTaken}
use Rattle.vs_filter.specs.Picks.{picked_in}
use Rattle.vs_filter.specs.declared.bound.Picked.{Picked}
use Rattle.vs_filter.proofs.KeyLemmas.{keys_stay}
use Rattle.vs_filter.proofs.OrderLemmas.{key_total}
use Rattle.vs_copy.specs.Copying.{has_kept_key, is_key_kept, keyless_in}
use Rattle.vs_copy.specs.Laws.{KeysAreTold}
use Rattle.vs_copy.proofs.KeyLemmas.{both}
use Rattle.vs_copy.proofs.TableLemmas.{same_text}
use Rattle.vs_copy.proofs.KeyedLemmas.{found}

some_place : (i n : ℕ) (columns : List ℕ) → list_any (λ column. column == i) columns ≡ true → IsSome (position_from (λ c. c == i) n columns)
some_place i n [] e = absurd (cc)
some_place i n (c ∷ columns) e = go (some_place i (n + 1) columns) (c == i) e
  where
    go : (list_any (λ column. column == i) columns ≡ true → IsSome (position_from (λ x. x == i) (n + 1) columns)) →
        (b : Bool) → (b || list_any (λ column. column == i) columns) ≡ true → IsSome (cond b (Some n) (position_from (λ x. x == i) (n + 1) columns))
    go on true f = refl
    go on false f = on f

all_places : (columns key : List ℕ) → list_all (λ place. list_any (λ column. column == place) columns) key ≡ true → HasKey columns key
all_places columns [] e = tt
all_places columns (i ∷ key) e =
    let parts = both (list_any (λ column. column == i) columns) (list_all (λ place. list_any (λ column. column == place) columns) key) e in
    (some_place i 0 columns parts.0, all_places columns key parts.1)

module _ (schema : List Table) where
  all_kept : (picked : List Picked) → keyless_in schema picked ≡ None → AllByRecursion (λ p. has_kept_key schema p ≡ true) picked
  all_kept [] is = tt
  all_kept (p ∷ picked) is = go (all_kept picked) (has_kept_key schema p) refl is
    where
      go : (keyless_in schema picked ≡ None → AllByRecursion (λ q. has_kept_key schema q ≡ true) picked) → (b : Bool) → has_kept_key schema p ≡ b →
          cond (not b) (Some p) (keyless_in schema picked) ≡ None →
          (has_kept_key schema p ≡ true) × AllByRecursion (λ q. has_kept_key schema q ≡ true) picked
      go on true e f = (e, on f)
      go on false e f = absurd (cc)

  taken_at : (p : Picked) (table : Option Table) → option_map_or (λ t. is_key_kept p.select.columns t.key) table false ≡ true → KeyIsTaken (Some p) table
  taken_at p None e = tt
  taken_at p (Some t) e =
      all_places p.select.columns t.key
      (both (nat_le 1 (length t.key)) (list_all (λ place. list_any (λ column. column == place) p.select.columns) t.key) e).1

  taken : (picked : List Picked) → keyless_in schema picked ≡ None → KeysAreTaken picked schema
  taken picked is name = go (picked_in picked name) refl
    where
      go : (o : Option Picked) → picked_in picked name ≡ o → KeyIsTaken o (table_in schema name)
      go None e = tt
      go (Some p) e =
          let there = found (λ q. pointwise nat_eq q.name name) (λ q. has_kept_key schema q ≡ true) picked p (all_kept picked is) e in
          taken_at p (table_in schema name)
          (ap (λ n. option_map_or (λ t. is_key_kept p.select.columns t.key) (table_in schema n) false) (sym (same_text p.name name there.passes)) ∙ there.has)

pub keys_are_told : KeysAreTold
keys_are_told schema picked is = record {
  keeps = λ table row _. keys_stay (picked_in picked table) (table_in schema table) row (taken schema picked is table);
  ordered = λ ascend. record { tables = ascend; keys = λ table _. key_total (option_map_or key_kinds (table_in schema table) []) };
}
