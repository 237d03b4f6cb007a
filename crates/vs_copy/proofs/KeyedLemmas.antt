-- Of a schema that was read, each copied table is keyed.
use Rattle.std.proofs.Common.{◌≡◌, ℕ, suc, ◌==◌, Bool, true, false, not, cond, nat_eq, nat_le, List, [], ◌∷◌, length, Option, Some, None, filter_map, find, option_map, refl, ap, sym, ◌∙◌, subst}
use Rattle.std.specs.Option.{option_map_or}
use Rattle.std.specs.List.{AllByRecursion, cons_option, list_all, list_any, slice_get}
use Rattle.std.specs.Cmp.Lexicographic.{pointwise}
use Rattle.std.proofs.lemmas.Bool.{leb-true}
use Rattle.vs_base.specs.declared.table.Table.{Table}
use Rattle.vs_base.specs.declared.table.Column.{Column}
use Rattle.vs_base.specs.Keys.{key_kinds}
use Rattle.vs_schema.specs.Rules.{may_be_keyed}
use Rattle.vs_schema.specs.Laws.{IsWhole}
use Rattle.vs_filter.specs.Rules.{table_in}
use Rattle.vs_filter.specs.declared.bound.Picked.{Picked}
use Rattle.vs_copy.specs.Copying.{copied_as, copied_of, has_kept_key, is_key_kept, keyless_in}
use Rattle.vs_copy.specs.CopiedTables.{AreKeyed}
use Rattle.vs_copy.specs.declared.copied.CopiedTable.{CopiedTable}
use Rattle.vs_copy.proofs.KeyLemmas.{both}
use Rattle.vs_copy.proofs.TableLemmas.{same_text}

-- what is found has what all have, and passes
pub record IsFound {X : Type 0} (test : X → Bool) (P : X → Type 0) (x : X) : Type 0 where
  pub passes : test x ≡ true
  pub has : P x

pub found : {X : Type 0} (test : X → Bool) (P : X → Type 0) (xs : List X) (x : X) → AllByRecursion P xs → find test xs ≡ Some x → IsFound test P x
found test P [] x all is = absurd (cc)
found {X} test P (y ∷ ys) x all is = go (test y) refl is (found test P ys x all.1)
  where
    go : (b : Bool) → test y ≡ b → cond b (Some y) (find test ys) ≡ Some x → (find test ys ≡ Some x → IsFound test P x) → IsFound test P x
    go true e f on =
        let same : y ≡ x = cc in
        record { passes = ap test (sym same) ∙ e; has = subst P same all.0 }
    go false e f on = on f

all_kinds : (columns : List Column) (key : List ℕ) → AllByRecursion (λ place. may_be_keyed (slice_get columns place) ≡ true) key →
    length (filter_map (λ i. option_map (λ (c : Column). c.kind) (slice_get columns i)) key) ≡ length key
all_kinds columns [] h = refl
all_kinds columns (i ∷ key) h = go (slice_get columns i) h.0 (all_kinds columns key h.1)
  where
    go : (column : Option Column) → may_be_keyed column ≡ true → length (filter_map (λ j. option_map (λ (c : Column). c.kind) (slice_get columns j)) key) ≡ length key →
        length (cons_option (option_map (λ (c : Column). c.kind) column) (filter_map (λ j. option_map (λ (c : Column). c.kind) (slice_get columns j)) key)) ≡ suc (length key)
    go None e on = absurd (cc)
    go (Some c) e on = ap suc on

one_keyed : (schema : List Table) (p : Picked) → AllByRecursion IsWhole schema → has_kept_key schema p ≡ true → (rest : List CopiedTable) → AreKeyed rest →
    AreKeyed (cons_option (copied_as schema p) rest)
one_keyed schema p whole kept rest all = go (table_in schema p.name) refl kept
  where
    go : (table : Option Table) → table_in schema p.name ≡ table → option_map_or (λ t. is_key_kept p.select.columns t.key) table false ≡ true →
        AreKeyed (cons_option (option_map (λ t. record { picked = p; table = t; kinds = key_kinds t }) table) rest)
    go None is e = all
    go (Some t) is e =
        let there = found (λ x. pointwise nat_eq x.name p.name) IsWhole schema t whole is in
        let name_is = both (nat_le 1 (length t.name)) (nat_le (length t.name) 64) there.has.sound.named in (
          record {
            named = sym (same_text t.name p.name there.passes);
            short = leb-true (length t.name) 64 name_is.1;
            keyed = (both (nat_le 1 (length t.key)) (list_all (λ place. list_any (λ column. column == place) p.select.columns) t.key) e).0;
            kinds = refl;
            whole = all_kinds t.columns t.key there.has.sound.key.each;
          },
          all,
        )

pub are_keyed : (schema : List Table) (picked : List Picked) → AllByRecursion IsWhole schema → keyless_in schema picked ≡ None → AreKeyed (copied_of schema picked)
are_keyed schema [] whole is = tt
are_keyed schema (p ∷ picked) whole is = go (are_keyed schema picked whole) (has_kept_key schema p) refl is
  where
    go : (keyless_in schema picked ≡ None → AreKeyed (copied_of schema picked)) → (b : Bool) → has_kept_key schema p ≡ b →
        cond (not b) (Some p) (keyless_in schema picked) ≡ None → AreKeyed (copied_of schema (p ∷ picked))
    go on true e f = one_keyed schema p whole e (copied_of schema picked) (on f)
    go on false e f = absurd (cc)
