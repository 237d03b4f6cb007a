-- The tables of a copy by their names, after changes.
use Rattle.std.proofs.Common.{◌≡◌, ℕ, Bool, true, false, cond, nat_eq, List, [], ◌∷◌, map, Option, Some, None, filter, fold, refl, ap, sym, ◌∙◌, subst, true≢false}
use Rattle.std.specs.Ordering.{nat_cmp}
use Rattle.std.specs.FinMap.{nat_cmp-IsAntisymmetric, slice_cmp-IsAntisymmetric}
use Rattle.std.specs.Cmp.{Equal-is}
use Rattle.std.specs.Cmp.Lexicographic.{pointwise, slice_cmp, texts_ties}
use Rattle.vs_base.specs.declared.cell.Cell.{Cell}
use Rattle.vs_base.specs.declared.change.Change.{Change}
use Rattle.vs_base.specs.Keys.{key_order, project}
use Rattle.vs_tables.specs.Rows.{TableRows, no_rows, table_rows}
use Rattle.vs_tables.specs.Changes.{has_key, keyed_tables, table_after, tables_after, tables_after_one, with_come, with_gone}
use Rattle.vs_copy.specs.Copying.{copied_in}
use Rattle.vs_copy.specs.CopiedTables.{AreKeyed, IsKeyed}
use Rattle.vs_copy.specs.declared.copied.CopiedTable.{CopiedTable}
use Rattle.vs_copy.proofs.RowLemmas.{rows_after_change, rows_come, rows_gone}

-- texts that are found alike are one
pub same_text : (a b : List ℕ) → pointwise nat_eq a b ≡ true → a ≡ b
same_text a b e = slice_cmp-IsAntisymmetric nat_cmp-IsAntisymmetric a b ((Equal-is (slice_cmp nat_cmp a b)).0 (sym (texts_ties a b) ∙ e))

-- ---- a table after changes

after_name : (t : TableRows) (c : Change) → (table_after t c).name ≡ t.name
after_name t c = go c.before c.after
  where
    go : (before after : Option (List Cell)) → (with_come (with_gone t before) after).name ≡ t.name
    go None None = refl
    go None (Some a) = refl
    go (Some b) None = refl
    go (Some b) (Some a) = refl

after_rows : (t : TableRows) (c : Change) →
    table_after t c ≡ record t { rows = rows_come (key_order t.kinds) (project t.places) c.after (rows_gone (key_order t.kinds) (project t.places) c.before t.rows) }
after_rows t c = go c.before c.after
  where
    go : (before after : Option (List Cell)) → with_come (with_gone t before) after
        ≡ record t { rows = rows_come (key_order t.kinds) (project t.places) after (rows_gone (key_order t.kinds) (project t.places) before t.rows) }
    go None None = refl
    go None (Some a) = refl
    go (Some b) None = refl
    go (Some b) (Some a) = refl

abbrev after_if : Bool → TableRows → Change → TableRows
after_if b t c = record t { rows = cond b (rows_come (key_order t.kinds) (project t.places) c.after (rows_gone (key_order t.kinds) (project t.places) c.before t.rows)) t.rows }

module _ (name : List ℕ) where
  abbrev is_named : List ℕ → Bool
  is_named other = pointwise nat_eq other name

  -- the first table of the name after a change
  after_one : (ts : List TableRows) (c : Change) (t : TableRows) → table_rows ts name ≡ Some t →
      table_rows (tables_after_one ts c) name ≡ Some (after_if (pointwise nat_eq c.table name) t c)
  after_one [] c t is = absurd (cc)
  after_one (u ∷ us) c t is = go (pointwise nat_eq u.name c.table) (is_named u.name) refl refl is (after_one us c t)
    where
      found_head : (v : TableRows) (rest : List TableRows) → v.name ≡ u.name → is_named u.name ≡ true → table_rows (v ∷ rest) name ≡ Some v
      found_head v rest same e = ap (λ b. cond b (Some v) (table_rows rest name)) (ap is_named same ∙ e)

      passed_head : (v : TableRows) (rest : List TableRows) → v.name ≡ u.name → is_named u.name ≡ false → table_rows (v ∷ rest) name ≡ table_rows rest name
      passed_head v rest same e = ap (λ b. cond b (Some v) (table_rows rest name)) (ap is_named same ∙ e)

      same_head : Some u ≡ Some t → u ≡ t
      same_head e = cc

      of_named : is_named u.name ≡ true → Some u ≡ Some t → (b : Bool) → pointwise nat_eq u.name c.table ≡ b → pointwise nat_eq c.table name ≡ b
      of_named e f true g = ap is_named (sym (same_text u.name c.table g)) ∙ e
      of_named e f false g = by (pointwise nat_eq c.table name) refl
        where
          by : (b : Bool) → pointwise nat_eq c.table name ≡ b → b ≡ false
          by false h = refl
          by true h = absurd (true≢false (sym (ap (pointwise nat_eq u.name) (same_text c.table name h) ∙ e) ∙ g))

      go : (p q : Bool) → pointwise nat_eq u.name c.table ≡ p → is_named u.name ≡ q → cond q (Some u) (table_rows us name) ≡ Some t →
          (table_rows us name ≡ Some t → table_rows (tables_after_one us c) name ≡ Some (after_if (pointwise nat_eq c.table name) t c)) →
          table_rows (cond p (table_after u c ∷ us) (u ∷ tables_after_one us c)) name ≡ Some (after_if (pointwise nat_eq c.table name) t c)
      go true true e f g on =
          found_head (table_after u c) us (after_name u c) f
          ∙ ap Some (ap (λ x. table_after x c) (same_head g) ∙ after_rows t c
          ∙ ap (λ b. after_if b t c) (sym (of_named f g true e)))
      go false true e f g on =
          found_head u (tables_after_one us c) refl f
          ∙ ap Some (same_head g ∙ ap (λ b. after_if b t c) (sym (of_named f g false e)))
      go true false e f g on =
          passed_head (table_after u c) us (after_name u c) f ∙ g
          ∙ ap (λ b. Some (after_if b t c)) (sym (ap is_named (sym (same_text u.name c.table e)) ∙ f))
      go false false e f g on = passed_head u (tables_after_one us c) refl f ∙ on g

  abbrev rows_with : TableRows → List Change → List (List Cell)
  rows_with t changes = fold (rows_after_change (key_order t.kinds) (project t.places) name) t.rows changes

  pub after_all : (changes : List Change) (ts : List TableRows) (t : TableRows) → table_rows ts name ≡ Some t →
      table_rows (tables_after ts changes) name ≡ Some (record t { rows = rows_with t changes })
  after_all [] ts t is = is
  after_all (c ∷ changes) ts t is =
      after_all changes (tables_after_one ts c) (after_if (pointwise nat_eq c.table name) t c) (after_one ts c t is)
      ∙ ap (λ b. Some (record t {
        rows = fold (rows_after_change (key_order t.kinds) (project t.places) name)
            (cond b (rows_come (key_order t.kinds) (project t.places) c.after (rows_gone (key_order t.kinds) (project t.places) c.before t.rows)) t.rows) changes;
      }))
      (texts_ties c.table name)

  -- ---- before the first change

  pub keyed_at : (copied : List CopiedTable) (u : CopiedTable) → AreKeyed copied → copied_in copied name ≡ Some u →
      (table_rows (keyed_tables (map (λ t. t.table) copied)) name ≡ Some (no_rows u.table)) × IsKeyed u
  keyed_at [] u all is = absurd (cc)
  keyed_at (v ∷ vs) u all is =
      go (is_named v.picked.name) refl is (keyed_at vs u all.1)
    where
      kept : keyed_tables (map (λ t. t.table) (v ∷ vs)) ≡ no_rows v.table ∷ keyed_tables (map (λ t. t.table) vs)
      kept = ap (λ b. map no_rows (cond b (v.table ∷ filter has_key (map (λ t. t.table) vs)) (filter has_key (map (λ t. t.table) vs)))) all.0.keyed

      go : (b : Bool) → is_named v.picked.name ≡ b → cond b (Some v) (copied_in vs name) ≡ Some u →
          (copied_in vs name ≡ Some u → (table_rows (keyed_tables (map (λ t. t.table) vs)) name ≡ Some (no_rows u.table)) × IsKeyed u) →
          (table_rows (keyed_tables (map (λ t. t.table) (v ∷ vs))) name ≡ Some (no_rows u.table)) × IsKeyed u
      go true e f on =
          let same : v ≡ u = cc in (
            ap (λ ts. table_rows ts name) kept
                ∙ ap (λ b. cond b (Some (no_rows v.table)) (table_rows (keyed_tables (map (λ t. t.table) vs)) name)) (ap is_named (sym all.0.named) ∙ e)
                ∙ ap (λ x. Some (no_rows x.table)) same,
            subst IsKeyed same all.0,
          )
      go false e f on = (
        ap (λ ts. table_rows ts name) kept
            ∙ ap (λ b. cond b (Some (no_rows v.table)) (table_rows (keyed_tables (map (λ t. t.table) vs)) name)) (ap is_named (sym all.0.named) ∙ e)
            ∙ (on f).0,
        (on f).1,
      )
