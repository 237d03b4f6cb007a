-- A chunk of the first table that has rows left, and the limits of its last key.
use Rattle.std.proofs.Common.{◌≡◌, ℕ, suc, ◌≤◌, Bool, true, false, cond, nat_eq, nat_le, List, [], ◌∷◌, map, length, Option, Some, None, IfSome, filter, filter_map, find, option_map, ap, sym, ◌∙◌, subst, arith}
use Rattle.std.specs.Option.{option_map_or}
use Rattle.std.specs.List.{AllByRecursion, cons_option, last_or}
use Rattle.std.specs.Ordering.{nat_cmp}
use Rattle.std.specs.Cmp.Lexicographic.{pointwise, slice_cmp}
use Rattle.std.specs.declared.cmp.Ordering.{Ordering}
use Rattle.std.specs.declared.cmp.Ordering.TheVariants.{Less, Equal, Greater}
use Rattle.std.proofs.lemmas.Bool.{le-leb, leb-true}
use Rattle.vs_base.specs.declared.change.Change.{Change}
use Rattle.vs_base.specs.declared.change.LastKey.{LastKey}
use Rattle.vs_base.specs.Cells.{FitsKey, row_size}
use Rattle.vs_base.specs.Keys.{project}
use Rattle.vs_select.specs.Rows.{taken_row}
use Rattle.vs_model.specs.Copy.{chunk_of}
use Rattle.vs_tables.specs.Parts.{fits_limits}
use Rattle.vs_tables.specs.Rows.{AreLawfulRows, TableRows, is_row_behind, rows_behind, table_rows}
use Rattle.vs_copy.specs.Copying.{CopyState, HasApplied, copied_in}
use Rattle.vs_copy.specs.CopiedTables.{AreKeyed, IsKeyed}
use Rattle.vs_copy.specs.Chunks.{HasNext, IsChunkOf, listed, next_in, rows_left, rows_left_by, rows_left_of, told_left, told_row}
use Rattle.vs_copy.specs.declared.chunk.ChunkRows.{ChunkRows}
use Rattle.vs_copy.specs.declared.copied.CopiedTable.{CopiedTable}
use Rattle.vs_copy.proofs.KeyLemmas.{both}
use Rattle.vs_copy.proofs.RowLemmas.{Row}
use Rattle.vs_copy.proofs.TableLemmas.{same_text}
use Rattle.vs_copy.proofs.KeyedLemmas.{found}
use Rattle.vs_copy.proofs.NextLemmas.{table, table_is}
use Rattle.vs_copy.proofs.ChunkLemmas.{Told, chunk_each, last_has}

-- ---- the limits of the last key

filter_each : (P : Row → Type 0) (test : Row → Bool) (rows : List Row) → AllByRecursion P rows → AllByRecursion P (filter test rows)
filter_each P test [] all = tt
filter_each P test (row ∷ rows) all = go (test row) (filter_each P test rows all.1)
  where
    go : (b : Bool) → AllByRecursion P (filter test rows) → AllByRecursion P (cond b (row ∷ filter test rows) (filter test rows))
    go true on = (all.0, on)
    go false on = on

left_each : (P : Row → Type 0) (tables : List TableRows) (name : List ℕ) (t : TableRows) → table_rows tables name ≡ Some t → AllByRecursion P t.rows →
    (l : Option LastKey) → AllByRecursion P (rows_left_of tables name l)
left_each P tables name t is all None = subst (λ (o : Option TableRows). AllByRecursion P (listed (option_map (λ x. rows_behind x None) o))) (sym is) all
left_each P tables name t is all (Some l) = go (slice_cmp nat_cmp name l.table)
  where
    go : (q : Ordering) → AllByRecursion P (rows_left_by tables name l q)
    go Less = tt
    go Equal =
        subst (λ (o : Option TableRows). AllByRecursion P (listed (option_map (λ x. rows_behind x (Some l.key)) o))) (sym is)
        (filter_each P (is_row_behind t l.key) t.rows all)
    go Greater = subst (λ (o : Option TableRows). AllByRecursion P (listed (option_map (λ x. rows_behind x None) o))) (sym is) all

told_each : (P : Row → Type 0) (u : CopiedTable) (rows : List Row) → AllByRecursion (λ row. P (project u.table.key row)) rows →
    AllByRecursion (λ (told : Told). P told.0) (filter_map (told_row u) rows)
told_each P u [] all = tt
told_each P u (row ∷ rows) all = go (taken_row u.picked.select row) (told_each P u rows all.1)
  where
    go : (told : Option Row) → AllByRecursion (λ (t : Told). P t.0) (filter_map (told_row u) rows) →
        AllByRecursion (λ (t : Told). P t.0) (cons_option (option_map (λ t. (project u.table.key row, t)) told) (filter_map (told_row u) rows))
    go None on = on
    go (Some t) on = (all.0, on)

lawful_rows : (o : Option TableRows) (t : TableRows) → o ≡ Some t → IfSome o AreLawfulRows → AreLawfulRows t
lawful_rows o t is lawful = subst (λ x. IfSome x AreLawfulRows) is lawful

pub last_fits : (s : CopyState) (changes : List Change) (name : List ℕ) (u : CopiedTable) (key : Row) → HasApplied s changes → AreKeyed s.copied →
    copied_in s.copied name ≡ Some u → IfSome (table_rows s.applied.tables name) AreLawfulRows →
    last_or None (map (λ (row : Told). row.0) (chunk_of (filter_map (told_row u) (rows_left s name)))) ≡ Some key → FitsKey name key
last_fits s changes name u key applied keyed is lawful e =
    let there = found (λ t. pointwise nat_eq t.picked.name name) IsKeyed s.copied u keyed is in
    let t = table s changes applied keyed name u is in
    let t_is = table_is s changes applied keyed name u is in
    let rows = (lawful_rows (table_rows s.applied.tables name) t t_is lawful).fit in
    let fits = last_has (λ k. fits_limits k ≡ true) (map (λ (row : Told). row.0) (chunk_of (filter_map (told_row u) (rows_left s name)))) key
    (chunk_each (λ k. fits_limits k ≡ true) (filter_map (told_row u) (rows_left s name))
    (told_each (λ k. fits_limits k ≡ true) u (rows_left s name)
    (left_each (λ row. fits_limits (project u.table.key row) ≡ true) s.applied.tables name t t_is rows s.last))) e in
    let limits = both (nat_le (length key) 4096) (nat_le (row_size key) 3072) fits in
    let named : name ≡ u.table.name = sym (same_text u.picked.name name there.passes) ∙ there.has.named in
    (subst (λ (n : List ℕ). length n ≤ 64) (sym named) there.has.short, leb-true (length key) 4096 limits.0, leb-true (row_size key) 3072 limits.1)

-- ---- the first table

module _ (s : CopyState) where
  abbrev next_by : Bool → List ℕ → List (List ℕ) → Option (List ℕ × List Told)
  next_by b name names =
      option_map {T = List ℕ × List Told} (λ t. (t.0, chunk_of t.1))
      (cond b (Some (name, told_left s name)) (find (λ t. nat_le 1 (length t.1)) (map (λ n. (n, told_left s n)) names)))

  abbrev found_rows : List ℕ → List Told → Option (List ℕ × List Told)
  found_rows name rows = Some (name, rows)

  pub pass_table : (name : List ℕ) (names : List (List ℕ)) → told_left s name ≡ [] → next_in s (name ∷ names) ≡ next_in s names
  pass_table name names none = ap (λ b. next_by b name names) (ap (λ (rows : List Told). nat_le 1 (length rows)) none)

  some_rows : (rows : List Told) (key : Row) → last_or None (map (λ (row : Told). row.0) (chunk_of rows)) ≡ Some key → nat_le 1 (length rows) ≡ true
  some_rows [] key e = absurd (cc)
  some_rows (row ∷ rows) key e = le-leb 1 (suc (length rows)) (omega arith)

  pub take_table : (name : List ℕ) (names : List (List ℕ)) (chunk : ChunkRows) → IsChunkOf name (told_left s name) chunk → HasNext (next_in s (name ∷ names)) chunk
  take_table name names chunk is = record {
    front = chunk_of (told_left s name);
    next_is = ap (λ b. next_by b name names) (some_rows (told_left s name) chunk.last_key.key is.last)
        ∙ ap (λ (n : List ℕ). found_rows n (chunk_of (told_left s name))) (sym is.table);
    rows = is.rows_are;
    last = is.last;
    of_table = is.of_table ∙ sym is.table;
  }

-- ---- a chunk, by what was taken

pub told_is : (s : CopyState) (name : List ℕ) (u : CopiedTable) → copied_in s.copied name ≡ Some u → told_left s name ≡ filter_map (told_row u) (rows_left s name)
told_is s name u is = ap (λ o. option_map_or (λ t. filter_map (told_row t) (rows_left s name)) o []) is

pub told_none : (s : CopyState) (name : List ℕ) → copied_in s.copied name ≡ None → told_left s name ≡ []
told_none s name is = ap (λ o. option_map_or (λ t. filter_map (told_row t) (rows_left s name)) o []) is
