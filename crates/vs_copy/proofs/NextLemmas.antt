-- The rows that a copy tells next are those of the definitions.
use Rattle.std.proofs.Common.{◌≡◌, ℕ, Bool, true, false, cond, List, [], ◌∷◌, map, length, Option, Some, None, IfSome, filter, filter_map, find, fold, nat_le, option_map, option_and_then, refl, ap, ap₂, sym, ◌∙◌}
use Rattle.std.specs.Option.{option_map_or}
use Rattle.std.proofs.Math.Path.{fun_ext}
use Rattle.std.specs.List.{AllByRecursion, cons_option}
use Rattle.std.specs.Ordering.{is_gt, is_lt, nat_cmp, ordering_reverse}
use Rattle.std.specs.Cmp.{IsTotalOrder}
use Rattle.std.specs.Cmp.Lexicographic.{slice_cmp}
use Rattle.std.specs.declared.cmp.Ordering.{Ordering}
use Rattle.std.specs.declared.cmp.Ordering.TheVariants.{Less, Equal, Greater}
use Rattle.std.proofs.lemmas.List.{length-map}
use Rattle.vs_base.specs.declared.change.Change.{Change}
use Rattle.vs_base.specs.declared.change.LastKey.{LastKey}
use Rattle.vs_base.specs.Keys.{cell_at, key_kinds, key_order, project}
use Rattle.vs_base.specs.Picks.{Bound}
use Rattle.vs_select.specs.Rows.{taken_row}
use Rattle.vs_filter.proofs.OrderLemmas.{key_total}
use Rattle.vs_model.specs.Copy.{chunk_of, is_after, is_after_in, keys_of, next_rows, picked_rows, row_at}
use Rattle.vs_tables.specs.Rows.{TableRows, no_rows, rows_behind, table_rows}
use Rattle.vs_tables.specs.Changes.{Applied, keyed_tables}
use Rattle.vs_copy.specs.Copying.{CopyState, HasApplied, copied_bound, copied_in}
use Rattle.vs_copy.specs.CopiedTables.{AreKeyed, IsKeyed}
use Rattle.vs_copy.specs.Chunks.{listed, next_in, rows_left, rows_left_by, rows_left_of, told_left, told_row}
use Rattle.vs_copy.specs.declared.copied.CopiedTable.{CopiedTable}
use Rattle.vs_copy.proofs.KeyLemmas.{key_exact}
use Rattle.vs_copy.proofs.RowLemmas.{AreAt, Row, left_at, rows_after_change}
use Rattle.vs_copy.proofs.TableLemmas.{after_all, keyed_at}

abbrev pub Told : Type 0
Told = Row × Row

all_kept : (rows : List Row) → filter (λ _. true) rows ≡ rows
all_kept [] = refl
all_kept (row ∷ rows) = ap (λ l. row ∷ l) (all_kept rows)

none_kept : (rows : List Row) → filter (λ _. false) rows ≡ []
none_kept [] = refl
none_kept (row ∷ rows) = none_kept rows

turned : (q : Ordering) → is_gt (ordering_reverse q) ≡ is_lt q
turned Less = refl
turned Equal = refl
turned Greater = refl

-- where no row is picked there is none
abbrev pub with_key : Row → Option Row → Option Told
with_key key o = option_map (λ row. (key, row)) o

pub none_picked : (pick at : Row → Option Row) → ((row : Row) → pick row ≡ None) → (keys : List Row) →
    filter_map (λ key. with_key key (option_and_then pick (at key))) keys ≡ []
none_picked pick at none [] = refl
none_picked pick at none (key ∷ keys) = go (at key) ∙ none_picked pick at none keys
  where
    go : (row : Option Row) →
        cons_option (with_key key (option_and_then pick row)) (filter_map (λ k. with_key k (option_and_then pick (at k))) keys)
        ≡ filter_map (λ k. with_key k (option_and_then pick (at k))) keys
    go None = refl
    go (Some x) = ap (λ (o : Option Row). cons_option (with_key key o) (filter_map (λ k. with_key k (option_and_then pick (at k))) keys)) (none x)

-- a test of keys may be made before rows are picked, or after
module _ (u : CopiedTable) (test : Row → Bool) where
  test_first : (rows : List Row) → filter (λ (told : Told). test told.0) (filter_map (told_row u) rows) ≡ filter_map (told_row u) (filter (λ row. test (project u.table.key row)) rows)
  test_first [] = refl
  test_first (row ∷ rows) = go (test_first rows) (taken_row u.picked.select row) (test (project u.table.key row)) refl ∙ out (test (project u.table.key row))
    where
      go : filter (λ (t : Told). test t.0) (filter_map (told_row u) rows) ≡ filter_map (told_row u) (filter (λ r. test (project u.table.key r)) rows) →
          (told : Option Row) (b : Bool) → test (project u.table.key row) ≡ b →
          filter (λ (t : Told). test t.0) (cons_option (with_key (project u.table.key row) told) (filter_map (told_row u) rows))
          ≡ cond b (cons_option (with_key (project u.table.key row) told) (filter_map (told_row u) (filter (λ r. test (project u.table.key r)) rows)))
          (filter_map (told_row u) (filter (λ r. test (project u.table.key r)) rows))
      go e None true f = e
      go e None false f = e
      go e (Some t) true f =
          ap (λ x. cond x ((project u.table.key row, t) ∷ filter (λ (y : Told). test y.0) (filter_map (told_row u) rows)) (filter (λ (y : Told). test y.0) (filter_map (told_row u) rows))) f
          ∙ ap (λ (l : List Told). (project u.table.key row, t) ∷ l) e
      go e (Some t) false f =
          ap (λ x. cond x ((project u.table.key row, t) ∷ filter (λ (y : Told). test y.0) (filter_map (told_row u) rows)) (filter (λ (y : Told). test y.0) (filter_map (told_row u) rows))) f
          ∙ e

      out : (b : Bool) → cond b (cons_option (told_row u row) (filter_map (told_row u) (filter (λ r. test (project u.table.key r)) rows)))
          (filter_map (told_row u) (filter (λ r. test (project u.table.key r)) rows))
          ≡ filter_map (told_row u) (cond b (row ∷ filter (λ r. test (project u.table.key r)) rows) (filter (λ r. test (project u.table.key r)) rows))
      out true = refl
      out false = refl

-- the rows that are left of a table
module _ (bound : Bound) (name : List ℕ) (tables : List TableRows) (t : TableRows) (is : table_rows tables name ≡ Some t)
    (order_is : bound.order name ≡ key_order t.kinds) where
  kept_by : (l : LastKey) (q : Ordering) → filter (λ row. is_after_in bound l name (project t.places row) q) t.rows ≡ rows_left_by tables name l q
  kept_by l Less = none_kept t.rows
  kept_by l Equal =
      ap (λ f. filter f t.rows) (fun_ext (λ row.
      ap (λ (R : Row → Row → Ordering). is_gt (R (project t.places row) l.key)) order_is
      ∙ ap is_gt ((key_total t.kinds).antisymm (project t.places row) l.key) ∙ turned (key_order t.kinds l.key (project t.places row))))
      ∙ sym (ap (λ o. listed (option_map (λ x. rows_behind x (Some l.key)) o)) is)
  kept_by l Greater = all_kept t.rows ∙ sym (ap (λ o. listed (option_map (λ x. rows_behind x None) o)) is)

  kept : (l : Option LastKey) → filter (λ row. is_after bound l name (project t.places row)) t.rows ≡ rows_left_of tables name l
  kept None = all_kept t.rows ∙ sym (ap (λ o. listed (option_map (λ x. rows_behind x None) o)) is)
  kept (Some l) = kept_by l (slice_cmp nat_cmp name l.table)

module _ (s : CopyState) (changes : List Change) (applied : HasApplied s changes) (keyed : AreKeyed s.copied) (name : List ℕ) where
  abbrev bound : Bound
  bound = copied_bound s.copied

  total : IsTotalOrder (bound.order name)
  total = key_total (option_map_or (λ (t : CopiedTable). t.kinds) (copied_in s.copied name) [])

  module _ (u : CopiedTable) (is : copied_in s.copied name ≡ Some u) where
    abbrev pub changed_rows : List Row
    changed_rows = fold (rows_after_change (key_order (key_kinds u.table)) (project u.table.key) name) [] changes

    abbrev pub table : TableRows
    table = record (no_rows u.table) { rows = changed_rows }

    own : IsKeyed u
    own = (keyed_at name s.copied u keyed is).1

    pub table_is : table_rows s.applied.tables name ≡ Some table
    table_is =
        ap (λ (a : Applied). table_rows a.tables name) applied
        ∙ after_all name changes (keyed_tables (map (λ t. t.table) s.copied)) (no_rows u.table) (keyed_at name s.copied u keyed is).0

    order_is : bound.order name ≡ key_order (key_kinds u.table)
    order_is =
        ap (λ (o : Option CopiedTable). λ a b. key_order (option_map_or (λ t. t.kinds) o []) a b) is ∙ ap (λ k. key_order k) own.kinds

    key_is : bound.key name ≡ project u.table.key
    key_is = ap (λ (o : Option CopiedTable). λ row. option_map_or (λ t. project t.table.key row) o []) is

    row_is : (row : Row) → bound.row name row ≡ taken_row u.picked.select row
    row_is row = ap (option_and_then (λ (t : CopiedTable). taken_row t.picked.select row)) is

    abbrev HasSize : Row → Type 0
    HasSize key = length key ≡ length u.table.key

    sized : (row : Row) → HasSize (bound.key name row)
    sized row = ap (λ (f : Row → Row). length (f row)) key_is ∙ length-map u.table.key (cell_at row)

    at : AreAt (bound.order name) (bound.key name) HasSize (fold (rows_after_change (bound.order name) (bound.key name) name) [] changes)
        (row_at bound changes name) (keys_of bound changes name)
    at = left_at bound name total HasSize sized changes

    rows_are : changed_rows ≡ filter_map (row_at bound changes name) (keys_of bound changes name)
    rows_are =
        ap₂ (λ (R : Row → Row → Ordering) (K : Row → Row). fold (rows_after_change R K name) [] changes) (sym order_is) (sym key_is) ∙ at.are

    exact : (key row : Row) → HasSize key → bound.order name (bound.key name row) key ≡ Equal → key ≡ project u.table.key row
    exact key row size e =
        let whole = own.whole in
        key_exact (key_kinds u.table) key (project u.table.key row) (size ∙ sym whole) (length-map u.table.key (cell_at row) ∙ sym whole)
        (turned_equal key (project u.table.key row)
        (sym (ap₂ (λ (R : Row → Row → Ordering) (k : Row). R k key) order_is (ap (λ (f : Row → Row). f row) key_is)) ∙ e))
      where
        turned_equal : (a b : Row) → key_order (key_kinds u.table) b a ≡ Equal → key_order (key_kinds u.table) a b ≡ Equal
        turned_equal a b f = (key_total (key_kinds u.table)).antisymm a b ∙ ap ordering_reverse f

    told_at : (keys : List Row) → AllByRecursion HasSize keys →
        filter_map (λ key. with_key key (option_and_then (bound.row name) (row_at bound changes name key))) keys
        ≡ filter_map (told_row u) (filter_map (row_at bound changes name) keys)
    told_at [] sizes = refl
    told_at (key ∷ keys) sizes = go (row_at bound changes name key) (at.own key) (told_at keys sizes.1)
      where
        go : (row : Option Row) → IfSome row (λ x. bound.order name (bound.key name x) key ≡ Equal) →
            filter_map (λ k. with_key k (option_and_then (bound.row name) (row_at bound changes name k))) keys
            ≡ filter_map (told_row u) (filter_map (row_at bound changes name) keys) →
            cons_option (with_key key (option_and_then (bound.row name) row))
            (filter_map (λ k. with_key k (option_and_then (bound.row name) (row_at bound changes name k))) keys)
            ≡ filter_map (told_row u) (cons_option row (filter_map (row_at bound changes name) keys))
        go None h e = e
        go (Some x) h e =
            ap₂ (λ (o : Option Told) (l : List Told). cons_option o l)
            (ap₂ (λ (k : Row) (o : Option Row). with_key k o) (exact key x sizes.0 h) (row_is x)) e

    picked_is : picked_rows bound changes name ≡ filter_map (told_row u) changed_rows
    picked_is = told_at (keys_of bound changes name) at.each ∙ ap (filter_map (told_row u)) (sym rows_are)

    left_some : told_left s name ≡ filter (λ (row : Told). is_after bound s.last name row.0) (picked_rows bound changes name)
    left_some =
        ap (λ o. option_map_or (λ t. filter_map (told_row t) (rows_left s name)) o []) is
        ∙ ap (filter_map (told_row u)) (sym (kept bound name s.applied.tables table table_is order_is s.last))
        ∙ sym (test_first u (is_after bound s.last name) changed_rows)
        ∙ ap (filter (λ (row : Told). is_after bound s.last name row.0)) (sym picked_is)

  left_none : copied_in s.copied name ≡ None → told_left s name ≡ filter (λ (row : Told). is_after bound s.last name row.0) (picked_rows bound changes name)
  left_none is =
      ap (λ o. option_map_or (λ t. filter_map (told_row t) (rows_left s name)) o []) is
      ∙ sym (ap (filter (λ (row : Told). is_after bound s.last name row.0))
      (none_picked (bound.row name) (row_at bound changes name) (λ row. ap (option_and_then (λ (t : CopiedTable). taken_row t.picked.select row)) is) (keys_of bound changes name)))

  pub left_is : told_left s name ≡ filter (λ (row : Told). is_after bound s.last name row.0) (picked_rows bound changes name)
  left_is = go (copied_in s.copied name) refl
    where
      go : (o : Option CopiedTable) → copied_in s.copied name ≡ o →
          told_left s name ≡ filter (λ (row : Told). is_after bound s.last name row.0) (picked_rows bound changes name)
      go None is = left_none is
      go (Some u) is = left_some u is

-- the rows that come next
pub next_is : (s : CopyState) (changes : List Change) → HasApplied s changes → AreKeyed s.copied →
    next_in s (map (λ t. t.picked.name) s.copied) ≡ next_rows (copied_bound s.copied) changes s.last
next_is s changes applied keyed =
    ap (λ (f : List ℕ → List Told). option_map {T = List ℕ × List Told} (λ t. (t.0, chunk_of t.1))
    (find (λ t. nat_le 1 (length t.1)) (map (λ name. (name, f name)) (map (λ t. t.picked.name) s.copied))))
    (fun_ext (left_is s changes applied keyed))
