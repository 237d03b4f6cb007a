-- Rows in a map from their keys.
use Rattle.std.proofs.Common.{◌≡◌, ℕ, Bool, true, false, not, cond, ◌||◌, ◌&&◌, List, [], ◌∷◌, ◌++◌, Some, is_some, filter, refl, ap, sym, subst, ◌∙◌}
use Rattle.std.specs.BTreeMap.{insert_entry, is_at}
use Rattle.std.specs.BTreeMap.Range.{entries_between}
use Rattle.std.specs.List.{AllByRecursion, list_any}
use Rattle.std.specs.List.Sorted.{IsStrictlySortedBy}
use Rattle.std.specs.Map.{keys_of, lookup, remove_entry, values_of}
use Rattle.std.specs.Ordering.{is_eq, is_gt, is_lt, match_ordering}
use Rattle.std.specs.declared.cmp.Ordering.{Ordering}
use Rattle.std.specs.declared.cmp.Ordering.TheVariants.{Less, Equal, Greater}
use Rattle.std.specs.declared.ops.Bound.{Bound}
use Rattle.std.proofs.lemmas.Map.Keys.{sorted_head, sorted_tail}
use Rattle.vs_base.specs.declared.cell.Cell.{Cell}
use Rattle.vs_base.specs.declared.table.ColumnKind.{ColumnKind}
use Rattle.vs_base.specs.Keys.{key_order, project}
use Rattle.vs_tables.specs.declared.key.KeyPart.{KeyPart}
use Rattle.vs_tables.specs.Parts.{fits_limits, parts_of}
use Rattle.vs_tables.specs.Rows.{AreKept, AreLawfulRows, RowsAscend, StandAtKeys, TableRows, parts_order}
use Rattle.vs_tables.specs.RowKeys.{parts_total}
use Rattle.vs_tables.proofs.PartLemmas.{ordered_alike, parts_exact}

module _ (kinds : List ColumnKind) (places : List ℕ) where
  abbrev Entries : Type 0
  Entries = List (List KeyPart × List Cell)

  abbrev Stand : Entries → Type 0
  Stand entries = StandAtKeys kinds places entries

  abbrev against : List Cell → List Cell → Ordering
  against key row = key_order kinds key (project places row)

  abbrev at : List Cell → List KeyPart
  at key = parts_of kinds key

  -- a key against that of an entry
  compared : (key : List Cell) (e : List KeyPart × List Cell) → e.0 ≡ at (project places e.1) → parts_order (at key) e.0 ≡ against key e.1
  compared key e is = ap (parts_order (at key)) is ∙ ordered_alike kinds key (project places e.1)

  module _ (key : List Cell) where
    pub found : (es : Entries) → Stand es → is_some (lookup (is_at (parts_order (at key))) es) ≡ list_any (λ row. is_eq (against key row)) (values_of es)
    found [] stand = refl
    found (e ∷ es) stand = go (parts_order (at key) e.0) (against key e.1) (compared key e stand.0) (found es stand.1)
      where
        go : (o p : Ordering) → o ≡ p → is_some (lookup (is_at (parts_order (at key))) es) ≡ list_any (λ row. is_eq (against key row)) (values_of es)
            → is_some (cond (is_eq o) (Some e.1) (lookup (is_at (parts_order (at key))) es)) ≡ (is_eq p || list_any (λ row. is_eq (against key row)) (values_of es))
        go Less p same rest = rest ∙ ap (λ q. is_eq q || list_any (λ row. is_eq (against key row)) (values_of es)) same
        go Equal p same rest = ap (λ q. is_eq q || list_any (λ row. is_eq (against key row)) (values_of es)) same
        go Greater p same rest = rest ∙ ap (λ q. is_eq q || list_any (λ row. is_eq (against key row)) (values_of es)) same

    -- behind an entry at the key, and behind one that is above it, all are above it
    AreAbove : Entries → Type 0
    AreAbove es = AllByRecursion (λ e. parts_order (at key) e.0 ≡ Less) es

    above_from : (k : List KeyPart) → ((q : List KeyPart) → parts_order k q ≡ Less → parts_order (at key) q ≡ Less) →
        (es : Entries) → AllByRecursion (λ q. parts_order k q ≡ Less) (keys_of es) → AreAbove es
    unfolding AreAbove
    above_from k f [] all = tt
    above_from k f (e ∷ es) all = (f e.0 all.0, above_from k f es all.1)

    above_equal : (k : List KeyPart) (es : Entries) → parts_order (at key) k ≡ Equal → AllByRecursion (λ q. parts_order k q ≡ Less) (keys_of es) → AreAbove es
    above_equal k es is all = above_from k (λ q h. parts_total.congr (at key) k q is ∙ h) es all

    above_less : (k : List KeyPart) (es : Entries) → parts_order (at key) k ≡ Less → AllByRecursion (λ q. parts_order k q ≡ Less) (keys_of es) → AreAbove es
    above_less k es is all = above_from k (λ q h. parts_total.trans (at key) k q is h) es all

    kept : (test : Ordering → Bool) (es : Entries) → test Less ≡ true → Stand es → AreAbove es → filter (λ row. test (against key row)) (values_of es) ≡ values_of es
    unfolding AreAbove
    kept test [] t stand above = refl
    kept test (e ∷ es) t stand above =
        rw (sym (compared key e stand.0) ∙ above.0, t) (ap (λ rows. e.1 ∷ rows) (kept test es t stand.1 above.1))

    dropped : (test : Ordering → Bool) (es : Entries) → test Less ≡ false → Stand es → AreAbove es → filter (λ row. test (against key row)) (values_of es) ≡ []
    unfolding AreAbove
    dropped test [] t stand above = refl
    dropped test (e ∷ es) t stand above =
        rw (sym (compared key e stand.0) ∙ above.0, t) (dropped test es t stand.1 above.1)

    pub without : (es : Entries) → Stand es → IsStrictlySortedBy parts_order (keys_of es) →
        values_of (remove_entry (is_at (parts_order (at key))) es) ≡ filter (λ row. not (is_eq (against key row))) (values_of es)
    without [] stand sorted = refl
    without (e ∷ es) stand sorted =
        go (parts_order (at key) e.0) (against key e.1) refl (compared key e stand.0) (without es stand.1 (sorted_tail parts_order e.0 (keys_of es) sorted))
      where
        go : (o p : Ordering) → parts_order (at key) e.0 ≡ o → o ≡ p →
            values_of (remove_entry (is_at (parts_order (at key))) es) ≡ filter (λ row. not (is_eq (against key row))) (values_of es) →
            values_of (cond (is_eq o) es (e ∷ remove_entry (is_at (parts_order (at key))) es))
            ≡ cond (not (is_eq p)) (e.1 ∷ filter (λ row. not (is_eq (against key row))) (values_of es)) (filter (λ row. not (is_eq (against key row))) (values_of es))
        go Less p is same rest = subst (λ q. e.1 ∷ values_of (remove_entry (is_at (parts_order (at key))) es)
            ≡ cond (not (is_eq q)) (e.1 ∷ filter (λ row. not (is_eq (against key row))) (values_of es)) (filter (λ row. not (is_eq (against key row))) (values_of es))) same (ap (λ rows. e.1 ∷ rows) rest)
        go Equal p is same rest = subst (λ q. values_of es
            ≡ cond (not (is_eq q)) (e.1 ∷ filter (λ row. not (is_eq (against key row))) (values_of es)) (filter (λ row. not (is_eq (against key row))) (values_of es))) same
            (sym (kept (λ r. not (is_eq r)) es refl stand.1 (above_equal e.0 es is (sorted_head parts_order e.0 (keys_of es) sorted))))
        go Greater p is same rest = subst (λ q. e.1 ∷ values_of (remove_entry (is_at (parts_order (at key))) es)
            ≡ cond (not (is_eq q)) (e.1 ∷ filter (λ row. not (is_eq (against key row))) (values_of es)) (filter (λ row. not (is_eq (against key row))) (values_of es))) same (ap (λ rows. e.1 ∷ rows) rest)

    -- the rows above a key
    pub above : (es : Entries) → Stand es →
        values_of (entries_between parts_order (Bound.Excluded (at key)) Bound.Unbounded es) ≡ filter (λ row. is_lt (against key row)) (values_of es)
    above [] stand = refl
    above (e ∷ es) stand = go (is_lt (parts_order (at key) e.0)) (is_lt (against key e.1)) (ap is_lt (compared key e stand.0)) (above es stand.1)
      where
        go : (b d : Bool) → b ≡ d → values_of (entries_between parts_order (Bound.Excluded (at key)) Bound.Unbounded es) ≡ filter (λ row. is_lt (against key row)) (values_of es) →
            values_of (cond (b && true) (e ∷ entries_between parts_order (Bound.Excluded (at key)) Bound.Unbounded es) (entries_between parts_order (Bound.Excluded (at key)) Bound.Unbounded es))
            ≡ cond d (e.1 ∷ filter (λ row. is_lt (against key row)) (values_of es)) (filter (λ row. is_lt (against key row)) (values_of es))
        go true true same rest = ap (λ rows. e.1 ∷ rows) rest
        go true false same rest = absurd (cc)
        go false true same rest = absurd (cc)
        go false false same rest = rest

  pub stand_without : (test : List KeyPart → Bool) (es : Entries) → Stand es → Stand (remove_entry test es)
  stand_without test [] stand = tt
  stand_without test (e ∷ es) stand = go (test e.0) (stand_without test es stand.1)
    where
      go : (b : Bool) → Stand (remove_entry test es) → Stand (cond b es (e ∷ remove_entry test es))
      go true rest = stand.1
      go false rest = (stand.0, rest)

  module _ (row : List Cell) where
    abbrev key : List Cell
    key = project places row

    pub stand_with : (es : Entries) → Stand es → Stand (insert_entry parts_order es (at key) row)
    stand_with [] stand = (refl, tt)
    stand_with (e ∷ es) stand = go (parts_order (at key) e.0) refl (stand_with es stand.1)
      where
        go : (o : Ordering) → parts_order (at key) e.0 ≡ o → Stand (insert_entry parts_order es (at key) row) →
            Stand (match_ordering o ((at key, row) ∷ e ∷ es) ((e.0, row) ∷ es) (e ∷ insert_entry parts_order es (at key) row))
        go Less is rest = (refl, stand)
        go Equal is rest = (sym (parts_exact (at key) e.0 is), stand.1)
        go Greater is rest = (stand.0, rest)

    pub with_one : (es : Entries) → Stand es → IsStrictlySortedBy parts_order (keys_of es) →
        values_of (insert_entry parts_order es (at key) row)
        ≡ filter (λ r. is_gt (against key r)) (values_of es) ++ row ∷ filter (λ r. is_lt (against key r)) (values_of es)
    with_one [] stand sorted = refl
    with_one (e ∷ es) stand sorted =
        go (parts_order (at key) e.0) refl (with_one es stand.1 (sorted_tail parts_order e.0 (keys_of es) sorted))
      where
        head : AllByRecursion (λ q. parts_order e.0 q ≡ Less) (keys_of es)
        head = sorted_head parts_order e.0 (keys_of es) sorted

        go : (o : Ordering) → parts_order (at key) e.0 ≡ o →
            values_of (insert_entry parts_order es (at key) row)
            ≡ filter (λ r. is_gt (against key r)) (values_of es) ++ row ∷ filter (λ r. is_lt (against key r)) (values_of es) →
            values_of (match_ordering o ((at key, row) ∷ e ∷ es) ((e.0, row) ∷ es) (e ∷ insert_entry parts_order es (at key) row))
            ≡ filter (λ r. is_gt (against key r)) (values_of (e ∷ es)) ++ row ∷ filter (λ r. is_lt (against key r)) (values_of (e ∷ es))
        go Less is rest =
            let all = above_less key e.0 es is head in
            rw (sym (compared key e stand.0) ∙ is, dropped key is_gt es refl stand.1 all, kept key is_lt es refl stand.1 all) refl
        go Equal is rest =
            let all = above_equal key e.0 es is head in
            rw (sym (compared key e stand.0) ∙ is, dropped key is_gt es refl stand.1 all, kept key is_lt es refl stand.1 all) refl
        go Greater is rest =
            rw (sym (compared key e stand.0) ∙ is) (ap (λ rows. e.1 ∷ rows) rest)

-- what holds of each row
module _ (P : List Cell → Type 0) where
  pub each_without : (test : List KeyPart → Bool) (es : List (List KeyPart × List Cell)) → AllByRecursion (λ (e : List KeyPart × List Cell). P e.1) es →
      AllByRecursion (λ (e : List KeyPart × List Cell). P e.1) (remove_entry test es)
  each_without test [] all = tt
  each_without test (e ∷ es) all = go (test e.0) (each_without test es all.1)
    where
      go : (b : Bool) → AllByRecursion (λ (f : List KeyPart × List Cell). P f.1) (remove_entry test es) →
          AllByRecursion (λ (f : List KeyPart × List Cell). P f.1) (cond b es (e ∷ remove_entry test es))
      go true rest = all.1
      go false rest = (all.0, rest)

  pub each_with : (parts : List KeyPart) (row : List Cell) (es : List (List KeyPart × List Cell)) → P row → AllByRecursion (λ (e : List KeyPart × List Cell). P e.1) es →
      AllByRecursion (λ (e : List KeyPart × List Cell). P e.1) (insert_entry parts_order es parts row)
  each_with parts row [] p all = (p, tt)
  each_with parts row (e ∷ es) p all = go (parts_order parts e.0) (each_with parts row es p all.1)
    where
      go : (o : Ordering) → AllByRecursion (λ (f : List KeyPart × List Cell). P f.1) (insert_entry parts_order es parts row) →
          AllByRecursion (λ (f : List KeyPart × List Cell). P f.1) (match_ordering o ((parts, row) ∷ e ∷ es) ((e.0, row) ∷ es) (e ∷ insert_entry parts_order es parts row))
      go Less rest = (p, all)
      go Equal rest = (p, all.1)
      go Greater rest = (all.0, rest)

  each_row : (es : List (List KeyPart × List Cell)) → AllByRecursion (λ (e : List KeyPart × List Cell). P e.1) es → AllByRecursion P (values_of es)
  each_row [] all = tt
  each_row (e ∷ es) all = (all.0, each_row es all.1)

-- the entries above a key
pub rows_above : (kinds : List ColumnKind) (places : List ℕ) (key : List Cell) (parts : List KeyPart) (es between : Entries kinds places) →
    parts ≡ parts_of kinds key → StandAtKeys kinds places es → between ≡ entries_between parts_order (Bound.Excluded parts) Bound.Unbounded es →
    values_of between ≡ filter (λ row. is_lt (key_order kinds key (project places row))) (values_of es)
rows_above kinds places key parts es between is stand e =
    ap values_of (e ∙ ap (λ k. entries_between parts_order (Bound.Excluded k) Bound.Unbounded es) is) ∙ above kinds places key es stand

-- all entries
all_between : (es : List (List KeyPart × List Cell)) → entries_between parts_order Bound.Unbounded Bound.Unbounded es ≡ es
all_between [] = refl
all_between (e ∷ es) = ap (λ l. e ∷ l) (all_between es)

pub all_rows : (es between : List (List KeyPart × List Cell)) → between ≡ entries_between parts_order Bound.Unbounded Bound.Unbounded es → values_of between ≡ values_of es
all_rows es between is = ap values_of (is ∙ all_between es)

-- a table of these parts
abbrev pub table_of : List ℕ → List ℕ → List ColumnKind → List (List Cell) → TableRows
table_of name places kinds rows = record { name = name; places = places; kinds = kinds; rows = rows }

-- the rows of kept entries ascend
module _ (name places : List ℕ) (kinds : List ColumnKind) (all : List (List Cell)) where
  stand_behind : (e : List KeyPart × List Cell) (es : Entries kinds places) → e.0 ≡ parts_of kinds (project places e.1) → StandAtKeys kinds places es →
      AllByRecursion (λ q. parts_order e.0 q ≡ Less) (keys_of es) → AllByRecursion (λ next. key_order kinds (project places e.1) (project places next) ≡ Less) (values_of es)
  stand_behind e [] own stand h = tt
  stand_behind e (f ∷ fs) own stand h =
      (sym (ap (λ k. parts_order k f.0) own ∙ compared kinds places (project places e.1) f stand.0) ∙ h.0, stand_behind e fs own stand.1 h.1)

  ascend : (es : Entries kinds places) → StandAtKeys kinds places es → IsStrictlySortedBy parts_order (keys_of es) →
      RowsAscend (table_of name places kinds all) (values_of es)
  ascend [] stand sorted = tt
  ascend (e ∷ es) stand sorted =
      (stand_behind e es stand.0 stand.1 (sorted_head parts_order e.0 (keys_of es) sorted), ascend es stand.1 (sorted_tail parts_order e.0 (keys_of es) sorted))

-- what holds of kept entries
pub lawful : (name places : List ℕ) (kinds : List ColumnKind) (es : List (List KeyPart × List Cell)) → AreKept kinds places es →
    AreLawfulRows (table_of name places kinds (values_of es))
lawful name places kinds es kept = record {
  ascend = ascend name places kinds (values_of es) es kept.keyed kept.ascending;
  fit = each_row (λ row. fits_limits (project places row) ≡ true) es kept.fit;
}
