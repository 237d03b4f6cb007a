-- A client that applies a chunk has the picked rows up to the chunk's last row.
use Rattle.std.proofs.Common.{◌≡◌, ◌⊎◌, inl, inr, ℕ, zero, suc, ◌+◌, Bool, true, false, cond, ◌||◌, List, [], ◌∷◌, ◌++◌, map, length, Option, Some, None, IfSome, Contains, filter, filter_map, find, fold, nat_le, option_map, option_and_then, refl, ap, sym, ◌∙◌, subst, true≢false, arith}
use Rattle.std.specs.List.{AllByRecursion, cons_option, last_or, list_any}
use Rattle.std.specs.Ordering.{is_eq, is_gt, nat_cmp, ordering_reverse}
use Rattle.std.specs.Cmp.{IsTotalOrder, Equal-is}
use Rattle.std.specs.Cmp.Lexicographic.{slice_cmp}
use Rattle.std.specs.declared.cmp.Ordering.{Ordering}
use Rattle.std.specs.declared.cmp.Ordering.TheVariants.{Less, Equal, Greater}
use Rattle.std.proofs.lemmas.Bool.{le-leb, or_right}
use Rattle.std.proofs.lemmas.Cmp.{alike_right, tied_back, tied_itself}
use Rattle.std.proofs.lemmas.List.Elements.{All-contains, All-from_recursion, Contains-append_left, Contains-append_right, Contains-push}
use Rattle.std.proofs.lemmas.List.Folds.{list_any-append}
use Rattle.vs_base.specs.declared.change.Change.{Change}
use Rattle.vs_base.specs.declared.change.LastKey.{LastKey}
use Rattle.vs_base.specs.Cells.{row_size}
use Rattle.vs_base.specs.Picks.{Bound}
use Rattle.vs_model.specs.Copy.{chunk_of, is_after, is_after_in, keys_of, next_rows, picked_rows, row_at, within_limits}
use Rattle.vs_model.specs.Copies.{AreAscending, IsOrdered, KeepsKeys, client_after, has_told_key, picked_row_at}
use Rattle.vs_model.proofs.Lists.{same_some}
use Rattle.vs_model.proofs.Each.{all_filtered, all_pass, any_filtered, kept_either}
use Rattle.vs_copy.proofs.RowLemmas.{AreAt, Row, left_at, rows_after_change}
use Rattle.vs_copy.proofs.ChunkLemmas.{Told, last_has}
use Rattle.vs_copy.proofs.ToldChangeLemmas.{after_alike, at_alike, its_table, tables_total}

-- ---- rows by their keys

module _ (R : Row → Row → Ordering) (o : IsTotalOrder R) where
  abbrev pub by_key : Told → Told → Ordering
  by_key a b = R a.0 b.0

  pub equal : (a b : Row) → is_eq (R a b) ≡ true → R a b ≡ Equal
  equal a b e = (Equal-is (R a b)).0 e

  greater : (a b : Row) → is_gt (R a b) ≡ true → R a b ≡ Greater
  greater a b e = by (R a b) e
    where
      by : (q : Ordering) → is_gt q ≡ true → q ≡ Greater
      by Less f = absurd (cc)
      by Equal f = absurd (cc)
      by Greater f = refl

  turned : (a b : Row) → R a b ≡ Less → is_gt (R b a) ≡ true
  turned a b e = ap is_gt (o.antisymm b a ∙ ap ordering_reverse e)

  filter_ascends : (test : Told → Bool) (rows : List Told) → AreAscending by_key rows → AreAscending by_key (filter test rows)
  filter_ascends test [] h = tt
  filter_ascends test (row ∷ rows) h =
      kept_either (AreAscending by_key) test row rows (λ e. (all_filtered (λ r. by_key row r ≡ Less) test rows h.0, filter_ascends test rows h.1))
      (λ e. filter_ascends test rows h.1)

  module _ (pick : Row → Option Row) (alike : (a b : Row) → R a b ≡ Equal → pick a ≡ pick b) where
    abbrev told_at : List Row → List Told
    told_at keys = filter_map (λ key. option_map (λ row. (key, row)) (pick key)) keys

    abbrev pub IsPicked : Told → Type 0
    IsPicked told = pick told.0 ≡ Some told.1

    are_picked : (keys : List Row) → AllByRecursion IsPicked (told_at keys)
    are_picked [] = tt
    are_picked (key ∷ keys) = go (pick key) refl (are_picked keys)
      where
        go : (row : Option Row) → pick key ≡ row → AllByRecursion IsPicked (told_at keys) →
            AllByRecursion IsPicked (cons_option (option_map (λ r. (key, r)) row) (told_at keys))
        go None e on = on
        go (Some row) e on = (e, on)

    behind : (x : Row) (keys : List Row) → AllByRecursion (λ y. R x y ≡ Less) keys → AllByRecursion (λ (told : Told). R x told.0 ≡ Less) (told_at keys)
    behind x [] h = tt
    behind x (key ∷ keys) h = go (pick key) (behind x keys h.1)
      where
        go : (row : Option Row) → AllByRecursion (λ (told : Told). R x told.0 ≡ Less) (told_at keys) →
            AllByRecursion (λ (told : Told). R x told.0 ≡ Less) (cons_option (option_map (λ r. (key, r)) row) (told_at keys))
        go None on = on
        go (Some row) on = (h.0, on)

    told_ascend : (keys : List Row) → AreAscending R keys → AreAscending by_key (told_at keys)
    told_ascend [] h = tt
    told_ascend (key ∷ keys) h = go (pick key) (behind key keys h.0) (told_ascend keys h.1)
      where
        go : (row : Option Row) → AllByRecursion (λ (told : Told). R key told.0 ≡ Less) (told_at keys) → AreAscending by_key (told_at keys) →
            AreAscending by_key (cons_option (option_map (λ r. (key, r)) row) (told_at keys))
        go None all on = on
        go (Some row) all on = (all, on)

    told_found : (k row : Row) (keys : List Row) → pick k ≡ Some row → list_any (λ y. is_eq (R y k)) keys ≡ true →
        list_any (λ (told : Told). is_eq (R told.0 k)) (told_at keys) ≡ true
    told_found k row [] is any = any
    told_found k row (key ∷ keys) is any = go (is_eq (R key k)) refl any (told_found k row keys is)
      where
        more : (told : Option Told) → list_any (λ (t : Told). is_eq (R t.0 k)) (told_at keys) ≡ true →
            list_any (λ (t : Told). is_eq (R t.0 k)) (cons_option told (told_at keys)) ≡ true
        more None h = h
        more (Some t) h = or_right (is_eq (R t.0 k)) _ h

        go : (b : Bool) → is_eq (R key k) ≡ b → (b || list_any (λ y. is_eq (R y k)) keys) ≡ true →
            (list_any (λ y. is_eq (R y k)) keys ≡ true → list_any (λ (t : Told). is_eq (R t.0 k)) (told_at keys) ≡ true) →
            list_any (λ (t : Told). is_eq (R t.0 k)) (cons_option (option_map (λ r. (key, r)) (pick key)) (told_at keys)) ≡ true
        go true e f on =
            ap (λ (p : Option Row). list_any (λ (t : Told). is_eq (R t.0 k)) (cons_option (option_map (λ r. (key, r)) p) (told_at keys)))
            (alike key k (equal key k e) ∙ is)
            ∙ ap (λ b. b || list_any (λ (t : Told). is_eq (R t.0 k)) (told_at keys)) e
        go false e f on = more (option_map (λ r. (key, r)) (pick key)) (on f)

  -- rows that ascend, by the last of the first
  upto_last : (rows rest : List Told) (key : Row) → AreAscending by_key (rows ++ rest) → last_or None (map (λ (row : Told). row.0) rows) ≡ Some key →
      AllByRecursion (λ (row : Told). is_gt (R row.0 key) ≡ false) rows × AllByRecursion (λ (row : Told). is_gt (R row.0 key) ≡ true) rest
  upto_last [] rest key h last = absurd (cc)
  upto_last (row ∷ []) rest key h last =
      let same : row.0 ≡ key = cc in
      ((ap is_gt (ap (R row.0) (sym same) ∙ tied_itself o row.0), tt), rest_behind rest h.0 same)
    where
      rest_behind : (xs : List Told) → AllByRecursion (λ (x : Told). by_key row x ≡ Less) xs → row.0 ≡ key → AllByRecursion (λ (x : Told). is_gt (R x.0 key) ≡ true) xs
      rest_behind [] all same = tt
      rest_behind (x ∷ xs) all same = (ap (λ y. is_gt (R x.0 y)) (sym same) ∙ turned row.0 x.0 all.0, rest_behind xs all.1 same)
  upto_last (row ∷ next ∷ rows) rest key h last =
      let on = upto_last (next ∷ rows) rest key h.1 last in
      ((ap is_gt (last_has (λ x. R row.0 x ≡ Less) (map (λ (r : Told). r.0) (next ∷ rows)) key (keys_behind (next ∷ rows) h.0) last), on.0), on.1)
    where
      keys_behind : (xs : List Told) → AllByRecursion (λ (x : Told). by_key row x ≡ Less) (xs ++ rest) → AllByRecursion (λ x. R row.0 x ≡ Less) (map (λ (r : Told). r.0) xs)
      keys_behind [] all = tt
      keys_behind (x ∷ xs) all = (all.0, keys_behind xs all.1)

  -- what each row is, a key is that one of them has
  upto_any : (b : Bool) (k key : Row) (rows : List Told) → AllByRecursion (λ (row : Told). is_gt (R row.0 key) ≡ b) rows →
      list_any (λ (row : Told). is_eq (R row.0 k)) rows ≡ true → is_gt (R k key) ≡ b
  upto_any b k key [] all any = absurd (cc)
  upto_any b k key (row ∷ rows) all any = go (is_eq (R row.0 k)) refl any (upto_any b k key rows all.1)
    where
      go : (e : Bool) → is_eq (R row.0 k) ≡ e → (e || list_any (λ (r : Told). is_eq (R r.0 k)) rows) ≡ true →
          (list_any (λ (r : Told). is_eq (R r.0 k)) rows ≡ true → is_gt (R k key) ≡ b) → is_gt (R k key) ≡ b
      go true e f on = sym (ap is_gt (o.congr row.0 k key (equal row.0 k e))) ∙ all.0
      go false e f on = on f

-- ---- chunks

within_front : (rows : List Told) (n size : ℕ) → (rest : List Told) × (rows ≡ within_limits n size rows ++ rest)
within_front [] n size = ([], refl)
within_front (row ∷ rows) zero size = (row ∷ rows, refl)
within_front (row ∷ rows) (suc n) size = by (nat_le (size + row_size row.1) 4194304) (within_front rows n (size + row_size row.1))
  where
    by : (b : Bool) → (rest : List Told) × (rows ≡ within_limits n (size + row_size row.1) rows ++ rest) →
        (rest : List Told) × (row ∷ rows ≡ cond b (row ∷ within_limits n (size + row_size row.1) rows) [] ++ rest)
    by true h = (h.0, ap (λ l. row ∷ l) h.1)
    by false h = (row ∷ rows, refl)

chunk_front : (rows : List Told) → (rest : List Told) × (rows ≡ chunk_of rows ++ rest)
chunk_front [] = ([], refl)
chunk_front (row ∷ rows) = let h = within_front rows 99 (row_size row.1) in (h.0, ap (λ l. row ∷ l) h.1)

-- a table against that of the next rows, by the rows that are left of it
abbrev pub StandsBy : (List ℕ → List Told) → List ℕ → List ℕ → Type 0
StandsBy left table t = ((slice_cmp nat_cmp t table ≡ Less) × (left t ≡ [])) ⊎ ((t ≡ table) ⊎ (slice_cmp nat_cmp t table ≡ Greater))

-- the first table with rows that are left
pub record IsFirst (left : List ℕ → List Told) (tables : List (List ℕ)) (table : List ℕ) (rows : List Told) : Type 0 where
  pub here : Contains tables table
  pub are : rows ≡ chunk_of (left table)
  pub each : AllByRecursion (StandsBy left table) tables

module _ (left : List ℕ → List Told) where
  abbrev pub chunked : Option (List ℕ × List Told) → Option (List ℕ × List Told)
  chunked found = option_map {T = List ℕ × List Told} (λ t. (t.0, chunk_of t.1)) found

  abbrev pub first_of : List (List ℕ) → Option (List ℕ × List Told)
  first_of tables = find (λ t. nat_le 1 (length t.1)) (map (λ table. (table, left table)) tables)

  abbrev pub next_of : List (List ℕ) → Option (List ℕ × List Told)
  next_of tables = chunked (first_of tables)

  -- a pair by its parts
  abbrev found : List ℕ → List Told → Option (List ℕ × List Told)
  found table rows = Some (table, rows)

  greater_each : (table : List ℕ) (tables : List (List ℕ)) → AllByRecursion (λ t. slice_cmp nat_cmp table t ≡ Less) tables → AllByRecursion (StandsBy left table) tables
  greater_each table [] all = tt
  greater_each table (t ∷ tables) all = (inr (inr (tables_total.antisymm t table ∙ ap ordering_reverse all.0)), greater_each table tables all.1)

  pub first_left : (tables : List (List ℕ)) (table : List ℕ) (rows : List Told) → AreAscending (slice_cmp nat_cmp) tables → next_of tables ≡ Some (table, rows) →
      IsFirst left tables table rows
  first_left [] table rows ascend is = absurd (cc)
  first_left (t ∷ tables) table rows ascend is = go (left t) refl is (λ e. first_left tables table rows ascend.1 e)
    where
      same_pair : (x y : List ℕ) (p q : List Told) → found x p ≡ found y q → (x ≡ y) × (p ≡ q)
      same_pair x y p q e = (ap (λ (o : List ℕ × List Told). o.0) (same_some {X = List ℕ × List Told} (x, p) (y, q) e), ap (λ (o : List ℕ × List Told). o.1) (same_some {X = List ℕ × List Told} (x, p) (y, q) e))

      go : (l : List Told) → left t ≡ l →
          chunked (cond (nat_le 1 (length l)) (Some (t, l)) (first_of tables))
          ≡ Some (table, rows) → (next_of tables ≡ Some (table, rows) → IsFirst left tables table rows) → IsFirst left (t ∷ tables) table rows
      go [] e f on =
          let next = on f in
          record {
            here = Contains-append_right (t ∷ []) tables table next.here;
            are = next.are;
            each = (
              inl (All-contains (λ u. slice_cmp nat_cmp t u ≡ Less) tables table (All-from_recursion (λ u. slice_cmp nat_cmp t u ≡ Less) tables ascend.0) next.here, e),
              next.each,
            );
          }
      go (x ∷ xs) e f on =
          let some : nat_le 1 (suc (length xs)) ≡ true = le-leb 1 (suc (length xs)) (omega arith) in
          let same = same_pair t table (chunk_of (x ∷ xs)) rows
          (sym (ap (λ b. chunked (cond b (Some (t, x ∷ xs)) (first_of tables))) some) ∙ f) in
          record {
            here = subst (λ u. Contains (t ∷ tables) u) same.0 (Contains-append_left (t ∷ []) tables t (Contains-push [] t));
            are = sym same.1 ∙ ap chunk_of (sym e) ∙ ap (λ u. chunk_of (left u)) same.0;
            each = (inr (inl same.0), subst (λ u. AllByRecursion (StandsBy left u) tables) same.0 (greater_each t tables ascend.0));
          }

  none_first : (tables : List (List ℕ)) → next_of tables ≡ None → AllByRecursion (λ t. left t ≡ []) tables
  none_first [] is = tt
  none_first (t ∷ tables) is = go (left t) refl is (λ e. none_first tables e)
    where
      go : (l : List Told) → left t ≡ l →
          chunked (cond (nat_le 1 (length l)) (Some (t, l)) (first_of tables))
          ≡ None → (next_of tables ≡ None → AllByRecursion (λ u. left u ≡ []) tables) → (left t ≡ []) × AllByRecursion (λ u. left u ≡ []) tables
      go [] e f on = (e, on f)
      go (x ∷ xs) e f on =
          let some : nat_le 1 (suc (length xs)) ≡ true = le-leb 1 (suc (length xs)) (omega arith) in
          let lie = sym (ap (λ b. chunked (cond b (Some (t, x ∷ xs)) (first_of tables))) some) ∙ f in
          absurd (cc)

  pub none_left : (tables : List (List ℕ)) (t : List ℕ) → next_of tables ≡ None → Contains tables t → left t ≡ []
  none_left tables t is here = All-contains (λ u. left u ≡ []) tables t (All-from_recursion (λ u. left u ≡ []) tables (none_first tables is)) here

-- ---- a client

module _ (bound : Bound) (told_key : List ℕ → Row → Row) (ordered : IsOrdered bound) (keeps : KeepsKeys bound told_key) (changes : List Change) where
  abbrev pub left_of : Option LastKey → List ℕ → List Told
  left_of last t = filter (λ (row : Told). is_after bound last t row.0) (picked_rows bound changes t)

  abbrev pub picked_at : List ℕ → Row → Option Row
  picked_at t k = picked_row_at bound changes t k

  -- what the client is to have
  abbrev pub had : Option LastKey → List ℕ → Row → Option Row
  had last t k = cond (is_after bound last t k) None (picked_at t k)

  -- the rows that are left of a table
  module _ (t : List ℕ) (here : Contains bound.tables t) where
    abbrev pub o : IsTotalOrder (bound.order t)
    o = ordered.keys t here

    at : AreAt (bound.order t) (bound.key t) (λ _. Unit {0}) (fold (rows_after_change (bound.order t) (bound.key t) t) [] changes) (row_at bound changes t) (keys_of bound changes t)
    at = left_at bound t o (λ _. Unit {0}) (λ _. tt) changes

    alike : (a b : Row) → bound.order t a b ≡ Equal → picked_at t a ≡ picked_at t b
    alike a b e = ap (option_and_then (bound.row t)) (at_alike bound t o a b e changes)

    pub left_picked : (last : Option LastKey) → AllByRecursion (λ (row : Told). picked_at t row.0 ≡ Some row.1) (left_of last t)
    left_picked last =
        all_filtered (λ (row : Told). picked_at t row.0 ≡ Some row.1) (λ (row : Told). is_after bound last t row.0) (picked_rows bound changes t)
        (are_picked (bound.order t) o (picked_at t) alike (keys_of bound changes t))

    pub left_ascend : (last : Option LastKey) → AreAscending (by_key (bound.order t) o) (left_of last t)
    left_ascend last =
        filter_ascends (bound.order t) o (λ (row : Told). is_after bound last t row.0) (picked_rows bound changes t)
        (told_ascend (bound.order t) o (picked_at t) alike (keys_of bound changes t) at.ascend)

    has_row : (k row : Row) (there : Option Row) → row_at bound changes t k ≡ there → option_and_then (bound.row t) there ≡ Some row →
        (x : Row) × (row_at bound changes t k ≡ Some x)
    has_row k row None e is = absurd (cc)
    has_row k row (Some x) e is = (x, e)

    pub left_found : (last : Option LastKey) (k row : Row) → is_after bound last t k ≡ true → picked_at t k ≡ Some row →
        list_any (λ (r : Told). is_eq (bound.order t r.0 k)) (left_of last t) ≡ true
    left_found last k row later is =
        let there = has_row k row (row_at bound changes t k) refl is in
        any_filtered (λ (r : Told). is_eq (bound.order t r.0 k)) (λ (r : Told). is_after bound last t r.0) (picked_rows bound changes t)
        (λ r e. after_alike bound t o r.0 k (equal (bound.order t) o r.0 k e) last ∙ later)
        (told_found (bound.order t) o (picked_at t) alike k row (keys_of bound changes t) is (at.found k there.0 there.1))

    -- where no row is left, all are had
    pub nothing_left : (last : Option LastKey) (k : Row) → left_of last t ≡ [] → had last t k ≡ picked_at t k
    nothing_left last k none = by (is_after bound last t k) refl (picked_at t k) refl
      where
        by : (b : Bool) → is_after bound last t k ≡ b → (row : Option Row) → picked_at t k ≡ row → cond b None row ≡ row
        by true e None f = refl
        by true e (Some row) f =
            absurd (true≢false (sym (left_found last k row e f) ∙ ap (list_any (λ (r : Told). is_eq (bound.order t r.0 k))) none))
        by false e row f = refl

    -- the rows of a chunk come to their keys
    abbrev told_rows : List ℕ → List Told → List Change
    told_rows table rows = map (λ row. record { table = table; before = None; after = Some row }) (map (λ (row : Told). row.1) rows)

    pub other_rows : (table : List ℕ) (rows : List Told) (k : Row) (row : Option Row) → is_eq (slice_cmp nat_cmp table t) ≡ false →
        fold (client_after bound told_key t k) row (told_rows table rows) ≡ row
    other_rows table [] k row other = refl
    other_rows table (r ∷ rows) k row other =
        ap (λ b. fold (client_after bound told_key t k) (cond b (cond (has_told_key bound told_key t k (Some r.1)) (Some r.1) row) row) (told_rows table rows)) other
        ∙ other_rows table rows k row other

    one_row : (k : Row) (r : Told) (row : Option Row) → picked_at t r.0 ≡ Some r.1 →
        client_after bound told_key t k row (record { table = t; before = None; after = Some r.1 }) ≡ cond (is_eq (bound.order t r.0 k)) (picked_at t k) row
    one_row k r row is =
        ap (λ h. cond h (cond (has_told_key bound told_key t k (Some r.1)) (Some r.1) row) row) (its_table t)
        ∙ ap (λ h. cond h (Some r.1) row) (told_is (row_at bound changes t r.0) refl is) ∙ by (is_eq (bound.order t r.0 k)) refl
      where
        told_is : (there : Option Row) → row_at bound changes t r.0 ≡ there → option_and_then (bound.row t) there ≡ Some r.1 →
            is_eq (bound.order t (told_key t r.1) k) ≡ is_eq (bound.order t r.0 k)
        told_is None e f = absurd (cc)
        told_is (Some x) e f =
            ap (λ y. is_eq (bound.order t y k)) (subst (λ i. IfSome i (λ told. told_key t told ≡ bound.key t x)) f (keeps t x here))
            ∙ ap is_eq (o.congr (bound.key t x) r.0 k (subst (λ i. IfSome i (λ y. bound.order t (bound.key t y) r.0 ≡ Equal)) e (at.own r.0)))

        by : (b : Bool) → is_eq (bound.order t r.0 k) ≡ b → cond b (Some r.1) row ≡ cond b (picked_at t k) row
        by true e = sym is ∙ alike r.0 k (equal (bound.order t) o r.0 k e)
        by false e = refl

    all_rows : (k : Row) (rows : List Told) (row : Option Row) → AllByRecursion (λ (r : Told). picked_at t r.0 ≡ Some r.1) rows →
        fold (client_after bound told_key t k) row (told_rows t rows) ≡ cond (list_any (λ (r : Told). is_eq (bound.order t r.0 k)) rows) (picked_at t k) row
    all_rows k [] row all = refl
    all_rows k (r ∷ rows) row all =
        ap (λ x. fold (client_after bound told_key t k) x (told_rows t rows)) (one_row k r row all.0)
        ∙ all_rows k rows (cond (is_eq (bound.order t r.0 k)) (picked_at t k) row) all.1
        ∙ by (is_eq (bound.order t r.0 k)) (list_any (λ (x : Told). is_eq (bound.order t x.0 k)) rows)
      where
        by : (a b : Bool) → cond b (picked_at t k) (cond a (picked_at t k) row) ≡ cond (a || b) (picked_at t k) row
        by true true = refl
        by true false = refl
        by false b = refl

    -- a chunk of this table
    module _ (last : Option LastKey) (rows rest : List Told) (are : left_of last t ≡ rows ++ rest) (key : LastKey)
        (ends : last_or None (map (λ (row : Told). row.0) rows) ≡ Some key.key) (k : Row) where
      upto : AllByRecursion (λ (row : Told). is_gt (bound.order t row.0 key.key) ≡ false) rows
          × AllByRecursion (λ (row : Told). is_gt (bound.order t row.0 key.key) ≡ true) rest
      upto = upto_last (bound.order t) o rows rest key.key (subst (AreAscending (by_key (bound.order t) o)) are (left_ascend last)) ends

      first_all : (P : Told → Type 0) (xs : List Told) → AllByRecursion P (xs ++ rest) → AllByRecursion P xs
      first_all P [] all = tt
      first_all P (x ∷ xs) all = (all.0, first_all P xs all.1)

      key_each : (xs : List Told) → AllByRecursion (λ (row : Told). is_after bound last t row.0 ≡ true) xs →
          AllByRecursion (λ x. is_after bound last t x ≡ true) (map (λ (row : Told). row.0) xs)
      key_each [] all = tt
      key_each (x ∷ xs) all = (all.0, key_each xs all.1)

      key_later : is_after bound last t key.key ≡ true
      key_later =
          last_has (λ x. is_after bound last t x ≡ true) (map (λ (row : Told). row.0) rows) key.key
          (key_each rows (first_all (λ (row : Told). is_after bound last t row.0 ≡ true) rows
          (subst (AllByRecursion (λ (row : Told). is_after bound last t row.0 ≡ true)) are (all_pass (λ (row : Told). is_after bound last t row.0) (picked_rows bound changes t))))) ends

      later_in : (l : LastKey) (q : Ordering) → is_after_in bound l t key.key q ≡ true → bound.order t k key.key ≡ Greater → is_after_in bound l t k q ≡ true
      later_in l Less h e = h
      later_in l Equal h e =
          turned (bound.order t) o l.key k
          (o.trans l.key key.key k (back l.key key.key (greater (bound.order t) o key.key l.key h)) (back key.key k e))
        where
          back : (a b : Row) → bound.order t b a ≡ Greater → bound.order t a b ≡ Less
          back a b f = o.antisymm a b ∙ ap ordering_reverse f
      later_in l Greater h e = refl

      later : (l : Option LastKey) → is_after bound l t key.key ≡ true → is_gt (bound.order t k key.key) ≡ true → is_after bound l t k ≡ true
      later None h e = refl
      later (Some l) h e = later_in l (slice_cmp nat_cmp t l.table) h (greater (bound.order t) o k key.key e)

      found_in : (any : Bool) → list_any (λ (r : Told). is_eq (bound.order t r.0 k)) rows ≡ any → (b : Bool) → is_after bound last t k ≡ b →
          (g : Bool) → is_gt (bound.order t k key.key) ≡ g → (row : Option Row) → picked_at t k ≡ row → cond any row (cond b None row) ≡ cond g None row
      found_in true a b e true g row p = absurd (true≢false (sym g ∙ upto_any (bound.order t) o false k key.key rows upto.0 a))
      found_in true a b e false g row p = refl
      found_in false a false e true g row p = absurd (true≢false (sym (later last key_later g) ∙ e))
      found_in false a false e false g row p = refl
      found_in false a true e true g row p = refl
      found_in false a true e false g None p = refl
      found_in false a true e false g (Some row) p =
          let any : list_any (λ (r : Told). is_eq (bound.order t r.0 k)) rest ≡ true =
          sym (ap (λ x. x || list_any (λ (r : Told). is_eq (bound.order t r.0 k)) rest) a) ∙ sym (list_any-append (λ (r : Told). is_eq (bound.order t r.0 k)) rows rest)
          ∙ ap (list_any (λ (r : Told). is_eq (bound.order t r.0 k))) (sym are) ∙ left_found last k row e p in
          absurd (true≢false (sym (upto_any (bound.order t) o true k key.key rest upto.1 any) ∙ g))

      pub chunk_told : fold (client_after bound told_key t k) (had last t k) (told_rows t rows) ≡ cond (is_gt (bound.order t k key.key)) None (picked_at t k)
      chunk_told =
          all_rows k rows (had last t k)
          (first_all (λ (row : Told). picked_at t row.0 ≡ Some row.1) rows (subst (AllByRecursion (λ (row : Told). picked_at t row.0 ≡ Some row.1)) are (left_picked last)))
          ∙ found_in (list_any (λ (r : Told). is_eq (bound.order t r.0 k)) rows) refl (is_after bound last t k) refl (is_gt (bound.order t k key.key)) refl (picked_at t k) refl

  -- ---- the rows that come next

  module _ (last : Option LastKey) (table : List ℕ) (rows : List Told) (is : next_rows bound changes last ≡ Some (table, rows)) (key : LastKey)
      (ends : last_or None (map (λ (row : Told). row.0) rows) ≡ Some key.key) (of_table : key.table ≡ table) where
    first : IsFirst (left_of last) bound.tables table rows
    first = first_left (left_of last) bound.tables table rows ordered.tables is

    parts : (rest : List Told) × (left_of last table ≡ rows ++ rest)
    parts = let h = chunk_front (left_of last table) in (h.0, h.1 ∙ ap (λ l. l ++ h.0) (sym first.are))

    after_by : (t : List ℕ) (k : Row) (q : Ordering) → slice_cmp nat_cmp t table ≡ q → is_after bound (Some key) t k ≡ is_after_in bound key t k q
    after_by t k q e = ap (is_after_in bound key t k) (ap (slice_cmp nat_cmp t) of_table ∙ e)

    key_is_later : is_after bound last table key.key ≡ true
    key_is_later = key_later table first.here last rows parts.0 parts.1 key ends key.key

    -- the tables behind have nothing yet
    later_table_in : (l : LastKey) (t : List ℕ) (k : Row) (q : Ordering) → slice_cmp nat_cmp table l.table ≡ q → is_after_in bound l table key.key q ≡ true →
        slice_cmp nat_cmp t table ≡ Greater → slice_cmp nat_cmp t l.table ≡ Greater
    later_table_in l t k Less e h greater_is = absurd (true≢false (sym h))
    later_table_in l t k Equal e h greater_is = alike_right tables_total l.table table t (tied_back tables_total table l.table e) ∙ greater_is
    later_table_in l t k Greater e h greater_is =
        tables_total.antisymm t l.table ∙ ap ordering_reverse (tables_total.trans l.table table t (back l.table table e) (back table t greater_is))
      where
        back : (a b : List ℕ) → slice_cmp nat_cmp b a ≡ Greater → slice_cmp nat_cmp a b ≡ Less
        back a b f = tables_total.antisymm a b ∙ ap ordering_reverse f

    later_table : (l : Option LastKey) (t : List ℕ) (k : Row) → is_after bound l table key.key ≡ true → slice_cmp nat_cmp t table ≡ Greater → is_after bound l t k ≡ true
    later_table None t k h greater_is = refl
    later_table (Some l) t k h greater_is = ap (is_after_in bound l t k) (later_table_in l t k (slice_cmp nat_cmp table l.table) refl h greater_is)

    abbrev chunk_changes : List Change
    chunk_changes = map (λ row. record { table = table; before = None; after = Some row }) (map (λ (row : Told). row.1) rows)

    told_by : (t : List ℕ) (k : Row) → Contains bound.tables t → StandsBy (left_of last) table t →
        fold (client_after bound told_key t k) (had last t k) chunk_changes ≡ had (Some key) t k
    told_by t k here (inl before) =
        other_rows t here table rows k (had last t k) (ap is_eq (tables_total.antisymm table t ∙ ap ordering_reverse before.0))
        ∙ nothing_left t here last k before.1
        ∙ sym (ap (λ b. cond b None (picked_at t k)) (after_by t k Less before.0))
    told_by t k here (inr (inl same)) = subst (λ u. fold (client_after bound told_key u k) (had last u k) chunk_changes ≡ had (Some key) u k) (sym same) (
        chunk_told table first.here last rows parts.0 parts.1 key ends k
        ∙ sym (ap (λ b. cond b None (picked_at table k)) (after_by table k Equal (tied_itself tables_total table))))
    told_by t k here (inr (inr greater_is)) =
        other_rows t here table rows k (had last t k) (ap is_eq (tables_total.antisymm table t ∙ ap ordering_reverse greater_is))
        ∙ ap (λ b. cond b None (picked_at t k)) (later_table last t k key_is_later greater_is)
        ∙ sym (ap (λ b. cond b None (picked_at t k)) (after_by t k Greater greater_is))

    pub rows_told : (t : List ℕ) (k : Row) → Contains bound.tables t →
        fold (client_after bound told_key t k) (had last t k) chunk_changes ≡ had (Some key) t k
    rows_told t k here =
        told_by t k here (All-contains (StandsBy (left_of last) table) bound.tables t (All-from_recursion (StandsBy (left_of last) table) bound.tables first.each) here)

  -- where no row is left
  pub all_had : (last : Option LastKey) → next_rows bound changes last ≡ None → (t : List ℕ) (k : Row) → Contains bound.tables t → had last t k ≡ picked_at t k
  all_had last is t k here = nothing_left t here last k (none_left (left_of last) bound.tables t is here)
