-- The rows that a copy has still to send, and the first of them that it sends.
use Rattle.std.proofs.Common.{◌≡◌, ◌≢◌, ◌⊎◌, inl, inr, ⊎_elim, ℕ, zero, suc, ◌+◌, Bool, true, false, cond, ◌||◌, List, [], ◌∷◌, ◌++◌, map, length, Option, Some, None, filter, filter_map, find, nat_le, option_map, option_and_then, if◌then◌else◌, refl, ap, sym, ◌∙◌, subst, arith}
use Rattle.std.specs.List.{list_any, cons_option, AllByRecursion}
use Rattle.std.specs.Ordering.{is_eq, is_gt, nat_cmp}
use Rattle.std.specs.Cmp.{IsTotalOrder}
use Rattle.std.specs.Cmp.Lexicographic.{slice_cmp}
use Rattle.std.specs.declared.cmp.Ordering.{Ordering}
use Rattle.std.specs.declared.cmp.Ordering.TheVariants.{Less, Equal, Greater}
use Rattle.std.proofs.lemmas.Bool.{cases_Bool, or_left, or_right, le-leb}
use Rattle.vs_base.specs.Cells.{row_size}
use Rattle.vs_base.specs.declared.Change.{Change}
use Rattle.vs_base.specs.declared.LastKey.{LastKey}
use Rattle.vs_model.specs.Logs.{Image}
use Rattle.vs_model.specs.Copy.{Bound, row_at, keys_of, picked_rows, is_after, is_after_in, within_limits, chunk_of}
use Rattle.vs_model.specs.Copies.{AreAscending, picked_row_at}
use Rattle.vs_model.proofs.Lists.{cons_is_not_nil, same_some, some_is_not_none}
use Rattle.vs_model.proofs.Each.{kept_either, all_filtered, all_pass, any_filtered}
use Rattle.vs_model.proofs.Keys.{equal_from, row_at-alike, key_found, keys_ascend}

module _ {X : Type 0} where
  pub filter_ascends : (cmp : X → X → Ordering) (t : X → Bool) (xs : List X) → AreAscending cmp xs → AreAscending cmp (filter t xs)
  filter_ascends cmp t [] h = tt
  filter_ascends cmp t (x ∷ xs) h =
      kept_either (AreAscending cmp) t x xs (λ e. (all_filtered (λ y. cmp x y ≡ Less) t xs h.0, filter_ascends cmp t xs h.1)) (λ e. filter_ascends cmp t xs h.1)

-- the picked rows of a table behind the last row that was sent
abbrev pub rows_left : Bound → List Change → Option LastKey → List ℕ → List (Image × Image)
rows_left bound changes l table = filter (λ row. is_after bound l table row.0) (picked_rows bound changes table)

module _ (bound : Bound) (table : List ℕ) (o : IsTotalOrder (bound.order table)) (changes : List Change) where
  abbrev R : Image → Image → Ordering
  R = bound.order table

  abbrev pub pick : Image → Option Image
  pick key = picked_row_at bound changes table key

  abbrev with_key : Image → Option (Image × Image)
  with_key key = option_map (λ row. (key, row)) (pick key)

  abbrev pub IsPickedRow : Image × Image → Type 0
  IsPickedRow row = pick row.0 ≡ Some row.1

  pub pick-alike : (k j : Image) → R k j ≡ Equal → pick k ≡ pick j
  pick-alike k j e = ap (option_and_then (bound.row table)) (row_at-alike bound table o changes k j e)

  are_picked : (keys : List Image) → AllByRecursion IsPickedRow (filter_map with_key keys)
  are_picked [] = tt
  are_picked (k ∷ keys) = by (pick k) refl (are_picked keys)
    where
      by : (row : Option Image) → pick k ≡ row → AllByRecursion IsPickedRow (filter_map with_key keys) →
          AllByRecursion IsPickedRow (cons_option (option_map (λ x. (k, x)) row) (filter_map with_key keys))
      by None e h = h
      by (Some row) e h = (e, h)

  behind_key : (x : Image) (keys : List Image) → AllByRecursion (λ y. R x y ≡ Less) keys → AllByRecursion (λ row. R x row.0 ≡ Less) (filter_map with_key keys)
  behind_key x [] h = tt
  behind_key x (k ∷ keys) h = by (pick k) (behind_key x keys h.1)
    where
      by : (row : Option Image) → AllByRecursion (λ r. R x r.0 ≡ Less) (filter_map with_key keys) →
          AllByRecursion (λ r. R x r.0 ≡ Less) (cons_option (option_map (λ y. (k, y)) row) (filter_map with_key keys))
      by None all = all
      by (Some row) all = (h.0, all)

  abbrev pub by_key : Image × Image → Image × Image → Ordering
  by_key a b = R a.0 b.0

  rows_ascend : (keys : List Image) → AreAscending R keys → AreAscending by_key (filter_map with_key keys)
  rows_ascend [] h = tt
  rows_ascend (k ∷ keys) h = by (pick k) (behind_key k keys h.0) (rows_ascend keys h.1)
    where
      by : (row : Option Image) → AllByRecursion (λ r. R k r.0 ≡ Less) (filter_map with_key keys) → AreAscending by_key (filter_map with_key keys) →
          AreAscending by_key (cons_option (option_map (λ y. (k, y)) row) (filter_map with_key keys))
      by None all on = on
      by (Some row) all on = (all, on)

  row_found : (k row : Image) (keys : List Image) → pick k ≡ Some row → list_any (λ y. is_eq (R y k)) keys ≡ true →
      list_any (λ r. is_eq (R r.0 k)) (filter_map with_key keys) ≡ true
  row_found k row [] is any = any
  row_found k row (x ∷ keys) is any = ⊎_elim
      (λ e. let here : with_key x ≡ Some (x, row) = ap (option_map (λ y. (x, y))) (pick-alike x k (equal_from o x k e) ∙ is) in
      ap (λ i. list_any (λ r. is_eq (R r.0 k)) (cons_option i (filter_map with_key keys))) here ∙ or_left (is_eq (R x k)) _ e)
      (λ e. any_cons (with_key x) (row_found k row keys is (sym (ap (λ b. b || list_any (λ y. is_eq (R y k)) keys) e) ∙ any)))
      (cases_Bool (is_eq (R x k)))
    where
      any_cons : (i : Option (Image × Image)) → list_any (λ r. is_eq (R r.0 k)) (filter_map with_key keys) ≡ true →
          list_any (λ r. is_eq (R r.0 k)) (cons_option i (filter_map with_key keys)) ≡ true
      any_cons None h = h
      any_cons (Some r) h = or_right (is_eq (R r.0 k)) _ h

  pick_has_row : (k row : Image) (there : Option Image) → row_at bound changes table k ≡ there → option_and_then (bound.row table) there ≡ Some row →
      (x : Image) × (row_at bound changes table k ≡ Some x)
  pick_has_row k row None e is = absurd (some_is_not_none row (sym is))
  pick_has_row k row (Some x) e is = (x, e)

  -- where there is a picked row at a key, it is among the picked rows
  picked_found : (k row : Image) → pick k ≡ Some row → list_any (λ r. is_eq (R r.0 k)) (picked_rows bound changes table) ≡ true
  picked_found k row is =
      let there = pick_has_row k row (row_at bound changes table k) refl is in
      row_found k row (keys_of bound changes table) is (key_found bound table o changes k there.0 there.1)

  abbrev left_rows : Option LastKey → List (Image × Image)
  left_rows l = rows_left bound changes l table

  module _ (l : Option LastKey) where
    pub left_picked : AllByRecursion IsPickedRow (left_rows l)
    left_picked = all_filtered IsPickedRow (λ row. is_after bound l table row.0) (picked_rows bound changes table) (are_picked (keys_of bound changes table))

    pub left_after : AllByRecursion (λ row. is_after bound l table row.0 ≡ true) (left_rows l)
    left_after = all_pass (λ row. is_after bound l table row.0) (picked_rows bound changes table)

    pub left_ascend : AreAscending by_key (left_rows l)
    left_ascend =
        filter_ascends by_key (λ row. is_after bound l table row.0) (picked_rows bound changes table)
        (rows_ascend (keys_of bound changes table) (keys_ascend bound table o changes))

    after-alike_in : (k j : Image) → R k j ≡ Equal → (last : LastKey) (r : Ordering) → is_after_in bound last table k r ≡ is_after_in bound last table j r
    after-alike_in k j e last Less = refl
    after-alike_in k j e last Equal = ap is_gt (o.congr k j last.key e)
    after-alike_in k j e last Greater = refl

    pub after-alike : (k j : Image) → R k j ≡ Equal → is_after bound l table k ≡ is_after bound l table j
    after-alike k j e = by l
      where
        by : (m : Option LastKey) → is_after bound m table k ≡ is_after bound m table j
        by None = refl
        by (Some last) = after-alike_in k j e last (slice_cmp nat_cmp table last.table)

    pub left_found : (k row : Image) → is_after bound l table k ≡ true → pick k ≡ Some row → list_any (λ r. is_eq (R r.0 k)) (left_rows l) ≡ true
    left_found k row later is =
        any_filtered (λ r. is_eq (R r.0 k)) (λ r. is_after bound l table r.0) (picked_rows bound changes table)
        (λ r e. after-alike r.0 k (equal_from o r.0 k e) ∙ later) (picked_found k row is)

-- of the rows that are left the first are sent
within_front : (rows : List (Image × Image)) (n size : ℕ) → (rest : List (Image × Image)) × (rows ≡ within_limits n size rows ++ rest)
within_front [] n size = ([], refl)
within_front (row ∷ rows) zero size = (row ∷ rows, refl)
within_front (row ∷ rows) (suc n) size = by (nat_le (size + row_size row.1) 4194304) (within_front rows n (size + row_size row.1))
  where
    by : (b : Bool) → (rest : List (Image × Image)) × (rows ≡ within_limits n (size + row_size row.1) rows ++ rest) →
        (rest : List (Image × Image)) × (row ∷ rows ≡ (if b then row ∷ within_limits n (size + row_size row.1) rows else []) ++ rest)
    by true h = (h.0, ap (λ l. row ∷ l) h.1)
    by false h = (row ∷ rows, refl)

pub chunk_front : (rows : List (Image × Image)) → (rest : List (Image × Image)) × (rows ≡ chunk_of rows ++ rest)
chunk_front [] = ([], refl)
chunk_front (row ∷ rows) =
    let h = within_front rows 99 (row_size row.1) in
    (h.0, ap (λ l. row ∷ l) h.1)

-- the first table that has rows left
pub record FirstLeft (bound : Bound) (changes : List Change) (l : Option LastKey) (tables : List (List ℕ)) (table : List ℕ) (rows : List (Image × Image)) : Type 0 where
  pub before : List (List ℕ)
  pub behind : List (List ℕ)
  pub at : tables ≡ before ++ table ∷ behind
  pub none_before : AllByRecursion (λ t. rows_left bound changes l t ≡ []) before
  pub some : rows_left bound changes l table ≢ []
  pub are : rows ≡ chunk_of (rows_left bound changes l table)

module _ (bound : Bound) (changes : List Change) (l : Option LastKey) where
  abbrev left : List ℕ → List (Image × Image)
  left table = rows_left bound changes l table

  abbrev FoundIn : List (List ℕ) → Option (List ℕ × List (Image × Image))
  FoundIn tables =
      option_map {T = List ℕ × List (Image × Image)} (λ t. (t.0, chunk_of t.1)) (find (λ t. nat_le 1 (length t.1)) (map (λ table. (table, left table)) tables))

  none_or_some : {X : Type 0} (xs : List X) → (xs ≡ []) ⊎ ((nat_le 1 (length xs) ≡ true) × (xs ≢ []))
  none_or_some [] = inl refl
  none_or_some (x ∷ xs) = inr (leb_one (length xs), cons_is_not_nil x xs)
    where
      leb_one : (n : ℕ) → nat_le 1 (suc n) ≡ true
      leb_one n = le-leb 1 (suc n) (omega arith)

  not_less : {X : Type 0} (xs : List X) → xs ≡ [] → nat_le 1 (length xs) ≡ false
  not_less xs e = ap (λ ys. nat_le 1 (length ys)) e

  -- a pair by its parts
  abbrev found : List ℕ → List (Image × Image) → Option (List ℕ × List (Image × Image))
  found table rows = Some (table, rows)

  pair_first : (t u : List ℕ) (x y : List (Image × Image)) → found t x ≡ found u y → t ≡ u
  pair_first t u x y e = ap (λ p. p.0) (same_some {X = List ℕ × List (Image × Image)} (t, x) (u, y) e)

  pair_second : (t u : List ℕ) (x y : List (Image × Image)) → found t x ≡ found u y → x ≡ y
  pair_second t u x y e = ap (λ p. p.1) (same_some {X = List ℕ × List (Image × Image)} (t, x) (u, y) e)

  pub first_left : (tables : List (List ℕ)) (table : List ℕ) (rows : List (Image × Image)) → FoundIn tables ≡ Some (table, rows) →
      FirstLeft bound changes l tables table rows
  first_left [] table rows is = absurd (some_is_not_none (table, rows) (sym is))
  first_left (t ∷ tables) table rows is = ⊎_elim
      (λ none.
      let on = first_left tables table rows (sym (ap pick_of (not_less (left t) none)) ∙ is) in
      record { before = t ∷ on.before; behind = on.behind; at = ap (λ ts. t ∷ ts) on.at; none_before = (none, on.none_before); some = on.some; are = on.are })
      (λ some.
      let here = sym (ap pick_of some.0) ∙ is in
      let same = pair_first t table (chunk_of (left t)) rows here in
      record {
        before = [];
        behind = tables;
        at = ap (λ x. x ∷ tables) same;
        none_before = tt;
        some = subst (λ x. left x ≢ []) same some.1;
        are = sym (pair_second t table (chunk_of (left t)) rows here) ∙ ap (λ x. chunk_of (left x)) same;
      })
      (none_or_some (left t))
    where
      pick_of : Bool → Option (List ℕ × List (Image × Image))
      pick_of b = option_map {T = List ℕ × List (Image × Image)} (λ x. (x.0, chunk_of x.1))
          (cond b (Some (t, left t)) (find (λ x. nat_le 1 (length x.1)) (map (λ x. (x, left x)) tables)))

  pub none_left_in : (tables : List (List ℕ)) → FoundIn tables ≡ None → AllByRecursion (λ t. rows_left bound changes l t ≡ []) tables
  none_left_in [] is = tt
  none_left_in (t ∷ tables) is = ⊎_elim
      (λ none. (none, none_left_in tables (sym (ap pick_of (not_less (left t) none)) ∙ is)))
      (λ some. absurd (some_is_not_none (t, chunk_of (left t)) (sym (ap pick_of some.0) ∙ is)))
      (none_or_some (left t))
    where
      pick_of : Bool → Option (List ℕ × List (Image × Image))
      pick_of b = option_map {T = List ℕ × List (Image × Image)} (λ x. (x.0, chunk_of x.1))
          (cond b (Some (t, left t)) (find (λ x. nat_le 1 (length x.1)) (map (λ x. (x, left x)) tables)))
