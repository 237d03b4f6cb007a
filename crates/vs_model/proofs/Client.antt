-- A client that applies the changes of a frame goes on having the rows that it is to have.
use Rattle.std.proofs.Common.{◌≡◌, ◌≢◌, ℕ, Bool, true, false, not, cond, ◌||◌, List, [], ◌∷◌, ◌++◌, append_assoc, map, Option, Some, None, IfSome, Contains, fold, option_and_then, refl, ap, sym, ◌∙◌, subst, true≢false}
use Rattle.std.specs.List.{list_any, last_or, AllByRecursion}
use Rattle.std.specs.Ordering.{is_eq, is_gt, nat_cmp}
use Rattle.std.specs.FinMap.{nat_cmp-IsAntisymmetric, slice_cmp-IsAntisymmetric}
use Rattle.std.specs.Cmp.{IsTotalOrder, Equal-is}
use Rattle.std.specs.Cmp.Lexicographic.{slice_cmp, lists_total}
use Rattle.std.specs.declared.cmp.Ordering.{Ordering}
use Rattle.std.specs.declared.cmp.Ordering.TheVariants.{Less, Equal, Greater}
use Rattle.std.proofs.lemmas.Bool.{or_from}
use Rattle.std.proofs.lemmas.Cmp.{tied_itself, nat_cmp_total}
use Rattle.std.proofs.lemmas.List.Folds.{list_any-append}
use Rattle.vs_base.specs.declared.Change.{Change}
use Rattle.vs_base.specs.declared.LastKey.{LastKey}
use Rattle.vs_model.specs.Logs.{Image}
use Rattle.vs_model.specs.Copy.{Bound, row_at, is_after, is_after_in}
use Rattle.vs_model.specs.Copies.{AreAscending, KeepsKeys, client_after, has_told_key}
use Rattle.vs_model.proofs.Lists.{cons_is_not_nil, same_some, some_is_not_none}
use Rattle.vs_model.proofs.Each.{all_none, all_weaker}
use Rattle.vs_model.proofs.Keys.{less_turned, greater_turned, greater_twice, equal_from, row_has_key}
use Rattle.vs_model.proofs.CopyRows.{pick, IsPickedRow, pick-alike, by_key, rows_left, left_picked, left_after, left_ascend, left_found}

greater_from : (r : Ordering) → is_gt r ≡ true → r ≡ Greater
greater_from Less f = absurd (true≢false (sym f))
greater_from Equal f = absurd (true≢false (sym f))
greater_from Greater f = refl

pub tables_total : IsTotalOrder (slice_cmp nat_cmp)
tables_total = lists_total nat_cmp_total

-- tables of one name are one
pub same_table : (t u : List ℕ) → is_eq (slice_cmp nat_cmp t u) ≡ true → t ≡ u
same_table t u e = slice_cmp-IsAntisymmetric nat_cmp-IsAntisymmetric t u ((Equal-is (slice_cmp nat_cmp t u)).0 e)

pub its_table : (t : List ℕ) → is_eq (slice_cmp nat_cmp t t) ≡ true
its_table t = ap is_eq (tied_itself tables_total t)

pub cond_same : {X : Type 0} (b : Bool) (x : X) → cond b x x ≡ x
cond_same true x = refl
cond_same false x = refl

module _ {X : Type 0} where
  -- items that ascend, about one of them
  pub around : (cmp : X → X → Ordering) (front rest : List X) (x : X) → AreAscending cmp (front ++ x ∷ rest) →
      AllByRecursion (λ y. cmp y x ≡ Less) front × AllByRecursion (λ y. cmp x y ≡ Less) rest
  around cmp [] rest x h = (tt, h.0)
  around cmp (y ∷ front) rest x h = let on = around cmp front rest x h.1 in ((at front h.0, on.0), on.1)
    where
      at : (ys : List X) → AllByRecursion (λ z. cmp y z ≡ Less) (ys ++ x ∷ rest) → cmp y x ≡ Less
      at [] k = k.0
      at (z ∷ ys) k = at ys k.1

-- rows by their last one
pub record LastRow (rows : List (Image × Image)) (key : Image) : Type 0 where
  pub front : List (Image × Image)
  pub last : Image × Image
  pub are : rows ≡ front ++ last ∷ []
  pub is : last.0 ≡ key

pub last_row : (rows : List (Image × Image)) (o : Option Image) (key : Image) → rows ≢ [] → last_or o (map (λ row. row.0) rows) ≡ Some key → LastRow rows key
last_row [] o key some is = absurd (some refl)
last_row (row ∷ []) o key some is = record { front = []; last = row; are = refl; is = same_some row.0 key is }
last_row (row ∷ next ∷ rows) o key some is =
    let on = last_row (next ∷ rows) (Some row.0) key (cons_is_not_nil _ _) is in
    record { front = row ∷ on.front; last = on.last; are = ap (λ l. row ∷ l) on.are; is = on.is }

module _ (bound : Bound) (told_key : List ℕ → Image → Image) (keeps : KeepsKeys bound told_key) (table : List ℕ) (picked : Contains bound.tables table)
    (o : IsTotalOrder (bound.order table)) where
  abbrev R : Image → Image → Ordering
  R = bound.order table

  -- the changes that a chunk tells
  abbrev pub told_rows : List ℕ → List (Image × Image) → List Change
  told_rows t rows = map (λ row. record { table = t; before = None; after = Some row }) (map (λ row. row.1) rows)

  -- rows of another table change nothing
  pub other_rows : (t : List ℕ) (rows : List (Image × Image)) (key : Image) (row : Option Image) → is_eq (slice_cmp nat_cmp t table) ≡ false →
      fold (client_after bound told_key table key) row (told_rows t rows) ≡ row
  other_rows t [] key row other = refl
  other_rows t (r ∷ rows) key row other =
      ap (λ b. fold (client_after bound told_key table key) (cond b (cond (has_told_key bound told_key table key (Some r.1)) (Some r.1) row) row) (told_rows t rows)) other
      ∙ other_rows t rows key row other

  module _ (changes : List Change) where
    told_key_of : (k row : Image) (there : Option Image) → row_at bound changes table k ≡ there → option_and_then (bound.row table) there ≡ Some row →
        R (told_key table row) k ≡ Equal
    told_key_of k row None e is = absurd (some_is_not_none row (sym is))
    told_key_of k row (Some x) e is =
        let same : told_key table row ≡ bound.key table x = subst (λ i. IfSome i (λ told. told_key table told ≡ bound.key table x)) is (keeps table x picked) in
        ap (λ y. R y k) same ∙ row_has_key bound table o changes k x e

    -- a picked row that is told has the key at which it stands
    pub told_row_key : (k row : Image) → pick bound table o changes k ≡ Some row → R (told_key table row) k ≡ Equal
    told_row_key k row is = told_key_of k row (row_at bound changes table k) refl is

    -- each row of a chunk is what the client is to have at its key
    chunk_row : (key : Image) (r : Image × Image) (row : Option Image) (b : Bool) → IsPickedRow bound table o changes r → is_eq (R r.0 key) ≡ b →
        client_after bound told_key table key row (record { table = table; before = None; after = Some r.1 }) ≡ cond b (pick bound table o changes key) row
    chunk_row key r row b is e =
        let at_key : is_eq (R (told_key table r.1) key) ≡ b = ap is_eq (o.congr (told_key table r.1) r.0 key (told_row_key r.0 r.1 is)) ∙ e in
        ap (λ h. cond h (cond (is_eq (R (told_key table r.1) key)) (Some r.1) row) row) (its_table table)
        ∙ ap (λ h. cond h (Some r.1) row) at_key ∙ by b e
      where
        by : (h : Bool) → is_eq (R r.0 key) ≡ h → cond h (Some r.1) row ≡ cond h (pick bound table o changes key) row
        by true f = sym (sym (pick-alike bound table o changes r.0 key (equal_from o r.0 key f)) ∙ is)
        by false f = refl

    two_steps : (a b : Bool) (x u : Option Image) → cond b x (cond a x u) ≡ cond (a || b) x u
    two_steps true b x u = cond_same b x
    two_steps false b x u = refl

    pub chunk_rows : (key : Image) (rows : List (Image × Image)) (row : Option Image) → AllByRecursion (IsPickedRow bound table o changes) rows →
        fold (client_after bound told_key table key) row (told_rows table rows)
        ≡ cond (list_any (λ r. is_eq (R r.0 key)) rows) (pick bound table o changes key) row
    chunk_rows key [] row h = refl
    chunk_rows key (r ∷ rows) row h =
        ap (λ u. fold (client_after bound told_key table key) u (told_rows table rows)) (chunk_row key r row (is_eq (R r.0 key)) h.0 refl)
        ∙ chunk_rows key rows (cond (is_eq (R r.0 key)) (pick bound table o changes key) row) h.1
        ∙ two_steps (is_eq (R r.0 key)) (list_any (λ r. is_eq (R r.0 key)) rows) (pick bound table o changes key) row

    -- after a chunk of this table
    module _ (l : Option LastKey) (key : LastKey) (rest : List (Image × Image)) (rows : List (Image × Image)) (are : rows_left bound changes l table ≡ rows ++ rest)
        (last : LastRow rows key.key) (k : Image) where
      whole : rows_left bound changes l table ≡ last.front ++ last.last ∷ rest
      whole = are ∙ ap (λ x. x ++ rest) last.are ∙ append_assoc last.front (last.last ∷ []) rest

      ordered : AllByRecursion (λ r. by_key bound table o changes r last.last ≡ Less) last.front × AllByRecursion (λ r. by_key bound table o changes last.last r ≡ Less) rest
      ordered = around (by_key bound table o changes) last.front rest last.last
          (subst (AreAscending (by_key bound table o changes)) whole (left_ascend bound table o changes l))

      last_is : R last.last.0 k ≡ R key.key k
      last_is = ap (λ x. R x k) last.is

      -- no row of the chunk has a key behind the last one
      none_behind : R k key.key ≡ Greater → list_any (λ r. is_eq (R r.0 k)) rows ≡ false
      none_behind e =
          let last_less : R last.last.0 k ≡ Less = last_is ∙ greater_turned o k key.key e in
          let front : list_any (λ r. is_eq (R r.0 k)) last.front ≡ false =
          all_none (λ r. is_eq (R r.0 k)) last.front
          (all_weaker (λ r. R r.0 last.last.0 ≡ Less) (λ r. is_eq (R r.0 k) ≡ false)
          (λ r h. ap is_eq (o.trans r.0 last.last.0 k h last_less)) last.front ordered.0) in
          ap (list_any (λ r. is_eq (R r.0 k))) last.are ∙ list_any-append (λ r. is_eq (R r.0 k)) last.front (last.last ∷ [])
          ∙ or_from (list_any (λ r. is_eq (R r.0 k)) last.front) (is_eq (R last.last.0 k) || false) front
          (or_from (is_eq (R last.last.0 k)) false (ap is_eq last_less) refl)

      upto_turned : (r : Ordering) → R k key.key ≡ r → is_gt r ≡ false → (x : Image) → R last.last.0 x ≡ Less → is_eq (R x k) ≡ false
      upto_turned Less e up x h = ap is_eq (less_turned o k x (o.trans k last.last.0 x (sym (alike_by last.is) ∙ e) h))
        where
          alike_by : last.last.0 ≡ key.key → R k key.key ≡ R k last.last.0
          alike_by same = ap (R k) (sym same)
      upto_turned Equal e up x h = ap is_eq (less_turned o k x (o.congr k key.key x e ∙ ap (λ y. R y x) (sym last.is) ∙ h))
      upto_turned Greater e up x h = absurd (true≢false up)

      -- no row that is left has a key up to the last one
      none_left_upto : is_gt (R k key.key) ≡ false → list_any (λ r. is_eq (R r.0 k)) rest ≡ false
      none_left_upto up =
          all_none (λ r. is_eq (R r.0 k)) rest
          (all_weaker (λ r. R last.last.0 r.0 ≡ Less) (λ r. is_eq (R r.0 k) ≡ false) (λ r h. upto_turned (R k key.key) refl up r.0 h) rest ordered.1)

      -- what is behind the last row of the chunk is behind the last row before it
      later_in : (last : LastKey) (r : Ordering) → is_after_in bound last table key.key r ≡ true → R k key.key ≡ Greater → is_after_in bound last table k r ≡ true
      later_in last Less h e = absurd (true≢false (sym h))
      later_in last Equal h e = ap is_gt (greater_twice o k key.key last.key e (greater_from (R key.key last.key) h))
      later_in last Greater h e = refl

      later : (m : Option LastKey) → is_after bound m table key.key ≡ true → R k key.key ≡ Greater → is_after bound m table k ≡ true
      later None h e = refl
      later (Some m) h e = later_in m (slice_cmp nat_cmp table m.table) h e

      last_after : is_after bound l table key.key ≡ true
      last_after =
          let all = subst (AllByRecursion (λ r. is_after bound l table r.0 ≡ true)) whole (left_after bound table o changes l) in
          sym (ap (is_after bound l table) last.is) ∙ at last.front all
        where
          at : (front : List (Image × Image)) → AllByRecursion (λ r. is_after bound l table r.0 ≡ true) (front ++ last.last ∷ rest) → is_after bound l table last.last.0 ≡ true
          at [] h = h.0
          at (r ∷ front) h = at front h.1

      no_row_upto : is_gt (R k key.key) ≡ false → list_any (λ r. is_eq (R r.0 k)) rows ≡ false → is_after bound l table k ≡ true →
          (row : Option Image) → pick bound table o changes k ≡ row → None ≡ row
      no_row_upto up none behind None e = refl
      no_row_upto up none behind (Some row) e = absurd (true≢false
          (sym (sym (ap (list_any (λ r. is_eq (R r.0 k))) are) ∙ left_found bound table o changes l k row behind e)
          ∙ (list_any-append (λ r. is_eq (R r.0 k)) rows rest ∙ or_from (list_any (λ r. is_eq (R r.0 k)) rows) (list_any (λ r. is_eq (R r.0 k)) rest) none (none_left_upto up))))

      by_last : (behind : Bool) → is_gt (R k key.key) ≡ behind →
          cond (list_any (λ r. is_eq (R r.0 k)) rows) (pick bound table o changes k) (cond (not (is_after bound l table k)) (pick bound table o changes k) None)
          ≡ cond (not behind) (pick bound table o changes k) None
      by_last true e =
          let greater = greater_from (R k key.key) e in
          ap (λ b. cond b (pick bound table o changes k) (cond (not (is_after bound l table k)) (pick bound table o changes k) None)) (none_behind greater)
          ∙ ap (λ b. cond (not b) (pick bound table o changes k) None) (later l last_after greater)
      by_last false e = by (list_any (λ r. is_eq (R r.0 k)) rows) refl (is_after bound l table k) refl
        where
          by : (any : Bool) → list_any (λ r. is_eq (R r.0 k)) rows ≡ any → (behind : Bool) → is_after bound l table k ≡ behind →
              cond any (pick bound table o changes k) (cond (not behind) (pick bound table o changes k) None) ≡ pick bound table o changes k
          by true f behind g = refl
          by false f false g = refl
          by false f true g = no_row_upto e f g (pick bound table o changes k) refl

      -- the client has the rows up to the last key
      pub chunk_told : fold (client_after bound told_key table k) (cond (not (is_after bound l table k)) (pick bound table o changes k) None) (told_rows table rows)
          ≡ cond (not (is_gt (R k key.key))) (pick bound table o changes k) None
      chunk_told =
          let picked_ones = front_all rows (subst (AllByRecursion (IsPickedRow bound table o changes)) are (left_picked bound table o changes l)) in
          chunk_rows k rows (cond (not (is_after bound l table k)) (pick bound table o changes k) None) picked_ones ∙ by_last (is_gt (R k key.key)) refl
        where
          front_all : (xs : List (Image × Image)) → AllByRecursion (IsPickedRow bound table o changes) (xs ++ rest) → AllByRecursion (IsPickedRow bound table o changes) xs
          front_all [] h = tt
          front_all (x ∷ xs) h = (h.0, front_all xs h.1)
