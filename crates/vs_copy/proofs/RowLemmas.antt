-- The rows of a table after changes: at each key that came the row that the changes leave there.
use Rattle.std.proofs.Common.{◌≡◌, ℕ, Bool, true, false, not, cond, ◌&&◌, ◌||◌, List, [], ◌∷◌, ◌++◌, Option, Some, None, IfSome, filter, filter_map, fold, option_map, refl, ap, ap₂, sym, ◌∙◌, subst}
use Rattle.std.proofs.Math.Path.{fun_ext}
use Rattle.std.specs.List.{AllByRecursion, cons_option, list_any}
use Rattle.std.specs.Ordering.{is_eq, is_gt, is_lt, nat_cmp, ordering_reverse}
use Rattle.std.specs.Cmp.{IsTotalOrder, Equal-is}
use Rattle.std.specs.Cmp.Lexicographic.{slice_cmp}
use Rattle.std.specs.declared.cmp.Ordering.{Ordering}
use Rattle.std.specs.declared.cmp.Ordering.TheVariants.{Less, Equal, Greater}
use Rattle.std.proofs.lemmas.Bool.{or_left, or_right}
use Rattle.std.proofs.lemmas.Cmp.{alike_right, tied_itself}
use Rattle.vs_base.specs.declared.cell.Cell.{Cell}
use Rattle.vs_base.specs.declared.change.Change.{Change}
use Rattle.vs_model.specs.Copy.{Bound, has_key, kept_if, key_put, key_put_at, keys_of, row_after, row_at}
use Rattle.vs_model.specs.Copies.{AreAscending}

abbrev pub Row : Type 0
Row = List Cell

-- ---- rows, by an order of keys and the key of each row

module _ (R : Row → Row → Ordering) (K : Row → Row) where
  abbrev pub rows_gone : Option Row → List Row → List Row
  rows_gone None rows = rows
  rows_gone (Some b) rows = filter (λ row. not (is_eq (R (K b) (K row)))) rows

  abbrev pub rows_come : Option Row → List Row → List Row
  rows_come None rows = rows
  rows_come (Some a) rows = filter (λ row. is_gt (R (K a) (K row))) rows ++ a ∷ filter (λ row. is_lt (R (K a) (K row))) rows

  abbrev pub rows_after_change : List ℕ → List Row → Change → List Row
  rows_after_change name rows c = cond (is_eq (slice_cmp nat_cmp c.table name)) (rows_come c.after (rows_gone c.before rows)) rows

  -- the row at a key without one, and with one
  abbrev pub gone_at : Option Row → Row → Option Row → Option Row
  gone_at None k row = row
  gone_at (Some b) k row = cond (is_eq (R (K b) k)) None row

  abbrev come_at : Option Row → Row → Option Row → Option Row
  come_at None k row = row
  come_at (Some a) k row = cond (is_eq (R (K a) k)) (Some a) row

  abbrev put_if : Option Row → List Row → List Row
  put_if None keys = keys
  put_if (Some a) keys = key_put R (K a) keys

  -- each row is at its own key
  abbrev pub AtOwnKeys : (Row → Option Row) → Type 0
  AtOwnKeys r = (k : Row) → IfSome (r k) (λ row. R (K row) k ≡ Equal)

  -- rows by their keys, which ascend; and what else holds of each key
  pub record AreAt (P : Row → Type 0) (rows : List Row) (r : Row → Option Row) (keys : List Row) : Type 0 where
    pub are : rows ≡ filter_map r keys
    pub own : AtOwnKeys r
    pub ascend : AreAscending R keys
    pub each : AllByRecursion P keys
    -- a key with a row is among the keys
    pub found : (k row : Row) → r k ≡ Some row → list_any (λ y. is_eq (R y k)) keys ≡ true

module _ (R : Row → Row → Ordering) (o : IsTotalOrder R) (K : Row → Row) where
  own_gone : (image : Option Row) (r : Row → Option Row) → AtOwnKeys R K r → AtOwnKeys R K (λ k. gone_at R K image k (r k))
  own_gone None r own k = own k
  own_gone (Some b) r own k = go (is_eq (R (K b) k))
    where
      go : (h : Bool) → IfSome (cond h None (r k)) (λ row. R (K row) k ≡ Equal)
      go true = tt
      go false = own k

  own_come : (image : Option Row) (r : Row → Option Row) → AtOwnKeys R K r → AtOwnKeys R K (λ k. come_at R K image k (r k))
  own_come None r own k = own k
  own_come (Some a) r own k = go (is_eq (R (K a) k)) refl
    where
      go : (h : Bool) → is_eq (R (K a) k) ≡ h → IfSome (cond h (Some a) (r k)) (λ row. R (K row) k ≡ Equal)
      go true e = (Equal-is (R (K a) k)).0 e
      go false e = own k

  abbrev no_row : Option Row
  no_row = None

  none_either : (h : Bool) → cond h no_row no_row ≡ no_row
  none_either true = refl
  none_either false = refl

  gone_rows : (b : Row) (r : Row → Option Row) (keys : List Row) → AtOwnKeys R K r →
      rows_gone R K (Some b) (filter_map r keys) ≡ filter_map (λ k. gone_at R K (Some b) k (r k)) keys
  gone_rows b r [] own = refl
  gone_rows b r (k ∷ keys) own = go (r k) (own k) (gone_rows b r keys own)
    where
      by : (x : Row) → filter (λ y. not (is_eq (R (K b) (K y)))) (filter_map r keys) ≡ filter_map (λ y. gone_at R K (Some b) y (r y)) keys → (t : Bool) →
          cond (not t) (x ∷ filter (λ y. not (is_eq (R (K b) (K y)))) (filter_map r keys)) (filter (λ y. not (is_eq (R (K b) (K y)))) (filter_map r keys))
          ≡ cons_option (cond t None (Some x)) (filter_map (λ y. gone_at R K (Some b) y (r y)) keys)
      by x e true = e
      by x e false = ap (λ l. x ∷ l) e

      go : (row : Option Row) → IfSome row (λ x. R (K x) k ≡ Equal) →
          filter (λ x. not (is_eq (R (K b) (K x)))) (filter_map r keys) ≡ filter_map (λ x. gone_at R K (Some b) x (r x)) keys →
          filter (λ x. not (is_eq (R (K b) (K x)))) (cons_option row (filter_map r keys))
          ≡ cons_option (cond (is_eq (R (K b) k)) None row) (filter_map (λ x. gone_at R K (Some b) x (r x)) keys)
      go None h e = e ∙ sym (ap (λ x. cons_option x (filter_map (λ y. gone_at R K (Some b) y (r y)) keys)) (none_either (is_eq (R (K b) k))))
      go (Some x) h e =
          ap (λ q. cond (not (is_eq q)) (x ∷ filter (λ y. not (is_eq (R (K b) (K y)))) (filter_map r keys)) (filter (λ y. not (is_eq (R (K b) (K y)))) (filter_map r keys)))
          (alike_right o (K x) k (K b) h)
          ∙ by x e (is_eq (R (K b) k))

  -- keys behind the one that comes
  module _ (a : Row) (r : Row → Option Row) where
    abbrev AreBehind : List Row → Type 0
    AreBehind ys = AllByRecursion (λ y. R (K a) y ≡ Less) ys

    come_behind : (ys : List Row) → AreBehind ys → filter_map (λ k. come_at R K (Some a) k (r k)) ys ≡ filter_map r ys
    come_behind [] h = refl
    come_behind (y ∷ ys) h = ap₂ (λ q rest. cons_option (cond (is_eq q) (Some a) (r y)) rest) h.0 (come_behind ys h.1)

    kept_behind : (own : AtOwnKeys R K r) (ys : List Row) → AreBehind ys → filter (λ row. is_lt (R (K a) (K row))) (filter_map r ys) ≡ filter_map r ys
    kept_behind own [] h = refl
    kept_behind own (y ∷ ys) h = go (r y) (own y) (kept_behind own ys h.1)
      where
        go : (row : Option Row) → IfSome row (λ x. R (K x) y ≡ Equal) → filter (λ x. is_lt (R (K a) (K x))) (filter_map r ys) ≡ filter_map r ys →
            filter (λ x. is_lt (R (K a) (K x))) (cons_option row (filter_map r ys)) ≡ cons_option row (filter_map r ys)
        go None k e = e
        go (Some x) k e =
            ap (λ q. cond (is_lt q) (x ∷ filter (λ z. is_lt (R (K a) (K z))) (filter_map r ys)) (filter (λ z. is_lt (R (K a) (K z))) (filter_map r ys)))
            (alike_right o (K x) y (K a) k ∙ h.0)
            ∙ ap (λ l. x ∷ l) e

    dropped_behind : (own : AtOwnKeys R K r) (ys : List Row) → AreBehind ys → filter (λ row. is_gt (R (K a) (K row))) (filter_map r ys) ≡ []
    dropped_behind own [] h = refl
    dropped_behind own (y ∷ ys) h = go (r y) (own y) (dropped_behind own ys h.1)
      where
        go : (row : Option Row) → IfSome row (λ x. R (K x) y ≡ Equal) → filter (λ x. is_gt (R (K a) (K x))) (filter_map r ys) ≡ [] →
            filter (λ x. is_gt (R (K a) (K x))) (cons_option row (filter_map r ys)) ≡ []
        go None k e = e
        go (Some x) k e =
            ap (λ q. cond (is_gt q) (x ∷ filter (λ z. is_gt (R (K a) (K z))) (filter_map r ys)) (filter (λ z. is_gt (R (K a) (K z))) (filter_map r ys)))
            (alike_right o (K x) y (K a) k ∙ h.0)
            ∙ e

    from_less : (x : Row) (ys : List Row) → R (K a) x ≡ Less → AllByRecursion (λ y. R x y ≡ Less) ys → AreBehind ys
    from_less x [] e h = tt
    from_less x (y ∷ ys) e h = (o.trans (K a) x y e h.0, from_less x ys e h.1)

    from_equal : (x : Row) (ys : List Row) → R (K a) x ≡ Equal → AllByRecursion (λ y. R x y ≡ Less) ys → AreBehind ys
    from_equal x [] e h = tt
    from_equal x (y ∷ ys) e h = (o.congr (K a) x y e ∙ h.0, from_equal x ys e h.1)

    -- a row at a key, ahead of others, by how the key that comes stands to it
    with_tied : (x : Row) (row : Option Row) (rest : List Row) → IfSome row (λ z. R (K z) x ≡ Equal) → R (K a) x ≡ Equal →
        rows_come R K (Some a) (cons_option row rest) ≡ rows_come R K (Some a) rest
    with_tied x None rest own e = refl
    with_tied x (Some z) rest own e =
        ap (λ q. cond (is_gt q) (z ∷ filter (λ y. is_gt (R (K a) (K y))) rest) (filter (λ y. is_gt (R (K a) (K y))) rest)
        ++ a ∷ cond (is_lt q) (z ∷ filter (λ y. is_lt (R (K a) (K y))) rest) (filter (λ y. is_lt (R (K a) (K y))) rest))
        (alike_right o (K z) x (K a) own ∙ e)

    with_ahead : (x : Row) (row : Option Row) (rest : List Row) → IfSome row (λ z. R (K z) x ≡ Equal) → R (K a) x ≡ Greater →
        rows_come R K (Some a) (cons_option row rest) ≡ cons_option row (rows_come R K (Some a) rest)
    with_ahead x None rest own e = refl
    with_ahead x (Some z) rest own e =
        ap (λ q. cond (is_gt q) (z ∷ filter (λ y. is_gt (R (K a) (K y))) rest) (filter (λ y. is_gt (R (K a) (K y))) rest)
        ++ a ∷ cond (is_lt q) (z ∷ filter (λ y. is_lt (R (K a) (K y))) rest) (filter (λ y. is_lt (R (K a) (K y))) rest))
        (alike_right o (K z) x (K a) own ∙ e)

    -- the key that comes, and those behind it
    come_first : (own : AtOwnKeys R K r) (ys : List Row) → AreBehind ys →
        rows_come R K (Some a) (filter_map r ys) ≡ filter_map (λ k. come_at R K (Some a) k (r k)) (K a ∷ ys)
    come_first own ys h =
        ap₂ (λ p q. p ++ a ∷ q) (dropped_behind own ys h) (kept_behind own ys h)
        ∙ sym (ap₂ (λ q rest. cons_option (cond (is_eq q) (Some a) (r (K a))) rest) (tied_itself o (K a)) (come_behind ys h))

    come_rows : (own : AtOwnKeys R K r) (keys : List Row) → AreAscending R keys →
        rows_come R K (Some a) (filter_map r keys) ≡ filter_map (λ k. come_at R K (Some a) k (r k)) (key_put R (K a) keys)
    come_rows own [] h = come_first own [] tt
    come_rows own (x ∷ xs) h = go (R (K a) x) refl (come_rows own xs h.1)
      where
        go : (q : Ordering) → R (K a) x ≡ q →
            rows_come R K (Some a) (filter_map r xs) ≡ filter_map (λ k. come_at R K (Some a) k (r k)) (key_put R (K a) xs) →
            rows_come R K (Some a) (filter_map r (x ∷ xs)) ≡ filter_map (λ k. come_at R K (Some a) k (r k)) (key_put_at q (K a) x xs (key_put R (K a) xs))
        go Less e on = come_first own (x ∷ xs) (e, from_less x xs e h.0)
        go Equal e on =
            let all = from_equal x xs e h.0 in
            with_tied x (r x) (filter_map r xs) (own x) e
            ∙ ap₂ (λ p q. p ++ a ∷ q) (dropped_behind own xs all) (kept_behind own xs all)
            ∙ sym (ap₂ (λ q rest. cons_option (cond (is_eq q) (Some a) (r x)) rest) e (come_behind xs all))
        go Greater e on =
            with_ahead x (r x) (filter_map r xs) (own x) e
            ∙ ap (cons_option (r x)) on
            ∙ sym (ap (λ q. cons_option (cond (is_eq q) (Some a) (r x)) (filter_map (λ k. come_at R K (Some a) k (r k)) (key_put R (K a) xs))) e)

  -- what holds of each key holds of each with one more
  put_each : (P : Row → Type 0) (k : Row) (keys : List Row) → P k → AllByRecursion P keys → AllByRecursion P (key_put R k keys)
  put_each P k [] p h = (p, tt)
  put_each P k (x ∷ xs) p h = go (R k x) (put_each P k xs p h.1)
    where
      go : (q : Ordering) → AllByRecursion P (key_put R k xs) → AllByRecursion P (key_put_at q k x xs (key_put R k xs))
      go Less on = (p, h)
      go Equal on = h
      go Greater on = (h.0, on)

  -- one more key is found, and what was found before
  put_found : (k x : Row) (keys : List Row) → is_eq (R x k) ≡ true → list_any (λ y. is_eq (R y k)) (key_put R x keys) ≡ true
  put_found k x [] e = or_left (is_eq (R x k)) false e
  put_found k x (z ∷ zs) e = go (R x z) refl (put_found k x zs e)
    where
      go : (q : Ordering) → R x z ≡ q → list_any (λ y. is_eq (R y k)) (key_put R x zs) ≡ true →
          list_any (λ y. is_eq (R y k)) (key_put_at q x z zs (key_put R x zs)) ≡ true
      go Less f on = or_left (is_eq (R x k)) _ e
      go Equal f on = or_left (is_eq (R z k)) _ (sym (ap is_eq (o.congr x z k f)) ∙ e)
      go Greater f on = or_right (is_eq (R z k)) _ on

  put_finds : (k x : Row) (keys : List Row) → list_any (λ y. is_eq (R y k)) keys ≡ true → list_any (λ y. is_eq (R y k)) (key_put R x keys) ≡ true
  put_finds k x [] any = absurd (cc)
  put_finds k x (z ∷ zs) any = go (R x z) (λ e. put_finds k x zs e)
    where
      later : (b : Bool) → (list_any (λ y. is_eq (R y k)) zs ≡ true → list_any (λ y. is_eq (R y k)) (key_put R x zs) ≡ true) →
          (b || list_any (λ y. is_eq (R y k)) zs) ≡ true → (b || list_any (λ y. is_eq (R y k)) (key_put R x zs)) ≡ true
      later true on e = refl
      later false on e = on e

      go : (q : Ordering) → (list_any (λ y. is_eq (R y k)) zs ≡ true → list_any (λ y. is_eq (R y k)) (key_put R x zs) ≡ true) →
          list_any (λ y. is_eq (R y k)) (key_put_at q x z zs (key_put R x zs)) ≡ true
      go Less on = or_right (is_eq (R x k)) _ any
      go Equal on = any
      go Greater on = later (is_eq (R z k)) on any

  behind_first : (k x : Row) (ys : List Row) → R k x ≡ Less → AllByRecursion (λ y. R x y ≡ Less) ys → AllByRecursion (λ y. R k y ≡ Less) ys
  behind_first k x [] e h = tt
  behind_first k x (y ∷ ys) e h = (o.trans k x y e h.0, behind_first k x ys e h.1)

  put_ascends : (k : Row) (keys : List Row) → AreAscending R keys → AreAscending R (key_put R k keys)
  put_ascends k [] h = (tt, tt)
  put_ascends k (x ∷ xs) h = go (R k x) refl (put_ascends k xs h.1)
    where
      go : (q : Ordering) → R k x ≡ q → AreAscending R (key_put R k xs) → AreAscending R (key_put_at q k x xs (key_put R k xs))
      go Less e on = ((e, behind_first k x xs e h.0), h)
      go Equal e on = h
      go Greater e on = (put_each (λ y. R x y ≡ Less) k xs (o.antisymm x k ∙ ap ordering_reverse e) h.0, on)

  module _ (P : Row → Type 0) (p : (a : Row) → P (K a)) (r : Row → Option Row) where
    pub gone : (image : Option Row) (rows keys : List Row) → AreAt R K P rows r keys →
        AreAt R K P (rows_gone R K image rows) (λ k. gone_at R K image k (r k)) keys
    gone None rows keys h = h
    gone (Some b) rows keys h = record {
      are = ap (rows_gone R K (Some b)) h.are ∙ gone_rows b r keys h.own;
      own = own_gone (Some b) r h.own;
      ascend = h.ascend;
      each = h.each;
      found = λ k row is. go k row (is_eq (R (K b) k)) is;
    }
      where
        go : (k row : Row) (g : Bool) → cond g None (r k) ≡ Some row → list_any (λ y. is_eq (R y k)) keys ≡ true
        go k row true is = absurd (cc)
        go k row false is = h.found k row is

    come : (image : Option Row) (rows keys : List Row) → AreAt R K P rows r keys →
        AreAt R K P (rows_come R K image rows) (λ k. come_at R K image k (r k)) (put_if R K image keys)
    come None rows keys h = h
    come (Some a) rows keys h = record {
      are = ap (rows_come R K (Some a)) h.are ∙ come_rows a r h.own keys h.ascend;
      own = own_come (Some a) r h.own;
      ascend = put_ascends (K a) keys h.ascend;
      each = put_each P (K a) keys (p a) h.each;
      found = λ k row is. go k row (is_eq (R (K a) k)) refl is;
    }
      where
        go : (k row : Row) (g : Bool) → is_eq (R (K a) k) ≡ g → cond g (Some a) (r k) ≡ Some row →
            list_any (λ y. is_eq (R y k)) (key_put R (K a) keys) ≡ true
        go k row true e is = put_found k (K a) keys e
        go k row false e is = put_finds k (K a) keys (h.found k row is)

-- ---- the same by the definitions of a copy

module _ (bound : Bound) (name : List ℕ) (o : IsTotalOrder (bound.order name)) (P : Row → Type 0) (p : (a : Row) → P (bound.key name a)) where
  abbrev R : Row → Row → Ordering
  R = bound.order name

  abbrev K : Row → Row
  K = bound.key name

  -- the row at a key after a change, by whether the change is one of the table
  abbrev row_by : Bool → Option Row → Option Row → Row → Option Row → Option Row
  row_by here before after k row =
      cond (here && (has_key bound name k before || has_key bound name k after)) (kept_if (has_key bound name k after) after) row

  changed_at : (before after : Option Row) (k : Row) (row : Option Row) → row_by true before after k row ≡ come_at R K after k (gone_at R K before k row)
  changed_at None None k row = refl
  changed_at (Some b) None k row = go (is_eq (R (K b) k))
    where
      go : (h : Bool) → cond (h || false) None row ≡ cond h None row
      go true = refl
      go false = refl
  changed_at None (Some a) k row = go (is_eq (R (K a) k))
    where
      go : (h : Bool) → cond h (kept_if h (Some a)) row ≡ cond h (Some a) row
      go true = refl
      go false = refl
  changed_at (Some b) (Some a) k row = go (is_eq (R (K b) k)) (is_eq (R (K a) k))
    where
      go : (g h : Bool) → cond (g || h) (kept_if h (Some a)) row ≡ cond h (Some a) (cond g None row)
      go true true = refl
      go true false = refl
      go false true = refl
      go false false = refl

  changed : (before after : Option Row) (rows : List Row) (r : Row → Option Row) (keys : List Row) → AreAt R K P rows r keys →
      AreAt R K P (rows_come R K after (rows_gone R K before rows)) (λ k. row_by true before after k (r k)) (put_if R K after keys)
  changed before after rows r keys h =
      let same : (λ k. row_by true before after k (r k)) ≡ (λ k. come_at R K after k (gone_at R K before k (r k))) =
      fun_ext (λ k. changed_at before after k (r k)) in
      subst (λ f. AreAt R K P (rows_come R K after (rows_gone R K before rows)) f (put_if R K after keys)) (sym same)
      (come R o K P p (λ k. gone_at R K before k (r k)) after (rows_gone R K before rows) keys
      (gone R o K P p r before rows keys h))

  abbrev came : List Change → List Row
  came changes = filter_map (λ c. option_map (bound.key name) c.after) (filter (λ c. is_eq (slice_cmp nat_cmp c.table name)) changes)

  abbrev keys_with : List Row → List Row → List Row
  keys_with keys more = fold (λ ks k. key_put R k ks) keys more

  abbrev rows_with : List Row → List Change → List Row
  rows_with rows changes = fold (rows_after_change R K name) rows changes

  abbrev GoOn : List Change → Type 0
  GoOn changes =
      (rows : List Row) (r : Row → Option Row) (keys : List Row) → AreAt R K P rows r keys →
      AreAt R K P (rows_with rows changes) (λ k. fold (row_after bound name k) (r k) changes) (keys_with keys (came changes))

  one_changed : (c : Change) (changes : List Change) → GoOn changes → GoOn (c ∷ changes)
  one_changed c changes on rows r keys h = go (is_eq (slice_cmp nat_cmp c.table name))
    where
      here : (before after : Option Row) →
          AreAt R K P (rows_with (rows_come R K after (rows_gone R K before rows)) changes)
          (λ k. fold (row_after bound name k) (row_by true before after k (r k)) changes)
          (keys_with keys (cons_option (option_map (bound.key name) after) (came changes)))
      here before None =
          on (rows_gone R K before rows) (λ k. row_by true before None k (r k)) keys (changed before None rows r keys h)
      here before (Some a) =
          on (rows_come R K (Some a) (rows_gone R K before rows)) (λ k. row_by true before (Some a) k (r k)) (key_put R (K a) keys) (changed before (Some a) rows r keys h)

      go : (b : Bool) → AreAt R K P (rows_with (cond b (rows_come R K c.after (rows_gone R K c.before rows)) rows) changes)
          (λ k. fold (row_after bound name k) (row_by b c.before c.after k (r k)) changes)
          (keys_with keys (filter_map (λ (x : Change). option_map (bound.key name) x.after)
          (cond b (c ∷ filter (λ (x : Change). is_eq (slice_cmp nat_cmp x.table name)) changes) (filter (λ (x : Change). is_eq (slice_cmp nat_cmp x.table name)) changes))))
      go true = here c.before c.after
      go false = on rows r keys h

  all_changed : (changes : List Change) → GoOn changes
  all_changed [] rows r keys h = h
  all_changed (c ∷ changes) rows r keys h = one_changed c changes (all_changed changes) rows r keys h

  none_at : AreAt R K P [] (λ k. None) []
  none_at = record { are = refl; own = λ k. tt; ascend = tt; each = tt; found = λ k row is. absurd (cc) }

  -- the rows that changes leave, by their keys
  pub left_at : (changes : List Change) → AreAt R K P (rows_with [] changes) (row_at bound changes name) (keys_of bound changes name)
  left_at changes = all_changed changes [] (λ k. None) [] none_at
