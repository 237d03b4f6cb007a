-- A client that applies what is told of changes goes on having the picked rows that were sent.
use Rattle.std.proofs.Common.{◌≡◌, ◌⊎◌, inl, inr, ℕ, Bool, true, false, not, cond, ◌||◌, ◌&&◌, List, [], ◌∷◌, ◌++◌, append_assoc, append-nil, Option, Some, None, IfSome, Contains, is_some, fold, filter_map, option_and_then, refl, ap, sym, ◌∙◌, subst, true≢false}
use Rattle.std.specs.List.{cons_option}
use Rattle.std.specs.Ordering.{is_eq, is_gt, nat_cmp}
use Rattle.std.specs.FinMap.{nat_cmp-IsAntisymmetric, slice_cmp-IsAntisymmetric}
use Rattle.std.specs.Cmp.{IsTotalOrder, Equal-is}
use Rattle.std.specs.Cmp.Lexicographic.{lists_total, slice_cmp}
use Rattle.std.specs.declared.cmp.Ordering.{Ordering}
use Rattle.std.specs.declared.cmp.Ordering.TheVariants.{Less, Equal, Greater}
use Rattle.std.proofs.lemmas.Bool.{or_parts}
use Rattle.std.proofs.lemmas.Cmp.{alike_right, nat_cmp_total, tied_itself}
use Rattle.std.proofs.lemmas.List.Sums.{fold-append}
use Rattle.vs_base.specs.declared.change.Change.{Change}
use Rattle.vs_base.specs.declared.change.LastKey.{LastKey}
use Rattle.vs_base.specs.Picks.{Bound, picked_change}
use Rattle.vs_model.specs.Copy.{change_within, has_key, image_within, is_after, is_after_in, kept_if, row_after, row_at}
use Rattle.vs_model.specs.Copies.{ChangesFit, KeepsKeys, client_after, has_told_key}
use Rattle.vs_copy.proofs.RowLemmas.{Row}

pub tables_total : IsTotalOrder (slice_cmp nat_cmp)
tables_total = lists_total nat_cmp_total

pub same_table : (t u : List ℕ) → is_eq (slice_cmp nat_cmp t u) ≡ true → t ≡ u
same_table t u e = slice_cmp-IsAntisymmetric nat_cmp-IsAntisymmetric t u ((Equal-is (slice_cmp nat_cmp t u)).0 e)

pub its_table : (t : List ℕ) → is_eq (slice_cmp nat_cmp t t) ≡ true
its_table t = ap is_eq (tied_itself tables_total t)

either_way : {X : Type 0} (b : Bool) (x : X) → cond b x x ≡ x
either_way true x = refl
either_way false x = refl

and_itself : (b : Bool) → (b && true) ≡ b
and_itself true = refl
and_itself false = refl

taken_away : (o : Option Row) → cond (is_some o) None o ≡ None
taken_away None = refl
taken_away (Some x) = refl

none_of : (o : Option Row) → is_some o ≡ false → o ≡ None
none_of None e = refl
none_of (Some x) e = absurd (true≢false e)

-- equal keys have one row, and stand to a last row alike
module _ (bound : Bound) (table : List ℕ) (o : IsTotalOrder (bound.order table)) (a b : Row) (e : bound.order table a b ≡ Equal) where
  after_in_alike : (l : LastKey) (q : Ordering) → is_after_in bound l table a q ≡ is_after_in bound l table b q
  after_in_alike l Less = refl
  after_in_alike l Equal = ap is_gt (o.congr a b l.key e)
  after_in_alike l Greater = refl

  pub after_alike : (last : Option LastKey) → is_after bound last table a ≡ is_after bound last table b
  after_alike None = refl
  after_alike (Some l) = after_in_alike l (slice_cmp nat_cmp table l.table)

  pub has_alike : (image : Option Row) → has_key bound table a image ≡ has_key bound table b image
  has_alike None = refl
  has_alike (Some row) = ap is_eq (alike_right o a b (bound.key table row) e)

  row_alike : (changes : List Change) (row : Option Row) → fold (row_after bound table a) row changes ≡ fold (row_after bound table b) row changes
  row_alike [] row = refl
  row_alike (c ∷ changes) row =
      row_alike changes (row_after bound table a row c)
      ∙ ap (λ h. fold (row_after bound table b) (cond (is_eq (slice_cmp nat_cmp c.table table) && (h || has_key bound table a c.after)) (kept_if (has_key bound table a c.after) c.after) row) changes) (has_alike c.before)
      ∙ ap (λ h. fold (row_after bound table b) (cond (is_eq (slice_cmp nat_cmp c.table table) && (has_key bound table b c.before || h)) (kept_if h c.after) row) changes) (has_alike c.after)

  pub at_alike : (changes : List Change) → row_at bound changes table a ≡ row_at bound changes table b
  at_alike changes = row_alike changes None

module _ (bound : Bound) (told_key : List ℕ → Row → Row) (keeps : KeepsKeys bound told_key) (table : List ℕ) (here : Contains bound.tables table)
    (o : IsTotalOrder (bound.order table)) where
  abbrev R : Row → Row → Ordering
  R = bound.order table

  abbrev pick : Option Row → Option Row
  pick image = option_and_then (bound.row table) image

  equal : (a b : Row) → is_eq (R a b) ≡ true → R a b ≡ Equal
  equal a b e = (Equal-is (R a b)).0 e

  module _ (k : Row) where
    abbrev has : Option Row → Bool
    has image = has_key bound table k image

    abbrev is_told : Option Row → Bool
    is_told image = has_told_key bound told_key table k image

    -- an image that is picked is told with its key
    pub told_picked : (image : Option Row) → is_told (pick image) ≡ (has image && is_some (pick image))
    told_picked None = refl
    told_picked (Some row) = go (bound.row table row) (keeps table row here)
      where
        go : (t : Option Row) → IfSome t (λ x. told_key table x ≡ bound.key table row) → is_told t ≡ (is_eq (R (bound.key table row) k) && is_some t)
        go None h = sym (by (is_eq (R (bound.key table row) k)))
          where
            by : (b : Bool) → (b && false) ≡ false
            by true = refl
            by false = refl
        go (Some x) h = ap (λ y. is_eq (R y k)) h ∙ sym (and_itself (is_eq (R (bound.key table row) k)))

    module _ (l : LastKey) where
      abbrev passed : Row → Bool
      passed key = not (is_after bound (Some l) table key)

      abbrev told : Option Row → Option Row
      told image = pick (image_within bound l table image)

      told_here : (image : Option Row) → has image ≡ true → told image ≡ cond (passed k) (pick image) None
      told_here None e = absurd (true≢false (sym e))
      told_here (Some row) e =
          ap (λ b. pick (kept_if (not b) (Some row))) (after_alike bound table o (bound.key table row) k (equal (bound.key table row) k e) (Some l))
          ∙ by (passed k)
        where
          by : (b : Bool) → pick (kept_if b (Some row)) ≡ cond b (pick (Some row)) None
          by true = refl
          by false = refl

      told_elsewhere : (image : Option Row) → has image ≡ false → is_told (told image) ≡ false
      told_elsewhere None e = refl
      told_elsewhere (Some row) e = by (passed (bound.key table row))
        where
          by : (b : Bool) → is_told (pick (kept_if b (Some row))) ≡ false
          by true = told_picked (Some row) ∙ ap (λ h. h && is_some (pick (Some row))) e
          by false = refl

      -- what a change leaves at the key, of the client's rows and of the table's
      module _ (before after row : Option Row) where
        abbrev client_then : Option Row → Option Row
        client_then had = cond (is_told (told after)) (told after) (cond (is_told (told before)) None had)

        abbrev FitsBefore : Type 0
        FitsBefore = has before ≡ true → row ≡ before

        abbrev FitsAfter : Type 0
        FitsAfter = has after ≡ true → (row ≡ None) ⊎ ((row ≡ before) × (has before ≡ true))

        -- the row of the before image goes
        gone : FitsBefore → has before ≡ true → cond (is_told (told before)) None (cond (passed k) (pick row) None) ≡ None
        gone fits b =
            ap (λ i. cond (is_told i) None (cond (passed k) (pick row) None)) (told_here before b)
            ∙ ap (λ r. cond (is_told (cond (passed k) (pick before) None)) None (cond (passed k) (pick r) None)) (fits b)
            ∙ by (passed k)
          where
            by : (w : Bool) → cond (is_told (cond w (pick before) None)) None (cond w (pick before) None) ≡ None
            by true =
                ap (λ x. cond x None (pick before)) (told_picked before ∙ ap (λ h. h && is_some (pick before)) b) ∙ taken_away (pick before)
            by false = refl

        none_had : (w : Bool) → cond w (pick None) None ≡ None
        none_had true = refl
        none_had false = refl

        -- where the after image has another key
        kept : FitsBefore → has after ≡ false → (b : Bool) → has before ≡ b →
            client_then (cond (passed k) (pick row) None) ≡ cond (passed k) (pick (cond (b || false) None row)) None
        kept fits a true b =
            ap (λ x. cond x (told after) (cond (is_told (told before)) None (cond (passed k) (pick row) None))) (told_elsewhere after a)
            ∙ gone fits b ∙ sym (none_had (passed k))
        kept fits a false b =
            ap (λ x. cond x (told after) (cond (is_told (told before)) None (cond (passed k) (pick row) None))) (told_elsewhere after a)
            ∙ ap (λ x. cond x None (cond (passed k) (pick row) None)) (told_elsewhere before b)

        -- where it has this key
        come : FitsBefore → FitsAfter → has after ≡ true → client_then (cond (passed k) (pick row) None) ≡ cond (passed k) (pick after) None
        come fits fits_too a =
            ap (λ i. cond (is_told i) i (cond (is_told (told before)) None (cond (passed k) (pick row) None))) (told_here after a)
            ∙ by (passed k) refl
          where
            free : (row ≡ None) ⊎ ((row ≡ before) × (has before ≡ true)) → cond (is_told (told before)) None (cond (passed k) (pick row) None) ≡ None
            free (inl none) =
                ap (λ r. cond (is_told (told before)) None (cond (passed k) (pick r) None)) none
                ∙ ap (λ r. cond (is_told (told before)) None r) (none_had (passed k)) ∙ either_way (is_told (told before)) None
            free (inr same) = gone fits same.1

            by_told : (w : Bool) → passed k ≡ w → (t : Option Row) → pick after ≡ t → is_told t ≡ is_some t →
                cond (is_told t) t (cond (is_told (told before)) None (cond w (pick row) None)) ≡ t
            by_told w e None f is = ap (λ x. cond (is_told (told before)) None (cond x (pick row) None)) (sym e) ∙ free (fits_too a)
            by_told w e (Some t) f is = ap (λ x. cond x (Some t) (cond (is_told (told before)) None (cond w (pick row) None))) is

            by : (w : Bool) → passed k ≡ w →
                cond (is_told (cond w (pick after) None)) (cond w (pick after) None) (cond (is_told (told before)) None (cond (passed k) (pick row) None))
                ≡ cond w (pick after) None
            by true e =
                ap (λ x. cond (is_told (pick after)) (pick after) (cond (is_told (told before)) None (cond x (pick row) None))) e
                ∙ by_told true e (pick after) refl (told_picked after ∙ ap (λ h. h && is_some (pick after)) a)
            by false e =
                ap (λ x. cond (is_told (told before)) None (cond x (pick row) None)) e ∙ either_way (is_told (told before)) None

        one_told : FitsBefore → FitsAfter → (b a : Bool) → has before ≡ b → has after ≡ a →
            client_then (cond (passed k) (pick row) None) ≡ cond (passed k) (pick (cond (b || a) (kept_if a after) row)) None
        one_told fits fits_too true true b a = come fits fits_too a
        one_told fits fits_too false true b a = come fits fits_too a
        one_told fits fits_too true false b a = kept fits a true b
        one_told fits fits_too false false b a = kept fits a false b

      -- how a change fits the rows before it, at the key
      module _ (changes : List Change) where
        fits_before : (image : Option Row) → IfSome image (λ x. row_at bound changes table (bound.key table x) ≡ Some x) →
            has image ≡ true → row_at bound changes table k ≡ image
        fits_before None fits h = absurd (true≢false (sym h))
        fits_before (Some x) fits h = sym (at_alike bound table o (bound.key table x) k (equal (bound.key table x) k h) changes) ∙ fits

        fits_after : (own : (row : Row) → row_at bound changes table k ≡ Some row → R (bound.key table row) k ≡ Equal) (before after : Option Row) →
            IfSome after (λ x. IfSome (row_at bound changes table (bound.key table x)) (λ there. before ≡ Some there)) → has after ≡ true →
            (row_at bound changes table k ≡ None) ⊎ ((row_at bound changes table k ≡ before) × (has before ≡ true))
        fits_after own before None fits h = absurd (true≢false (sym h))
        fits_after own before (Some x) fits h =
            by (row_at bound changes table k) refl
            (subst (λ i. IfSome i (λ there. before ≡ Some there)) (at_alike bound table o (bound.key table x) k (equal (bound.key table x) k h) changes) fits)
          where
            by : (row : Option Row) → row_at bound changes table k ≡ row → IfSome row (λ there. before ≡ Some there) →
                (row_at bound changes table k ≡ None) ⊎ ((row_at bound changes table k ≡ before) × (has before ≡ true))
            by None e f = inl e
            by (Some there) e f = inr (e ∙ sym f, ap has f ∙ ap is_eq (own there e))

      abbrev client : Option Row → Change → Option Row
      client row c = client_after bound told_key table k row c

      abbrev told_change : Change → Change
      told_change c = record c {
        before = option_and_then (bound.row c.table) (image_within bound l c.table c.before);
        after = option_and_then (bound.row c.table) (image_within bound l c.table c.after);
      }

      -- a change of which no image is told changes nothing
      left_out : (c : Change) (rest : List Change) (row : Option Row) (b : Bool) → (is_some c.before || is_some c.after) ≡ b →
          fold client row (cons_option (cond b (Some c) None) rest) ≡ fold client (client row c) rest
      left_out c rest row true e = refl
      left_out c rest row false e =
          let parts = or_parts (is_some c.before) (is_some c.after) e in
          ap (λ r. fold client r rest) (sym (
          ap (λ i. cond (is_eq (slice_cmp nat_cmp c.table table)) (cond (is_told i) i (cond (is_told c.before) None row)) row) (none_of c.after parts.1)
          ∙ ap (λ i. cond (is_eq (slice_cmp nat_cmp c.table table)) (cond (is_told i) None row) row) (none_of c.before parts.0)
          ∙ either_way (is_eq (slice_cmp nat_cmp c.table table)) row))

      module _ (own : (changes : List Change) (row : Row) → row_at bound changes table k ≡ Some row → R (bound.key table row) k ≡ Equal) where
        abbrev sent : List Change → Option Row
        sent changes = cond (passed k) (pick (row_at bound changes table k)) None

        change_told : (changes : List Change) (c : Change) (b : Bool) → is_eq (slice_cmp nat_cmp c.table table) ≡ b →
            (Contains bound.tables c.table → IfSome c.before (λ x. row_at bound changes c.table (bound.key c.table x) ≡ Some x)
            × IfSome c.after (λ x. IfSome (row_at bound changes c.table (bound.key c.table x)) (λ there. c.before ≡ Some there))) →
            cond b (cond (is_told (told_change c).after) (told_change c).after (cond (is_told (told_change c).before) None (sent changes))) (sent changes)
            ≡ cond (passed k) (pick (cond (b && (has c.before || has c.after)) (kept_if (has c.after) c.after) (row_at bound changes table k))) None
        change_told changes c false e fits = refl
        change_told changes c true e fits =
            let same = same_table c.table table e in
            let at = subst (λ t. IfSome c.before (λ x. row_at bound changes t (bound.key t x) ≡ Some x)
            × IfSome c.after (λ x. IfSome (row_at bound changes t (bound.key t x)) (λ there. c.before ≡ Some there))) same
            (fits (subst (Contains bound.tables) (sym same) here)) in
            ap (λ t. cond (is_told (option_and_then (bound.row t) (image_within bound l t c.after))) (option_and_then (bound.row t) (image_within bound l t c.after))
            (cond (is_told (option_and_then (bound.row t) (image_within bound l t c.before))) None (sent changes))) same
            ∙ one_told c.before c.after (row_at bound changes table k) (fits_before changes c.before at.0) (fits_after changes (own changes) c.before c.after at.1)
            (has c.before) (has c.after) refl refl

        -- after all changes that were applied
        pub changes_told : (cs changes : List Change) → ChangesFit bound (changes ++ cs) →
            fold client (sent changes) (filter_map (λ c. picked_change bound (change_within bound l c)) cs) ≡ sent (changes ++ cs)
        changes_told [] changes fit = ap sent (sym (append-nil changes))
        changes_told (c ∷ cs) changes fit =
            let rest : List Change = filter_map (λ x. picked_change bound (change_within bound l x)) cs in
            let assoc = append_assoc changes (c ∷ []) cs in
            left_out (told_change c) rest (sent changes) (is_some (told_change c).before || is_some (told_change c).after) refl
            ∙ ap (λ r. fold client r rest) (
            change_told changes c (is_eq (slice_cmp nat_cmp c.table table)) refl (fit changes cs c refl)
            ∙ ap (λ r. cond (passed k) (pick r) None) (sym (fold-append (row_after bound table k) None changes (c ∷ []))))
            ∙ changes_told cs (changes ++ c ∷ []) (subst (ChangesFit bound) (sym assoc) fit)
            ∙ ap sent assoc
