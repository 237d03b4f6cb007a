-- A client that applies the changes of an entry, as the filter picks them and within the keys that it has, goes on having the picked rows of these keys.
use Rattle.std.proofs.Common.{◌≡◌, ◌⊎◌, inl, inr, ⊎_elim, ℕ, Bool, true, false, cond, ◌||◌, ◌&&◌, List, [], ◌∷◌, ◌++◌, append_assoc, append-nil, map, Option, Some, None, IfSome, Contains, is_some, fold, filter_map, option_and_then, refl, ap, sym, ◌∙◌, subst, true≢false}
use Rattle.std.proofs.Math.Bool.{and-false}
use Rattle.std.specs.List.{cons_option}
use Rattle.std.specs.Ordering.{is_eq, nat_cmp}
use Rattle.std.specs.Cmp.{IsTotalOrder}
use Rattle.std.specs.Cmp.Lexicographic.{slice_cmp}
use Rattle.std.specs.declared.cmp.Ordering.{Ordering}
use Rattle.std.specs.declared.cmp.Ordering.TheVariants.{Equal}
use Rattle.std.proofs.lemmas.Bool.{or_parts}
use Rattle.std.proofs.lemmas.List.Sums.{fold-append}
use Rattle.vs_base.specs.declared.Change.{Change}
use Rattle.vs_model.specs.Logs.{Image}
use Rattle.vs_model.specs.Copy.{Bound, has_key, kept_if, row_after, row_at, picked_change}
use Rattle.vs_model.specs.Copies.{KeepsKeys, ChangesFit, client_after, has_told_key}
use Rattle.vs_model.proofs.Keys.{equal_from, row_at-alike, row_has_key}
use Rattle.vs_model.proofs.Client.{cond_same, same_table, its_table}

none_of : {X : Type 0} (o : Option X) → is_some o ≡ false → o ≡ None
none_of None e = refl
none_of (Some x) e = absurd (true≢false e)

-- a row that is taken away where it is picked is gone
taken_away : (o : Option Image) → cond (is_some o) None o ≡ None
taken_away None = refl
taken_away (Some x) = refl

-- the change with those images alone whose keys are within
abbrev pub cut_image : Bound → (List ℕ → Image → Bool) → List ℕ → Option Image → Option Image
cut_image bound within t None = None
cut_image bound within t (Some row) = kept_if (within t (bound.key t row)) (Some row)

abbrev pub cut : Bound → (List ℕ → Image → Bool) → Change → Change
cut bound within c = record c { before = cut_image bound within c.table c.before; after = cut_image bound within c.table c.after }

module _ (bound : Bound) (told_key : List ℕ → Image → Image) (keeps : KeepsKeys bound told_key) (table : List ℕ) (picked : Contains bound.tables table)
    (o : IsTotalOrder (bound.order table)) (within : List ℕ → Image → Bool)
    (alike : (k j : Image) → bound.order table k j ≡ Equal → within table k ≡ within table j) where
  abbrev R : Image → Image → Ordering
  R = bound.order table

  abbrev pick_row : Option Image → Option Image
  pick_row image = option_and_then (bound.row table) image

  abbrev told_image : Option Image → Option Image
  told_image image = pick_row (cut_image bound within table image)

  module _ (k : Image) where
    -- an image is told with the key where it has it, is picked, and the key is within
    abbrev IsTold : Option Image → Type 0
    IsTold image = has_told_key bound told_key table k (told_image image) ≡ (within table k && (has_key bound table k image && is_some (pick_row image)))

    kept_key : (row : Image) (told : Option Image) → bound.row table row ≡ told → IfSome told (λ t. told_key table t ≡ bound.key table row)
    kept_key row told is = subst (λ i. IfSome i (λ t. told_key table t ≡ bound.key table row)) is (keeps table row picked)

    told_within : (row : Image) (told : Option Image) → bound.row table row ≡ told → (h w : Bool) → is_eq (R (bound.key table row) k) ≡ h →
        within table k ≡ w → (h ≡ true → w ≡ true) → has_told_key bound told_key table k told ≡ (w && (h && is_some told))
    told_within row None is true true e f both = refl
    told_within row None is true false e f both = refl
    told_within row None is false true e f both = refl
    told_within row None is false false e f both = refl
    told_within row (Some t) is h w e f both =
        ap (λ x. is_eq (R x k)) (kept_key row (Some t) is) ∙ e ∙ by h w both
      where
        by : (a b : Bool) → (a ≡ true → b ≡ true) → a ≡ (b && (a && true))
        by true true g = refl
        by true false g = sym (g refl)
        by false true g = refl
        by false false g = refl

    told_either : (row : Image) (w : Bool) → within table (bound.key table row) ≡ w →
        has_told_key bound told_key table k (pick_row (kept_if w (Some row)))
        ≡ (within table k && (is_eq (R (bound.key table row) k) && is_some (bound.row table row)))
    told_either row true e =
        told_within row (bound.row table row) refl (is_eq (R (bound.key table row) k)) (within table k) refl refl
        (λ h. sym (alike (bound.key table row) k (equal_from o (bound.key table row) k h)) ∙ e)
    told_either row false e = by (is_eq (R (bound.key table row) k)) refl
      where
        by : (h : Bool) → is_eq (R (bound.key table row) k) ≡ h → false ≡ (within table k && (h && is_some (bound.row table row)))
        by true f = ap (λ w. w && is_some (bound.row table row)) (sym e ∙ alike (bound.key table row) k (equal_from o (bound.key table row) k f))
        by false f = sym (and-false (within table k))

    is_told : (image : Option Image) → IsTold image
    is_told None = sym (and-false (within table k))
    is_told (Some row) = told_either row (within table (bound.key table row)) refl

    -- such an image is told whole
    told_whole : (image : Option Image) → within table k ≡ true → has_key bound table k image ≡ true → told_image image ≡ pick_row image
    told_whole None w h = refl
    told_whole (Some row) w h =
        ap (λ b. pick_row (kept_if b (Some row))) (alike (bound.key table row) k (equal_from o (bound.key table row) k h) ∙ w)

    -- what a change of the table leaves, of the client and of the rows
    module _ (before after row : Option Image) where
      abbrev client_then : Option Image → Option Image
      client_then had =
          cond (has_told_key bound told_key table k (told_image after)) (told_image after) (cond (has_told_key bound told_key table k (told_image before)) None had)

      abbrev row_then : Option Image
      row_then = cond (has_key bound table k before || has_key bound table k after) (kept_if (has_key bound table k after) after) row

      -- the before image is the row, where it has the key
      abbrev FitsBefore : Type 0
      FitsBefore = has_key bound table k before ≡ true → row ≡ before

      -- where the after image has the key, there is no other row than that of the before image
      abbrev FitsAfter : Type 0
      FitsAfter = has_key bound table k after ≡ true → (row ≡ None) ⊎ ((row ≡ before) × (has_key bound table k before ≡ true))

      outside : within table k ≡ false → client_then None ≡ None
      outside w =
          ap (λ b. cond b (told_image after) (cond (has_told_key bound told_key table k (told_image before)) None None))
          (is_told after ∙ ap (λ x. x && (has_key bound table k after && is_some (pick_row after))) w)
          ∙ cond_same {X = Option Image} (has_told_key bound told_key table k (told_image before)) None

      told_by : within table k ≡ true → (image : Option Image) (h : Bool) → has_key bound table k image ≡ h →
          has_told_key bound told_key table k (told_image image) ≡ (h && is_some (pick_row image))
      told_by w image h e = is_told image ∙ ap (λ x. x && (has_key bound table k image && is_some (pick_row image))) w ∙ ap (λ x. x && is_some (pick_row image)) e

      -- the client's row is taken away where it was the picked row of the before image
      gone : within table k ≡ true → has_key bound table k before ≡ true → row ≡ before →
          cond (has_told_key bound told_key table k (told_image before)) None (pick_row row) ≡ None
      gone w b same =
          ap (λ x. cond x None (pick_row row)) (told_by w before true b) ∙ ap (λ i. cond (is_some (pick_row i)) None (pick_row row)) (sym same)
          ∙ taken_away (pick_row row)

      set : within table k ≡ true → FitsAfter → has_key bound table k after ≡ true → (p : Bool) → is_some (pick_row after) ≡ p →
          client_then (pick_row row) ≡ pick_row after
      set w fits a true e =
          ap (λ x. cond x (told_image after) (cond (has_told_key bound told_key table k (told_image before)) None (pick_row row))) (told_by w after true a ∙ e)
          ∙ told_whole after w a
      set w fits a false e =
          ap (λ x. cond x (told_image after) (cond (has_told_key bound told_key table k (told_image before)) None (pick_row row))) (told_by w after true a ∙ e)
          ∙ ⊎_elim
          (λ none. ap (λ i. cond (has_told_key bound told_key table k (told_image before)) None (pick_row i)) none ∙ cond_same {X = Option Image} (has_told_key bound told_key table k (told_image before)) None)
          (λ same. gone w same.1 same.0)
          (fits a)
          ∙ sym (none_of (pick_row after) e)

      inside : within table k ≡ true → FitsBefore → FitsAfter → (b a : Bool) → has_key bound table k before ≡ b → has_key bound table k after ≡ a →
          client_then (pick_row row) ≡ pick_row (cond (b || a) (kept_if a after) row)
      inside w fits_before fits_after true true e f = set w fits_after f (is_some (pick_row after)) refl
      inside w fits_before fits_after false true e f = set w fits_after f (is_some (pick_row after)) refl
      inside w fits_before fits_after true false e f =
          ap (λ x. cond x (told_image after) (cond (has_told_key bound told_key table k (told_image before)) None (pick_row row))) (told_by w after false f)
          ∙ gone w e (fits_before e)
      inside w fits_before fits_after false false e f =
          ap (λ x. cond x (told_image after) (cond (has_told_key bound told_key table k (told_image before)) None (pick_row row))) (told_by w after false f)
          ∙ ap (λ x. cond x None (pick_row row)) (told_by w before false e)

      pub one_told : FitsBefore → FitsAfter → (w : Bool) → within table k ≡ w →
          client_then (cond w (pick_row row) None) ≡ cond w (pick_row row_then) None
      one_told fits_before fits_after true e =
          inside e fits_before fits_after (has_key bound table k before) (has_key bound table k after) refl refl
      one_told fits_before fits_after false e = outside e

    -- how a change fits the rows before it, at the key
    fits_before : (changes : List Change) (image : Option Image) → IfSome image (λ x. row_at bound changes table (bound.key table x) ≡ Some x) →
        has_key bound table k image ≡ true → row_at bound changes table k ≡ image
    fits_before changes None fits h = absurd (true≢false (sym h))
    fits_before changes (Some x) fits h = sym (row_at-alike bound table o changes (bound.key table x) k (equal_from o (bound.key table x) k h)) ∙ fits

    fits_after : (changes : List Change) (before after : Option Image) →
        IfSome after (λ x. IfSome (row_at bound changes table (bound.key table x)) (λ there. before ≡ Some there)) → has_key bound table k after ≡ true →
        (row_at bound changes table k ≡ None) ⊎ ((row_at bound changes table k ≡ before) × (has_key bound table k before ≡ true))
    fits_after changes before None fits h = absurd (true≢false (sym h))
    fits_after changes before (Some x) fits h =
        by (row_at bound changes table k) refl
        (subst (λ i. IfSome i (λ there. before ≡ Some there)) (row_at-alike bound table o changes (bound.key table x) k (equal_from o (bound.key table x) k h)) fits)
      where
        by : (row : Option Image) → row_at bound changes table k ≡ row → IfSome row (λ there. before ≡ Some there) →
            (row_at bound changes table k ≡ None) ⊎ ((row_at bound changes table k ≡ before) × (has_key bound table k before ≡ true))
        by None e f = inl e
        by (Some there) e f =
            inr (e ∙ sym f, ap (has_key bound table k) f ∙ ap is_eq (row_has_key bound table o changes k there e))

    abbrev client : Option Image → Change → Option Image
    client row c = client_after bound told_key table k row c

    abbrev told : Change → Change
    told c = record c {
      before = option_and_then (bound.row c.table) (cut_image bound within c.table c.before);
      after = option_and_then (bound.row c.table) (cut_image bound within c.table c.after);
    }

    -- a change without an image that is told is left out, and changes nothing
    left_out : (c : Change) (rest : List Change) (row : Option Image) (b : Bool) → (is_some c.before || is_some c.after) ≡ b →
        fold client row (cons_option (cond b (Some c) None) rest) ≡ fold client (client row c) rest
    left_out c rest row true e = refl
    left_out c rest row false e =
        let parts = or_parts (is_some c.before) (is_some c.after) e in
        ap (λ r. fold client r rest) (sym (
        ap (λ i. cond (is_eq (slice_cmp nat_cmp c.table table)) (cond (has_told_key bound told_key table k i) i (cond (has_told_key bound told_key table k c.before) None row)) row) (none_of c.after parts.1)
        ∙ ap (λ i. cond (is_eq (slice_cmp nat_cmp c.table table)) (cond (has_told_key bound told_key table k i) None row) row) (none_of c.before parts.0)
        ∙ cond_same (is_eq (slice_cmp nat_cmp c.table table)) row))

    -- after one change
    here_told : (changes : List Change) (c : Change) → c.table ≡ table →
        IfSome c.before (λ x. row_at bound changes table (bound.key table x) ≡ Some x) →
        IfSome c.after (λ x. IfSome (row_at bound changes table (bound.key table x)) (λ there. c.before ≡ Some there)) →
        client (cond (within table k) (pick_row (row_at bound changes table k)) None) (told c)
        ≡ cond (within table k) (pick_row (row_after bound table k (row_at bound changes table k) c)) None
    here_told changes c same fits fits_too =
        let row = row_at bound changes table k in
        let had : Option Image = cond (within table k) (pick_row row) None in
        let is_here : is_eq (slice_cmp nat_cmp c.table table) ≡ true = ap (λ t. is_eq (slice_cmp nat_cmp t table)) same ∙ its_table table in
        ap (λ b. cond b (cond (has_told_key bound told_key table k (told c).after) (told c).after (cond (has_told_key bound told_key table k (told c).before) None had)) had) is_here
        ∙ ap (λ t. cond (has_told_key bound told_key table k (option_and_then (bound.row t) (cut_image bound within t c.after))) (option_and_then (bound.row t) (cut_image bound within t c.after))
        (cond (has_told_key bound told_key table k (option_and_then (bound.row t) (cut_image bound within t c.before))) None had)) same
        ∙ one_told c.before c.after row (fits_before changes c.before fits) (fits_after changes c.before c.after fits_too) (within table k) refl
        ∙ sym (ap (λ b. cond (within table k) (pick_row (cond (b && (has_key bound table k c.before || has_key bound table k c.after)) (kept_if (has_key bound table k c.after) c.after) row)) None) is_here)

    elsewhere_told : (changes : List Change) (c : Change) → is_eq (slice_cmp nat_cmp c.table table) ≡ false →
        client (cond (within table k) (pick_row (row_at bound changes table k)) None) (told c)
        ≡ cond (within table k) (pick_row (row_after bound table k (row_at bound changes table k) c)) None
    elsewhere_told changes c other =
        let row = row_at bound changes table k in
        let had : Option Image = cond (within table k) (pick_row row) None in
        ap (λ b. cond b (cond (has_told_key bound told_key table k (told c).after) (told c).after (cond (has_told_key bound told_key table k (told c).before) None had)) had) other
        ∙ sym (ap (λ b. cond (within table k) (pick_row (cond (b && (has_key bound table k c.before || has_key bound table k c.after)) (kept_if (has_key bound table k c.after) c.after) row)) None) other)

    change_told : (changes behind : List Change) (c : Change) → ChangesFit bound (changes ++ c ∷ behind) →
        client (cond (within table k) (pick_row (row_at bound changes table k)) None) (told c)
        ≡ cond (within table k) (pick_row (row_at bound (changes ++ c ∷ []) table k)) None
    change_told changes behind c fit =
        by (is_eq (slice_cmp nat_cmp c.table table)) refl
        ∙ ap (λ r. cond (within table k) (pick_row r) None) (sym (fold-append (row_after bound table k) None changes (c ∷ [])))
      where
        by : (b : Bool) → is_eq (slice_cmp nat_cmp c.table table) ≡ b →
            client (cond (within table k) (pick_row (row_at bound changes table k)) None) (told c)
            ≡ cond (within table k) (pick_row (row_after bound table k (row_at bound changes table k) c)) None
        by false e = elsewhere_told changes c e
        by true e =
            let same = same_table c.table table e in
            let at = fit changes behind c refl (subst (Contains bound.tables) (sym same) picked) in
            here_told changes c same
            (subst (λ t. IfSome c.before (λ x. row_at bound changes t (bound.key t x) ≡ Some x)) same at.0)
            (subst (λ t. IfSome c.after (λ x. IfSome (row_at bound changes t (bound.key t x)) (λ there. c.before ≡ Some there))) same at.1)

    -- after all changes of an entry
    pub changes_told : (cs changes : List Change) → ChangesFit bound (changes ++ cs) →
        fold client (cond (within table k) (pick_row (row_at bound changes table k)) None) (filter_map (picked_change bound) (map (cut bound within) cs))
        ≡ cond (within table k) (pick_row (row_at bound (changes ++ cs) table k)) None
    changes_told [] changes fit = ap (λ l. cond (within table k) (pick_row (row_at bound l table k)) None) (sym (append-nil changes))
    changes_told (c ∷ cs) changes fit =
        let rest : List Change = filter_map (picked_change bound) (map (cut bound within) cs) in
        let had : Option Image = cond (within table k) (pick_row (row_at bound changes table k)) None in
        let assoc = append_assoc changes (c ∷ []) cs in
        left_out (told c) rest had (is_some (told c).before || is_some (told c).after) refl
        ∙ ap (λ r. fold client r rest) (change_told changes cs c fit)
        ∙ changes_told cs (changes ++ c ∷ []) (subst (ChangesFit bound) (sym assoc) fit)
        ∙ ap (λ l. cond (within table k) (pick_row (row_at bound l table k)) None) assoc
