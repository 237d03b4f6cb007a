-- Lists by place, and what holds of each of a list.
use Rattle.std.proofs.Common.{◌≡◌, ◌⊎◌, ◌||◌, ℕ, zero, suc, Bool, true, false, List, [], ◌∷◌, ◌++◌, length, Option, Some, None, IfSome, IsFalse, slice_get, slice_set, refl, ap, sym, ◌∙◌, subst, inl, inr, ⊎_elim, true≢false, arith}
use Rattle.std.specs.List.{AllByRecursion, find, list_any}
use Rattle.std.proofs.lemmas.Bool.{cases_Bool}
use Rattle.vs_model.proofs.Lists.{some_is_not_none, same_some}

zero_not_suc : (k : ℕ) → 0 ≡ suc k → ⊥
zero_not_suc k e = omega (arith, e)

same_pred : (k l : ℕ) → suc k ≡ suc l → k ≡ l
same_pred k l e = omega (arith, e)

module _ {X : Type 0} where
  pub at_append : (xs : List X) (x y : X) (k : ℕ) → slice_get (xs ++ x ∷ []) k ≡ Some y → (slice_get xs k ≡ Some y) ⊎ ((k ≡ length xs) × (y ≡ x))
  at_append [] x y zero e = inr (refl, sym (same_some _ _ e))
  at_append [] x y (suc k) e = absurd (some_is_not_none y (sym e))
  at_append (z ∷ xs) x y zero e = inl e
  at_append (z ∷ xs) x y (suc k) e = ⊎_elim (λ h. inl h) (λ h. inr (ap suc h.0, h.1)) (at_append xs x y k e)

  pub at_set : (xs : List X) (k l : ℕ) (y z : X) → slice_get (slice_set xs k z) l ≡ Some y → ((k ≡ l) × (y ≡ z)) ⊎ ((k ≡ l → ⊥) × (slice_get xs l ≡ Some y))
  at_set [] k l y z e = absurd (some_is_not_none y (sym e))
  at_set (x ∷ xs) zero zero y z e = inl (refl, sym (same_some _ _ e))
  at_set (x ∷ xs) zero (suc l) y z e = inr (λ h. zero_not_suc l h, e)
  at_set (x ∷ xs) (suc k) zero y z e = inr (λ h. zero_not_suc k (sym h), e)
  at_set (x ∷ xs) (suc k) (suc l) y z e = ⊎_elim (λ h. inl (ap suc h.0, h.1)) (λ h. inr (λ same. h.0 (same_pred k l same), h.1)) (at_set xs k l y z e)

  pub set_other : (xs : List X) (k l : ℕ) (y z : X) → (k ≡ l → ⊥) → slice_get xs l ≡ Some y → slice_get (slice_set xs k z) l ≡ Some y
  set_other [] k l y z other e = e
  set_other (x ∷ xs) zero zero y z other e = absurd (other refl)
  set_other (x ∷ xs) zero (suc l) y z other e = e
  set_other (x ∷ xs) (suc k) zero y z other e = e
  set_other (x ∷ xs) (suc k) (suc l) y z other e = set_other xs k l y z (λ h. other (ap suc h)) e

  pub length_set : (xs : List X) (k : ℕ) (z : X) → length (slice_set xs k z) ≡ length xs
  length_set [] k z = refl
  length_set (x ∷ xs) zero z = refl
  length_set (x ∷ xs) (suc k) z = ap suc (length_set xs k z)

  pub length_more : (xs : List X) (x : X) → length (xs ++ x ∷ []) ≡ suc (length xs)
  length_more [] x = refl
  length_more (z ∷ xs) x = ap suc (length_more xs x)

  pub append_at : (xs : List X) (x y : X) (k : ℕ) → slice_get xs k ≡ Some y → slice_get (xs ++ x ∷ []) k ≡ Some y
  append_at [] x y k e = absurd (some_is_not_none y (sym e))
  append_at (z ∷ xs) x y zero e = e
  append_at (z ∷ xs) x y (suc k) e = append_at xs x y k e

  pub if_some : (P : X → Type 0) (o : Option X) → ((x : X) → o ≡ Some x → P x) → IfSome o P
  if_some P None h = tt
  if_some P (Some x) h = h x refl

  pub none_any : (t : X → Bool) (xs : List X) → list_any t xs ≡ false → AllByRecursion (λ x. t x ≡ false) xs
  none_any t [] none = tt
  none_any t (x ∷ xs) none = ⊎_elim
      (λ is. absurd (true≢false (sym (ap (λ b. b || list_any t xs) is) ∙ none)))
      (λ is. (is, none_any t xs (sym (ap (λ b. b || list_any t xs) is) ∙ none)))
      (cases_Bool (t x))

  pub all_found : (P : X → Type 0) (t : X → Bool) (xs : List X) (x : X) → AllByRecursion P xs → find t xs ≡ Some x → P x
  all_found P t [] x all is = absurd (some_is_not_none x (sym is))
  all_found P t (y ∷ ys) x all is = by (t y) refl (all_found P t ys x all.1)
    where
      by : (b : Bool) → t y ≡ b → (find t ys ≡ Some x → P x) → P x
      by true p on = subst P (same_some y x (sym (find_first p) ∙ is)) all.0
        where
          find_first : t y ≡ true → find t (y ∷ ys) ≡ Some y
          find_first q = rw q refl
      by false p on = on (sym (find_past p) ∙ is)
        where
          find_past : t y ≡ false → find t (y ∷ ys) ≡ find t ys
          find_past q = rw q refl

  pub none_found : (t : X → Bool) (xs : List X) → find t xs ≡ None → AllByRecursion (λ x. IsFalse (t x)) xs
  none_found t [] none = tt
  none_found t (y ∷ ys) none = by (t y) refl (none_found t ys)
    where
      by : (b : Bool) → t y ≡ b → (find t ys ≡ None → AllByRecursion (λ x. IsFalse (t x)) ys) → AllByRecursion (λ x. IsFalse (t x)) (y ∷ ys)
      by true p on = absurd (some_is_not_none y (sym (find_first p) ∙ none))
        where
          find_first : t y ≡ true → find t (y ∷ ys) ≡ Some y
          find_first q = rw q refl
      by false p on = (p, on (sym (find_past p) ∙ none))
        where
          find_past : t y ≡ false → find t (y ∷ ys) ≡ find t ys
          find_past q = rw q refl
