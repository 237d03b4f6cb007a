-- What holds of each item of a list.
use Rattle.std.proofs.Common.{Bool, true, false, ◌≡◌, ◌||◌, List, [], ◌∷◌, ◌++◌, filter, refl, ap, sym, ◌∙◌, subst, ⊎_elim}
use Rattle.std.specs.List.{list_any, AllByRecursion}
use Rattle.std.proofs.lemmas.Bool.{cases_Bool, cond-true, cond-false, or_left, or_right, or_from}

module _ {X : Type 0} where
  -- what holds with and without an item that is tested holds of the filtered list
  pub kept_either : (P : List X → Type 0) (t : X → Bool) (x : X) (xs : List X) → (t x ≡ true → P (x ∷ filter t xs)) → (t x ≡ false → P (filter t xs)) →
      P (filter t (x ∷ xs))
  kept_either P t x xs stays goes = ⊎_elim
      (λ e. subst P (sym (cond-true (t x) (x ∷ filter t xs) (filter t xs) e)) (stays e))
      (λ e. subst P (sym (cond-false (t x) (x ∷ filter t xs) (filter t xs) e)) (goes e))
      (cases_Bool (t x))

  pub all_weaker : (P Q : X → Type 0) → ((x : X) → P x → Q x) → (xs : List X) → AllByRecursion P xs → AllByRecursion Q xs
  all_weaker P Q f [] h = tt
  all_weaker P Q f (x ∷ xs) h = (f x h.0, all_weaker P Q f xs h.1)

  pub all_of_two : (P Q S : X → Type 0) → ((x : X) → P x → Q x → S x) → (xs : List X) → AllByRecursion P xs → AllByRecursion Q xs → AllByRecursion S xs
  all_of_two P Q S f [] h k = tt
  all_of_two P Q S f (x ∷ xs) h k = (f x h.0 k.0, all_of_two P Q S f xs h.1 k.1)

  pub all_none : (t : X → Bool) (xs : List X) → AllByRecursion (λ x. t x ≡ false) xs → list_any t xs ≡ false
  all_none t [] h = refl
  all_none t (x ∷ xs) h = or_from (t x) (list_any t xs) h.0 (all_none t xs h.1)

  pub all_pass : (t : X → Bool) (xs : List X) → AllByRecursion (λ x. t x ≡ true) (filter t xs)
  all_pass t [] = tt
  all_pass t (x ∷ xs) = kept_either (AllByRecursion (λ y. t y ≡ true)) t x xs (λ e. (e, all_pass t xs)) (λ e. all_pass t xs)

  pub any_by : (t u : X → Bool) (xs : List X) → ((x : X) → t x ≡ true → u x ≡ true) → list_any t xs ≡ true → list_any u xs ≡ true
  any_by t u [] h any = any
  any_by t u (x ∷ xs) h any = ⊎_elim
      (λ e. or_left (u x) (list_any u xs) (h x e))
      (λ e. or_right (u x) (list_any u xs) (any_by t u xs h (sym (ap (λ b. b || list_any t xs) e) ∙ any)))
      (cases_Bool (t x))

  -- a test that implies another finds what it found among those that the other keeps
  pub any_filtered : (t u : X → Bool) (xs : List X) → ((x : X) → t x ≡ true → u x ≡ true) → list_any t xs ≡ true → list_any t (filter u xs) ≡ true
  any_filtered t u [] h any = any
  any_filtered t u (x ∷ xs) h any = ⊎_elim
      (λ e. subst (λ l. list_any t l ≡ true) (sym (cond-true (u x) (x ∷ filter u xs) (filter u xs) (h x e))) (or_left (t x) (list_any t (filter u xs)) e))
      (λ e. let rest = any_filtered t u xs h (sym (ap (λ b. b || list_any t xs) e) ∙ any) in
      kept_either (λ l. list_any t l ≡ true) u x xs (λ f. or_right (t x) (list_any t (filter u xs)) rest) (λ f. rest))
      (cases_Bool (t x))

module _ {X : Type 0} (P : X → Type 0) where
  pub all_append : (xs ys : List X) → AllByRecursion P xs → AllByRecursion P ys → AllByRecursion P (xs ++ ys)
  all_append [] ys h k = k
  all_append (x ∷ xs) ys h k = (h.0, all_append xs ys h.1 k)

  pub all_behind : (xs ys : List X) → AllByRecursion P (xs ++ ys) → AllByRecursion P ys
  all_behind [] ys h = h
  all_behind (x ∷ xs) ys h = all_behind xs ys h.1

  pub all_filtered : (t : X → Bool) (xs : List X) → AllByRecursion P xs → AllByRecursion P (filter t xs)
  all_filtered t [] h = tt
  all_filtered t (x ∷ xs) h = kept_either (AllByRecursion P) t x xs (λ e. (h.0, all_filtered t xs h.1)) (λ e. all_filtered t xs h.1)
