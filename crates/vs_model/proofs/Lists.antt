-- Equal lists have equal parts, and what is left where tests drop items.
use Rattle.std.proofs.Common.{◌≡◌, ◌≢◌, Bool, true, false, not, cond, ◌||◌, ◌&&◌, List, [], ◌∷◌, ◌++◌, Option, Some, None, filter, refl, ap, unwrap_or, true≢false, is_some}
use Rattle.std.specs.List.{list_any}
use Rattle.std.proofs.lemmas.Bool.{or_parts, or_from}

pub cons_is_not_nil : {X : Type 0} (x : X) (xs : List X) → x ∷ xs ≡ [] → ⊥
cons_is_not_nil {X} x xs e =
    let has_items : List X → Bool = elim [ [] ↦ false | y ∷ ys ↦ true ] in
    true≢false (ap has_items e)

pub some_is_not_none : {X : Type 0} (x : X) → Some x ≡ None → ⊥
some_is_not_none x e = true≢false (ap is_some e)

pub same_some : {X : Type 0} (x y : X) → Some x ≡ Some y → x ≡ y
same_some {X} x y e = ap (λ (o : Option X). unwrap_or o x) e

pub same_head : {X : Type 0} (x y : X) (xs ys : List X) → x ∷ xs ≡ y ∷ ys → x ≡ y
same_head {X} x y xs ys e =
    let head : List X → X = elim [ [] ↦ x | z ∷ zs ↦ z ] in
    ap head e

pub same_tail : {X : Type 0} (x y : X) (xs ys : List X) → x ∷ xs ≡ y ∷ ys → xs ≡ ys
same_tail {X} x y xs ys e =
    let tail : List X → List X = elim [ [] ↦ [] | z ∷ zs ↦ zs ] in
    ap tail e

pub not_either : (a b : Bool) → not (a || b) ≡ (not a && not b)
not_either true b = refl
not_either false b = refl

module _ {X : Type 0} where
  pub left_nil : (xs ys : List X) → xs ++ ys ≡ [] → xs ≡ []
  left_nil [] ys e = refl
  left_nil (x ∷ xs) ys e = absurd (cons_is_not_nil _ _ e)

  pub not_nil : (xs ys : List X) (x : X) → xs ++ x ∷ ys ≢ []
  not_nil [] ys x e = cons_is_not_nil _ _ e
  not_nil (y ∷ xs) ys x e = cons_is_not_nil _ _ e

  kept_once : (u : X → Bool) (a : Bool) (x : X) (xs ys : List X) → filter u xs ≡ ys → filter u (cond a (x ∷ xs) xs) ≡ cond (a && u x) (x ∷ ys) ys
  kept_once u true x xs ys e = ap (λ l. cond (u x) (x ∷ l) l) e
  kept_once u false x xs ys e = e

  -- one test after another keeps what both keep
  pub filter-filter : (t u : X → Bool) (xs : List X) → filter u (filter t xs) ≡ filter (λ x. t x && u x) xs
  filter-filter t u [] = refl
  filter-filter t u (x ∷ xs) = kept_once u (t x) x (filter t xs) (filter (λ y. t y && u y) xs) (filter-filter t u xs)

  pub filter_all : (xs : List X) → filter (λ x. true) xs ≡ xs
  filter_all [] = refl
  filter_all (x ∷ xs) = ap (λ l. x ∷ l) (filter_all xs)

  dropped_as_before : (a b : Bool) (x : X) (xs ys : List X) → a ≡ false → xs ≡ ys → cond (not (a || b)) (x ∷ xs) xs ≡ cond (not b) (x ∷ ys) ys
  dropped_as_before true b x xs ys f e = absurd (true≢false f)
  dropped_as_before false b x xs ys f e = ap (λ l. cond (not b) (x ∷ l) l) e

  -- to drop what no item is changes nothing
  pub drop_none : (t u : X → Bool) (xs : List X) → list_any t xs ≡ false → filter (λ x. not (t x || u x)) xs ≡ filter (λ x. not (u x)) xs
  drop_none t u [] h = refl
  drop_none t u (x ∷ xs) h =
      let parts = or_parts (t x) (list_any t xs) h in
      dropped_as_before (t x) (u x) x (filter (λ y. not (t y || u y)) xs) (filter (λ y. not (u y)) xs) parts.0 (drop_none t u xs parts.1)

  none_in_either : (t : X → Bool) (a : Bool) (x : X) (xs : List X) → t x ≡ false → list_any t xs ≡ false → list_any t (cond a (x ∷ xs) xs) ≡ false
  none_in_either t true x xs e h = or_from (t x) (list_any t xs) e h
  none_in_either t false x xs e h = h

  pub none_in_filter : (t u : X → Bool) (xs : List X) → list_any t xs ≡ false → list_any t (filter u xs) ≡ false
  none_in_filter t u [] h = h
  none_in_filter t u (x ∷ xs) h =
      let parts = or_parts (t x) (list_any t xs) h in
      none_in_either t (u x) x (filter u xs) parts.0 (none_in_filter t u xs parts.1)
