-- The first item that has an answer.
use Rattle.std.proofs.Common.{◌≡◌, ℕ, suc, ◌+◌, ◌<◌, ◌++◌, List, [], ◌∷◌, Option, Some, None, length, get_or, take, drop, drop-cons, refl, sym, ap, ◌∙◌, arith}
use Rattle.std.proofs.lemmas.List.{take_more}
use Rattle.std.specs.Prelude.{option_map}
use Rattle.std.specs.Option.{option_or}
use Rattle.std.proofs.lemmas.Option.{none-some}
use Rattle.vs_filter.specs.Rules.{first_from}

-- none before, and this at the front
pub first_here : {A B : Type 0} (f : A → Option B) (i : ℕ) (x : A) (xs : List A) (y : B) → f x ≡ Some y → first_from f i (x ∷ xs) ≡ Some (i, y)
first_here f i x xs y e = ap (λ o. option_or (option_map (λ y. (i, y)) o) (first_from f (i + 1) xs)) e

-- none at the front
pub first_later : {A B : Type 0} (f : A → Option B) (i : ℕ) (x : A) (xs : List A) → f x ≡ None → first_from f i (x ∷ xs) ≡ first_from f (i + 1) xs
first_later f i x xs e = ap (λ o. option_or (option_map (λ y. (i, y)) o) (first_from f (i + 1) xs)) e

at_front : {A B : Type 0} (f : A → Option B) (i : ℕ) (y : A) (ys : List A) (x : A) (o : Option B) → f y ≡ o → first_from f i (y ∷ ys) ≡ None →
    (first_from f (i + 1) ys ≡ None → first_from f (i + 1) (ys ++ x ∷ []) ≡ None) → first_from f i (y ∷ (ys ++ x ∷ [])) ≡ None
at_front f i y ys x None is e more = first_later f i y (ys ++ x ∷ []) is ∙ more (sym (first_later f i y ys is) ∙ e)
at_front f i y ys x (Some b) is e more = absurd (none-some (i, b) (sym e ∙ first_here f i y ys b is))

-- none in a list, and none in one more item
pub none_more : {A B : Type 0} (f : A → Option B) (i : ℕ) (xs : List A) (x : A) → first_from f i xs ≡ None → f x ≡ None → first_from f i (xs ++ x ∷ []) ≡ None
none_more f i [] x e none = first_later f i x [] none
none_more f i (y ∷ ys) x e none = at_front f i y ys x (f y) refl e (λ later. none_more f (i + 1) ys x later none)

pub dropped : {A : Type 0} (xs : List A) (i : ℕ) (x : A) → i < length xs → x ≡ get_or xs i x → drop i xs ≡ x ∷ drop (i + 1) xs
dropped xs i x lt is =
    let next : suc i ≡ i + 1 = omega arith in
    drop-cons xs i x lt ∙ ap (λ y. y ∷ drop (suc i) xs) (sym is) ∙ ap (λ k. x ∷ drop k xs) next

-- the item at a place has an answer, and none before
pub first_at : {A B : Type 0} (f : A → Option B) (xs : List A) (i : ℕ) (x : A) (y : B) → i < length xs → x ≡ get_or xs i x →
    first_from f i (drop i xs) ≡ first_from f 0 xs → f x ≡ Some y → first_from f 0 xs ≡ Some (i, y)
first_at f xs i x y lt is left e = sym left ∙ ap (first_from f i) (dropped xs i x lt is) ∙ first_here f i x (drop (i + 1) xs) y e

-- it has none
pub left_after : {A B : Type 0} (f : A → Option B) (xs : List A) (i : ℕ) (x : A) → i < length xs → x ≡ get_or xs i x →
    first_from f i (drop i xs) ≡ first_from f 0 xs → f x ≡ None → first_from f (i + 1) (drop (i + 1) xs) ≡ first_from f 0 xs
left_after f xs i x lt is left e = sym (first_later f i x (drop (i + 1) xs) e) ∙ sym (ap (first_from f i) (dropped xs i x lt is)) ∙ left

pub front_after : {A B : Type 0} (f : A → Option B) (xs : List A) (i : ℕ) (x : A) → i < length xs → x ≡ get_or xs i x →
    first_from f 0 (take i xs) ≡ None → f x ≡ None → first_from f 0 (take (i + 1) xs) ≡ None
front_after f xs i x lt is front e =
    ap (first_from f 0) (take_more xs i x lt ∙ ap (λ y. take i xs ++ y ∷ []) (sym is)) ∙ none_more f 0 (take i xs) x front e
