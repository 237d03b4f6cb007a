-- Two ascending lists of the same texts are one.
use Rattle.std.proofs.Common.{◌≡◌, ℕ, Bool, true, false, ◌||◌, nat_eq, List, [], ◌∷◌, refl, sym, ap, subst, ◌∙◌}
use Rattle.std.specs.List.{AllByRecursion}
use Rattle.std.specs.List.Sorted.{IsStrictlySortedBy}
use Rattle.std.specs.Ordering.{nat_cmp, is_eq, ordering_reverse}
use Rattle.std.specs.declared.cmp.Ordering.{Ordering}
use Rattle.std.specs.declared.cmp.Ordering.TheVariants.{Less, Equal, Greater}
use Rattle.std.specs.Cmp.Lexicographic.{pointwise, slice_cmp}
use Rattle.std.proofs.lemmas.Bool.{true≢false}
use Rattle.std.proofs.lemmas.Cmp.{nat_list_cmp_total}
use Rattle.std.proofs.lemmas.Map.Text.{is_eq-slice_cmp}
use Rattle.std.proofs.lemmas.Slice.Eq.{bytes_eq-Decides}
use Rattle.vs_outside.specs.Clusters.{has_text}

abbrev IsBelow : List ℕ → List (List ℕ) → Type 0
IsBelow x ys = AllByRecursion (λ y. slice_cmp nat_cmp x y ≡ Less) ys

other : (x y : List ℕ) → slice_cmp nat_cmp x y ≡ Less → pointwise nat_eq x y ≡ false
other x y less = sym (is_eq-slice_cmp x y) ∙ ap is_eq less

itself : (x : List ℕ) → pointwise nat_eq x x ≡ true
itself x = (bytes_eq-Decides x x).1 refl

-- a text below all isn't one of them
absent : (x : List ℕ) (ys : List (List ℕ)) → IsBelow x ys → has_text ys x ≡ false
absent x [] below = refl
absent x (y ∷ ys) below = ap (λ b. b || has_text ys x) (other x y below.0) ∙ absent x ys below.1

below_all : (x y : List ℕ) (ys : List (List ℕ)) → slice_cmp nat_cmp x y ≡ Less → IsBelow y ys → IsBelow x ys
below_all x y [] less below = tt
below_all x y (z ∷ ys) less below = (nat_list_cmp_total.trans x y z less below.0, below_all x y ys less below.1)

-- a text below the first of an ascending list isn't in it
absent_below : (x y : List ℕ) (ys : List (List ℕ)) → slice_cmp nat_cmp x y ≡ Less → IsBelow y ys → has_text (y ∷ ys) x ≡ false
absent_below x y ys less below = absent x (y ∷ ys) (less, below_all x y ys less below)

pub present : (x : List ℕ) (xs : List (List ℕ)) → has_text (x ∷ xs) x ≡ true
present x xs = ap (λ b. b || has_text xs x) (itself x)

same_first : (x y : List ℕ) (xs ys : List (List ℕ)) → IsBelow x xs → IsBelow y ys → ((t : List ℕ) → has_text (x ∷ xs) t ≡ has_text (y ∷ ys) t) → x ≡ y
same_first x y xs ys below_x below_y same = by (slice_cmp nat_cmp x y) refl
  where
    by : (r : Ordering) → slice_cmp nat_cmp x y ≡ r → x ≡ y
    by Less less = absurd (true≢false (sym (present x xs) ∙ same x ∙ absent_below x y ys less below_y))
    by Equal equal = (bytes_eq-Decides x y).0 (sym (is_eq-slice_cmp x y) ∙ ap is_eq equal)
    by Greater greater =
        let less : slice_cmp nat_cmp y x ≡ Less = nat_list_cmp_total.antisymm y x ∙ ap ordering_reverse greater in
        absurd (true≢false (sym (present y ys) ∙ sym (same y) ∙ absent_below y x xs less below_x))

-- without the first, the same texts are left
same_rest : (x : List ℕ) (xs ys : List (List ℕ)) → IsBelow x xs → IsBelow x ys → ((t : List ℕ) → has_text (x ∷ xs) t ≡ has_text (x ∷ ys) t) → (t : List ℕ) → has_text xs t ≡ has_text ys t
same_rest x xs ys below_x below_y same t = by (pointwise nat_eq t x) refl
  where
    by : (b : Bool) → pointwise nat_eq t x ≡ b → has_text xs t ≡ has_text ys t
    by true is =
        let at : t ≡ x = (bytes_eq-Decides t x).0 is in
        ap (has_text xs) at ∙ absent x xs below_x ∙ sym (absent x ys below_y) ∙ sym (ap (has_text ys) at)
    by false is = sym (ap (λ b. b || has_text xs t) is) ∙ same t ∙ ap (λ b. b || has_text ys t) is

pub same_ascending : (xs ys : List (List ℕ)) → IsStrictlySortedBy (slice_cmp nat_cmp) xs → IsStrictlySortedBy (slice_cmp nat_cmp) ys → ((t : List ℕ) → has_text xs t ≡ has_text ys t) → xs ≡ ys
unfolding IsStrictlySortedBy
same_ascending [] [] up_x up_y same = refl
same_ascending [] (y ∷ ys) up_x up_y same = absurd (true≢false (sym (present y ys) ∙ sym (same y)))
same_ascending (x ∷ xs) [] up_x up_y same = absurd (true≢false (sym (present x xs) ∙ same x))
same_ascending (x ∷ xs) (y ∷ ys) up_x up_y same =
    let is : x ≡ y = same_first x y xs ys up_x.0 up_y.0 same in
    let below : IsBelow x ys = subst (λ z. IsBelow z ys) (sym is) up_y.0 in
    let all : (t : List ℕ) → has_text (x ∷ xs) t ≡ has_text (x ∷ ys) t = λ t. same t ∙ ap (λ z. has_text (z ∷ ys) t) (sym is) in
    let rest : xs ≡ ys = same_ascending xs ys up_x.1 up_y.1 (same_rest x xs ys up_x.0 below all) in ap (λ z. z ∷ xs) is ∙ ap (λ l. y ∷ l) rest
