-- How one GTID more comes into a canonical list: where its interval stands, and which intervals become one with it.
use Rattle.std.proofs.Common.{◌≡◌, ℕ, zero, suc, ◌+◌, ◌<◌, ◌≤◌, ◌⊎◌, true, false, List, [], ◌∷◌, ◌++◌, length, take, drop, set, get_or, refl, ap, sym, subst, ◌∙◌, inl, inr, max, min, insert, add-one, add-zero, length-drop, get_or-drop, arith}
use Rattle.std.proofs.lemmas.Bool.{cases_Bool, or_left, or_right, and_from, lt-ltb, false_from_ne_true}
use Rattle.std.proofs.Math.Numerals.{one-add}
use Rattle.std.proofs.lemmas.Slice.Eq.{bytes_eq-Decides}
use Rattle.std.specs.Ordering.{nat_cmp, is_lt}
use Rattle.std.specs.Cmp.Lexicographic.{slice_cmp}
use Rattle.std.specs.List.{remove}
use Rattle.std.specs.declared.cmp.Ordering.TheVariants.{Less}
use Rattle.vs_gtid.specs.declared.interval.Interval.{Interval}
use Rattle.vs_gtid.specs.Positions.{Position, StandsBefore, StandsBeforeFirst, IsCanonical}
use Rattle.vs_gtid.specs.Joins.{stands_before, hull, joined, place}
use Rattle.vs_gtid.proofs.Order.{Before-trans, stands_before-is, not_less, meet}

pub stands_before-from : (i j : Interval) → StandsBefore i j → stands_before i j ≡ true
stands_before-from i j (inl a) = or_left _ _ (ap is_lt a)
stands_before-from i j (inr a) = or_right _ _ (and_from _ _ ((bytes_eq-Decides i.uuid j.uuid).1 a.0) (lt-ltb _ _ a.1))

-- of two intervals not both stand before the other
one_before : (i j : Interval) → i.first ≤ i.last → j.first ≤ j.last → StandsBefore i j → StandsBefore j i → ⊥
one_before i j h g a b =
    elim (Before-trans i.uuid j.uuid i.uuid i.last j.first j.last i.first g a b) [
      | inl x ↦ not_less i.uuid i.uuid refl x
      | inr x ↦ omega arith
    ]

pub not_after : (i j : Interval) → i.first ≤ i.last → j.first ≤ j.last → stands_before i j ≡ true → stands_before j i ≡ false
not_after i j h g a = false_from_ne_true _ (λ b. one_before i j h g (stands_before-is i j a) (stands_before-is j i b))

-- what stands before an interval of a canonical list that stands before k stands before k
pub all_before : (p : Position) (i k : Interval) (m : ℕ) (d : Interval) → IsCanonical (i ∷ p) → m < length p → stands_before (get_or p m d) k ≡ true → stands_before i k ≡ true
all_before [] i k m d c l h = absurd (omega arith)
all_before (j ∷ rest) i k zero d c l h =
    stands_before-from i k (Before-trans i.uuid j.uuid k.uuid i.last j.first j.last k.first c.2.0.ascends c.1 (stands_before-is j k h))
all_before (j ∷ rest) i k (suc m) d c l h =
    stands_before-from i k (Before-trans i.uuid j.uuid k.uuid i.last j.first j.last k.first c.2.0.ascends c.1
    (stands_before-is j k (all_before rest j k m d c.2 (omega arith) h)))

pub place_is : (p : Position) (k : Interval) (at : ℕ) (d : Interval) → IsCanonical p → at ≤ length p →
    ((n : ℕ) → at ≡ suc n → stands_before (get_or p n d) k ≡ true) → (at < length p → stands_before (get_or p at d) k ≡ false) → at ≡ place k p
place_is [] k at d c l before here = omega arith
place_is (i ∷ rest) k zero d c l before here = rw (here (omega arith)) refl
place_is (i ∷ rest) k (suc zero) d c l before here =
    let first : stands_before i k ≡ true = before 0 refl in
    let e = place_is rest k 0 d c.2 (omega arith) (λ n e. absurd (omega arith)) (λ h. here (omega arith)) in
    rw first (omega arith)
place_is (i ∷ rest) k (suc (suc m)) d c l before here =
    let first : stands_before i k ≡ true = all_before rest i k m d c (omega arith) (before (suc m) refl) in
    let e = place_is rest k (suc m) d c.2 (omega arith) (λ n e. before (suc n) (omega arith)) (λ h. here (omega arith)) in
    rw first (omega arith)

-- the intervals before k's place stay
pub joined_at : (p : Position) (k : Interval) → k.first ≤ k.last → IsCanonical p → joined k p ≡ take (place k p) p ++ joined k (drop (place k p) p)
unfolding joined
joined_at [] k h c = refl
joined_at (i ∷ rest) k h c =
    elim (cases_Bool (stands_before i k)) [
      | inl before ↦ rw (before, not_after i k c.0.ascends h before, one-add) (ap (λ (r : Position). i ∷ r) (joined_at rest k h c.2))
      | inr not_before ↦
          let none : place k (i ∷ rest) ≡ 0 = rw not_before refl in
          subst (λ (n : ℕ). joined k (i ∷ rest) ≡ take n (i ∷ rest) ++ joined k (drop n (i ∷ rest))) (sym none) refl
    ]

-- an interval that stands before a list comes first
pub joined_first : (p : Position) (k : Interval) → StandsBeforeFirst k p → joined k p ≡ k ∷ p
unfolding joined
joined_first [] k h = refl
joined_first (i ∷ rest) k h = rw (stands_before-from k i h) refl

-- an interval that meets the first of a list becomes one with it
pub joined_meets : (i k : Interval) (rest : Position) → stands_before k i ≡ false → stands_before i k ≡ false → joined k (i ∷ rest) ≡ joined (hull k i) rest
unfolding joined
joined_meets i k rest a b = rw (a, b) refl

pub before_first : (k : Interval) (rest : Position) (d : Interval) → (0 < length rest → stands_before k (get_or rest 0 d) ≡ true) → StandsBeforeFirst k rest
before_first k [] d h = tt
before_first k (l ∷ rest) d h = stands_before-is k l (h (omega arith))

-- the interval at k's place meets k, and their hull stands before what follows
pub merge_one : (p : Position) (at : ℕ) (k d : Interval) → at < length p →
    stands_before k (get_or p at d) ≡ false → stands_before (get_or p at d) k ≡ false →
    (suc at < length p → stands_before (hull k (get_or p at d)) (get_or p (suc at) d) ≡ true) →
    take at p ++ joined k (drop at p) ≡ set p at (hull k (get_or p at d))
merge_one [] at k d l a b h = absurd (omega arith)
merge_one (i ∷ rest) zero k d l a b h =
    joined_meets i k rest a b ∙ joined_first rest (hull k i) (before_first (hull k i) rest d (λ n. h (omega arith)))
merge_one (i ∷ rest) (suc m) k d l a b h =
    ap (λ (r : Position). i ∷ r) (merge_one rest m k d (omega arith) a b (λ n. h (omega arith)))

-- the hull of a canonical list's first interval and a GTID that meets it isn't behind the second interval
second_meets : (i l k : Interval) (rest : Position) → IsCanonical (i ∷ l ∷ rest) → i.uuid ≡ k.uuid → stands_before l (hull k i) ≡ false
second_meets i l k rest c e =
    let ascends = c.0.ascends in
    false_from_ne_true _ (λ h. elim (Before-trans i.uuid l.uuid k.uuid i.last l.first l.last (min k.first i.first) c.2.0.ascends c.1 (stands_before-is l (hull k i) h)) [
      | inl x ↦ not_less i.uuid k.uuid e x
      | inr x ↦ omega arith
    ])

reaches_second : (i l k : Interval) → i.uuid ≡ k.uuid → k.first ≡ k.last → k.first ≤ i.last + 1 → l.first ≤ l.last → StandsBefore i l → (k.uuid ≡ l.uuid) → max (max k.last i.last) l.last ≡ l.last
reaches_second i l k e f g h (inl x) m = absurd (not_less i.uuid l.uuid (e ∙ m) x)
reaches_second i l k e f g h (inr x) m = omega arith

-- the intervals at k's place and behind it both become one with k
head_two : (i l k : Interval) (rest : Position) → IsCanonical (i ∷ l ∷ rest) → k.first ≡ k.last →
    stands_before k i ≡ false → stands_before i k ≡ false → stands_before (hull k i) l ≡ false →
    joined k (i ∷ l ∷ rest) ≡ hull (hull k i) l ∷ rest
head_two i l k rest c f a b h =
    let m = meet k i a b in
    let back = second_meets i l k rest c (sym m.0) in
    let n = meet (hull k i) l h back in
    let last : max (max k.last i.last) l.last ≡ l.last = reaches_second i l k (sym m.0) f m.2 c.2.0.ascends c.1 n.0 in
    joined_meets i k (l ∷ rest) a b ∙ (joined_meets l (hull k i) rest h back ∙ joined_first rest (hull (hull k i) l) (as_second rest c.2.1 last n.0))
  where
    as_second : (r : Position) → StandsBeforeFirst l r → max (max k.last i.last) l.last ≡ l.last → k.uuid ≡ l.uuid → StandsBeforeFirst (hull (hull k i) l) r
    as_second [] x e u = tt
    as_second (o ∷ r) x e u =
        let P : ℕ → List ℕ → Type 0 = λ q v. (slice_cmp nat_cmp v o.uuid ≡ Less) ⊎ ((v ≡ o.uuid) × (q + 1 < o.first)) in
        subst (λ (q : ℕ). P q k.uuid) (sym e) (subst (λ (v : List ℕ). P l.last v) (sym u) x)

pub merge_two : (p : Position) (at : ℕ) (k d : Interval) → IsCanonical p → suc at < length p → k.first ≡ k.last →
    stands_before k (get_or p at d) ≡ false → stands_before (get_or p at d) k ≡ false →
    stands_before (hull k (get_or p at d)) (get_or p (suc at) d) ≡ false →
    take at p ++ joined k (drop at p) ≡ remove (set p (suc at) (hull (hull k (get_or p at d)) (get_or p (suc at) d))) at
merge_two [] at k d c l f a b h = absurd (omega arith)
merge_two (i ∷ []) at k d c l f a b h = absurd (omega arith)
merge_two (i ∷ j ∷ rest) zero k d c l f a b h = head_two i j k rest c f a b h
merge_two (i ∷ j ∷ rest) (suc m) k d c l f a b h =
    ap (λ (r : Position). i ∷ r) (merge_two (j ∷ rest) m k d c.2 (omega arith) f a b h)

-- the same of intervals that were read at their places
pub merged_pair : (p : Position) (at : ℕ) (k i l h h2 : Interval) → IsCanonical p → at + 1 < length p → k.first ≡ k.last →
    stands_before k (get_or p at k) ≡ false → stands_before (get_or p at k) k ≡ false →
    i ≡ get_or p at k → l ≡ get_or p (at + 1) k → h ≡ hull k i → h2 ≡ hull h l → stands_before h l ≡ false →
    remove (set p (at + 1) h2) at ≡ take at p ++ joined k (drop at p)
merged_pair p at k i l h h2 c w f a b ei el eh eh2 apart =
    let e : at + 1 ≡ suc at = add-one at in
    let g : h ≡ hull k (get_or p at k) = eh ∙ ap (λ (x : Interval). hull k x) ei in
    let m : l ≡ get_or p (suc at) k = el ∙ ap (λ (n : ℕ). get_or p n k) e in
    let apart2 : stands_before (hull k (get_or p at k)) (get_or p (suc at) k) ≡ false = subst (λ (x : Interval). stands_before x (get_or p (suc at) k) ≡ false) g (subst (λ (x : Interval). stands_before h x ≡ false) m apart) in
    let all = merge_two p at k k c (omega arith) f a b apart2 in
    let g2 : h2 ≡ hull (hull k (get_or p at k)) (get_or p (suc at) k) = eh2 ∙ (ap (λ (x : Interval). hull x l) g ∙ ap (λ (x : Interval). hull (hull k (get_or p at k)) x) m) in
    ap (λ (n : ℕ). remove (set p n h2) at) e ∙ (ap (λ (x : Interval). remove (set p (suc at) x) at) g2 ∙ sym all)

pub merged_alone : (p : Position) (at : ℕ) (k i h : Interval) → at < length p →
    stands_before k (get_or p at k) ≡ false → stands_before (get_or p at k) k ≡ false →
    i ≡ get_or p at k → h ≡ hull k i → (at + 1 < length p → stands_before h (get_or p (at + 1) k) ≡ true) →
    set p at h ≡ take at p ++ joined k (drop at p)
merged_alone p at k i h w a b ei eh before =
    let g : h ≡ hull k (get_or p at k) = eh ∙ ap (λ (x : Interval). hull k x) ei in
    let e : at + 1 ≡ suc at = add-one at in
    let b' : suc at < length p → stands_before (hull k (get_or p at k)) (get_or p (suc at) k) ≡ true =
    λ n. subst (λ (x : Interval). stands_before x (get_or p (suc at) k) ≡ true) g (subst (λ (m : ℕ). stands_before h (get_or p m k) ≡ true) e (before (omega arith))) in
    ap (λ (x : Interval). set p at x) g ∙ sym (merge_one p at k k w a b b')

-- k comes in as an interval of its own where it stands before what stands at its place
pub inserted : (p : Position) (k d : Interval) → k.first ≤ k.last → IsCanonical p →
    (place k p < length p → stands_before k (get_or p (place k p) d) ≡ true) → joined k p ≡ insert p (place k p) k
inserted p k d h c before =
    let n = place k p in
    joined_at p k h c
    ∙ ap (λ (r : Position). take n p ++ r) (joined_first (drop n p) k
    (before_first k (drop n p) d (λ l. rw (get_or-drop n p 0 d, add-zero) (before (omega (arith, length-drop {A = Interval}))))))
