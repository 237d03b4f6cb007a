-- How the next of sorted intervals comes to the end of a canonical list.
use Rattle.std.proofs.Common.{◌≡◌, ℕ, zero, suc, ◌+◌, ◌-◌, ◌<◌, ◌≤◌, ◌||◌, Bool, true, false, List, [], ◌∷◌, ◌++◌, length, take, drop, set, insert, get_or, refl, ap, sym, subst, ◌∙◌, inl, inr, Ok, Err, arith}
use Rattle.std.proofs.Math.Bool.{or_comm}
use Rattle.std.proofs.lemmas.Bool.{cases_lt, false_from_ne_true, le-ltb, lt-ltb}
use Rattle.std.proofs.lemmas.List.Edits.{insert_end}
use Rattle.std.specs.Ordering.{nat_cmp, is_lt, ordering_then, ordering_reverse}
use Rattle.std.specs.Cmp.Lexicographic.{slice_cmp}
use Rattle.std.specs.declared.cmp.Ordering.TheVariants.{Less, Equal, Greater}
use Rattle.std.specs.declared.cmp.Ordering.{Ordering}
use Rattle.vs_gtid.specs.declared.refusal.GtidRefusal.TheVariants.{TooManyIntervals}
use Rattle.vs_gtid.specs.declared.interval.Interval.{Interval}
use Rattle.vs_gtid.specs.Positions.{Position, StandsBefore, IsCanonical, IsInterval}
use Rattle.vs_gtid.specs.Joins.{stands_before, hull, joined, merged, limited, place, BeginsBy, LastBeginsBy}
use Rattle.vs_gtid.proofs.Order.{stands_before-is, not_less}
use Rattle.std.proofs.lemmas.Cmp.{nat_list_cmp_total}
use Rattle.std.proofs.lemmas.Map.Lookups.{exact_bytes}
use Rattle.std.proofs.lemmas.List.Sorted.{list_any-IsPermutation}
use Rattle.std.specs.List.Sorted.{IsPermutation}
use Rattle.std.specs.List.{All}
use Rattle.vs_gtid.proofs.EqualSets.{canonical_unique}
use Rattle.vs_base.specs.declared.gtid.Gtid.{Gtid}
use Rattle.vs_gtid.specs.Positions.{has, is_within, SameSet}
use Rattle.vs_gtid.proofs.JoinLemmas.{has-joined, has-merged, IsCanonical-merged}
use Rattle.vs_gtid.proofs.MissingLemmas.{has_more}
use Rattle.vs_gtid.proofs.AddLemmas.{stands_before-from, place_is, inserted, joined_at, merge_one}

-- an interval behind the last one comes to the end
pub append_new : (p : Position) (x d : Interval) → x.first ≤ x.last → IsCanonical p → (0 < length p → stands_before (get_or p (length p - 1) d) x ≡ true) →
    joined x p ≡ p ++ x ∷ []
append_new p x d h c before =
    let n : length p ≡ place x p = place_is p x (length p) d c (omega arith)
    (λ n e. let same : length p - 1 ≡ n = omega arith in subst (λ (m : ℕ). stands_before (get_or p m d) x ≡ true) same (before (omega arith)))
    (λ l. absurd (omega arith)) in
    inserted p x d h c (λ l. absurd (omega arith)) ∙ (ap (λ (m : ℕ). insert p m x) (sym n) ∙ insert_end p x)

-- each interval of a canonical list stands before the next
next_behind : (p : Position) (n : ℕ) (d : Interval) → IsCanonical p → suc n < length p → StandsBefore (get_or p n d) (get_or p (suc n) d)
next_behind [] n d c l = absurd (omega arith)
next_behind (i ∷ []) n d c l = absurd (omega arith)
next_behind (i ∷ j ∷ rest) zero d c l = c.1
next_behind (i ∷ j ∷ rest) (suc m) d c l = next_behind (j ∷ rest) m d c.2 (omega arith)

-- an interval that begins no earlier than one that doesn't stand before it has its UUID
same_uuid : (l x : Interval) → BeginsBy l x → stands_before l x ≡ false → (l.uuid ≡ x.uuid) × (l.first ≤ x.first)
same_uuid l x (inl a) h = let t = stands_before-from l x (inl a) in cc
same_uuid l x (inr a) h = a

not_before_it : (l x : Interval) → l.uuid ≡ x.uuid → l.first ≤ x.first → x.first ≤ x.last → stands_before x l ≡ false
not_before_it l x e h g = false_from_ne_true _ (λ b. elim (stands_before-is x l b) [ inl y ↦ not_less x.uuid l.uuid (sym e) y | inr y ↦ omega arith ])

up_to : (i l x : Interval) → StandsBefore i l → l.uuid ≡ x.uuid → l.first ≤ x.first → StandsBefore i x
up_to i l x (inl a) u f = inl (subst (λ (v : List ℕ). slice_cmp nat_cmp i.uuid v ≡ Less) u a)
up_to i l x (inr a) u f = inr (a.0 ∙ u, omega arith)

-- an interval that meets the last one becomes one with it
pub append_meets : (p : Position) (x d : Interval) → x.first ≤ x.last → IsCanonical p → 0 < length p → stands_before (get_or p (length p - 1) d) x ≡ false →
    LastBeginsBy p x → joined x p ≡ set p (length p - 1) (hull x (get_or p (length p - 1) d))
append_meets p x d h c l apart order =
    let at : ℕ = length p - 1 in
    let last : Interval = get_or p at d in
    let m = same_uuid last x (order d l) apart in
    let n : at ≡ place x p = place_is p x at d c (omega arith)
    (λ n e. previous n e m.0 m.1)
    (λ l. apart) in
    joined_at p x h c ∙ (ap (λ (k : ℕ). take k p ++ joined x (drop k p)) (sym n)
    ∙ merge_one p at x d (omega arith) (not_before_it last x m.0 m.1 h) apart (λ w. absurd (omega arith)))
  where
    previous : (n : ℕ) → length p - 1 ≡ suc n → (get_or p (length p - 1) d).uuid ≡ x.uuid → (get_or p (length p - 1) d).first ≤ x.first → stands_before (get_or p n d) x ≡ true
    previous n e u f =
        let b : StandsBefore (get_or p n d) (get_or p (length p - 1) d) = subst (λ (m : ℕ). StandsBefore (get_or p n d) (get_or p m d)) (sym e) (next_behind p n d c (omega arith)) in
        stands_before-from (get_or p n d) x (up_to (get_or p n d) (get_or p (length p - 1) d) x b u f)

BeginsBy-trans : (l i j : Interval) → BeginsBy l i → BeginsBy i j → BeginsBy l j
BeginsBy-trans l i j (inl a) (inl b) = inl (nat_list_cmp_total.trans l.uuid i.uuid j.uuid a b)
BeginsBy-trans l i j (inl a) (inr b) = inl (subst (λ (v : List ℕ). slice_cmp nat_cmp l.uuid v ≡ Less) b.0 a)
BeginsBy-trans l i j (inr a) (inl b) = inl (subst (λ (v : List ℕ). slice_cmp nat_cmp v j.uuid ≡ Less) (sym a.0) b)
BeginsBy-trans l i j (inr a) (inr b) = inr (a.0 ∙ b.0, omega arith)

pub LastBeginsBy-next : (p : Position) (i j : Interval) → LastBeginsBy p i → BeginsBy i j → LastBeginsBy p j
LastBeginsBy-next p i j h b = λ d l. BeginsBy-trans (get_or p (length p - 1) d) i j (h d l) b

-- what intervals so far contain, with one more
pub has_joined_more : (is : List Interval) (i : ℕ) (d : Interval) (p : Position) → i < length is → (get_or is i d).first ≤ (get_or is i d).last →
    ((g : Gtid) → has p g ≡ has (take i is) g) → (g : Gtid) → has (joined (get_or is i d) p) g ≡ has (take (i + 1) is) g
has_joined_more is i d p l h same g =
    has-joined p (get_or is i d) h g ∙ (ap (λ (b : Bool). is_within g (get_or is i d) || b) (same g) ∙ (or_comm (is_within g (get_or is i d)) (has (take i is) g) ∙ sym (has_more is i d g l)))

has_permuted : (is sorted : List Interval) → IsPermutation is sorted → (g : Gtid) → has is g ≡ has sorted g
unfolding has
has_permuted is sorted e g = list_any-IsPermutation (is_within g) is sorted e

-- what a sort leaves begins in order
pub in_order : (i j : Interval) → is_lt (ordering_then (slice_cmp nat_cmp j.uuid i.uuid) (ordering_then (nat_cmp j.first i.first) (nat_cmp j.last i.last))) ≡ false → BeginsBy i j
in_order i j h = go (slice_cmp nat_cmp j.uuid i.uuid) refl h
  where
    numbers : (a b : ℕ) (o : Ordering) → is_lt (ordering_then (nat_cmp a b) o) ≡ false → b ≤ a
    numbers a b o h = elim (cases_lt a b) [ inl less ↦ let t : nat_cmp a b ≡ Less = rw (lt-ltb a b less) refl in let f = rw t at h in cc | inr rest ↦ rest ]

    go : (o : Ordering) → slice_cmp nat_cmp j.uuid i.uuid ≡ o → is_lt (ordering_then o (ordering_then (nat_cmp j.first i.first) (nat_cmp j.last i.last))) ≡ false → BeginsBy i j
    go Less e h = cc
    go Equal e h = inr (sym (exact_bytes j.uuid i.uuid e), numbers j.first i.first (nat_cmp j.last i.last) h)
    go Greater e h = inl (nat_list_cmp_total.antisymm i.uuid j.uuid ∙ ap ordering_reverse e)

-- the canonical list of what was merged in order
pub merged_in_order : (is sorted m : List Interval) → All IsInterval is → IsPermutation is sorted → IsCanonical m → SameSet m sorted → m ≡ merged is
merged_in_order is sorted m a e c same =
    canonical_unique m (merged is) c (IsCanonical-merged is a) (λ g. same g ∙ (sym (has_permuted is sorted e g) ∙ sym (has-merged is a g)))

pub limited_few : (p : Position) → length p ≤ 1024 → limited p ≡ Ok p
limited_few p h = rw (le-ltb 1024 (length p) h) refl

pub limited_many : (p : Position) → 1024 < length p → limited p ≡ Err TooManyIntervals
limited_many p h = rw (lt-ltb 1024 (length p) h) refl
