-- A GTID of a canonical list is in the interval at its place, and in no other.
use Rattle.std.proofs.Common.{◌≡◌, ℕ, zero, suc, ◌+◌, ◌<◌, ◌≤◌, ◌&&◌, ◌||◌, Bool, true, false, List, [], ◌∷◌, length, get_or, nat_lt, refl, ap, sym, subst, ◌∙◌, inl, inr, true≢false, arith}
use Rattle.std.proofs.lemmas.Bool.{and_parts, cases_Bool, false_from_ne_true, leb-true}
use Rattle.std.proofs.lemmas.Bool.Decides.{nat_tests}
use Rattle.std.proofs.lemmas.Slice.Eq.{bytes_eq-Decides}
use Rattle.std.proofs.Math.Numerals.{one-add}
use Rattle.std.specs.Cmp.Lexicographic.{slice_cmp}
use Rattle.std.specs.Ordering.{nat_cmp}
use Rattle.std.specs.declared.cmp.Ordering.TheVariants.{Less}
use Rattle.vs_base.specs.declared.gtid.Gtid.{Gtid}
use Rattle.vs_gtid.specs.declared.interval.Interval.{Interval}
use Rattle.vs_gtid.specs.Positions.{Position, has, is_within, IsCanonical, StandsBefore}
use Rattle.vs_gtid.specs.Joins.{alone, place, stands_before}
use Rattle.std.specs.List.Sorted.{IsPartitionedBy}
use Rattle.vs_gtid.proofs.AddLemmas.{all_before, stands_before-from}
use Rattle.vs_gtid.proofs.Order.{Before-trans, stands_before-is, not_less}

-- an interval that stands before a GTID doesn't contain it
not_within : (i : Interval) (g : Gtid) → StandsBefore i (alone g) → is_within g i ≡ true → ⊥
not_within i g before w =
    let parts = and_parts _ _ w in
    let numbers = and_parts _ _ parts.1 in
    let last : g.number ≤ i.last = leb-true _ _ numbers.1 in
    elim before [
      | inl less ↦ not_less i.uuid g.uuid ((bytes_eq-Decides i.uuid g.uuid).0 parts.0) less
      | inr apart ↦ let behind : i.last + 1 < g.number = apart.1 in omega arith
    ]

-- where one stands before another that contains a GTID, it stands before the GTID
before_it : (i j : Interval) (g : Gtid) → StandsBefore i j → is_within g j ≡ true → StandsBefore i (alone g)
before_it i j g before w =
    let parts = and_parts _ _ w in
    let numbers = and_parts _ _ parts.1 in
    let same : j.uuid ≡ g.uuid = (bytes_eq-Decides j.uuid g.uuid).0 parts.0 in
    let first : j.first ≤ g.number = leb-true _ _ numbers.0 in
    elim before [
      | inl less ↦ inl (subst (λ (u : List ℕ). slice_cmp nat_cmp i.uuid u ≡ Less) same less)
      | inr apart ↦ let behind : i.last + 1 < j.first = apart.1 in let far : i.last + 1 < g.number = omega arith in inr (apart.0 ∙ same, far)
    ]

-- no interval contains a GTID that stands behind one which doesn't stand before the GTID
none_behind : (i : Interval) (rest : Position) (g : Gtid) → IsCanonical (i ∷ rest) → stands_before i (alone g) ≡ false → has rest g ≡ false
unfolding has
none_behind i [] g c h = refl
none_behind i (j ∷ rest) g c h =
    let here : is_within g j ≡ false = false_from_ne_true _ (λ w. differ (stands_before-from i (alone g) (before_it i j g c.1 w)) h) in
    let there : stands_before j (alone g) ≡ false =
    false_from_ne_true _ (λ t. differ (stands_before-from i (alone g)
    (Before-trans i.uuid j.uuid g.uuid i.last j.first j.last g.number c.2.0.ascends c.1 (stands_before-is j (alone g) t))) h) in
    rw (here) (none_behind j rest g c.2 there)
  where
    differ : {b : Bool} → b ≡ true → b ≡ false → ⊥
    differ t f = true≢false (sym t ∙ f)

lt_both : (m n : ℕ) → nat_lt (suc m) (suc n) ≡ nat_lt m n
lt_both m n = grind (arith, nat_tests)

-- A GTID is in a canonical list where the interval at its place contains it.
pub has_at_place : (p : Position) (g : Gtid) (d : Interval) → IsCanonical p →
    has p g ≡ (nat_lt (place (alone g) p) (length p) && is_within g (get_or p (place (alone g) p) d))
unfolding has
has_at_place [] g d c = refl
has_at_place (i ∷ rest) g d c =
    elim (cases_Bool (stands_before i (alone g))) [
      | inl before ↦
          let out : is_within g i ≡ false = false_from_ne_true _ (λ w. not_within i g (stands_before-is i (alone g) before) w) in
          let w = is_within g (get_or rest (place (alone g) rest) d) in
          rw (before, out, one-add) (has_at_place rest g d c.2 ∙ ap (λ (b : Bool). b && w) (sym (lt_both (place (alone g) rest) (length rest))))
      | inr not_before ↦
          let none : place (alone g) (i ∷ rest) ≡ 0 = rw not_before refl in
          let some : nat_lt 0 (suc (length rest)) ≡ true = grind (arith, nat_tests) in
          rw (none, none_behind i rest g c not_before) (or_false (is_within g i) ∙ ap (λ (b : Bool). b && is_within g i) (sym some))
    ]
  where
    or_false : (b : Bool) → (b || false) ≡ (true && b)
    or_false true = refl
    or_false false = refl

-- what stands before k in a canonical list stands in front
pub are_parted : (p : Position) (k : Interval) → IsCanonical p → IsPartitionedBy (λ i. stands_before i k) p
are_parted [] k c i j d h l t = absurd (omega arith)
are_parted (x ∷ rest) k c zero zero d h l t = t
are_parted (x ∷ rest) k c zero (suc m) d h l t = all_before rest x k m d c (omega arith) t
are_parted (x ∷ rest) k c (suc n) zero d h l t = absurd (omega arith)
are_parted (x ∷ rest) k c (suc n) (suc m) d h l t = are_parted rest k c.2 n m d (omega arith) (omega arith) t

-- the same of a place that was found
pub has_found : (p : Position) (g : Gtid) (k d : Interval) (n : ℕ) → IsCanonical p → k ≡ alone g → n ≡ place k p → has p g ≡ (nat_lt n (length p) && is_within g (get_or p n d))
has_found p g k d n c e at =
    subst (λ (m : ℕ). has p g ≡ (nat_lt m (length p) && is_within g (get_or p m d))) (sym (at ∙ ap (λ (x : Interval). place x p) e)) (has_at_place p g d c)
