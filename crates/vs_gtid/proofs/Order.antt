-- The order of intervals: what stands before what, and what an interval contains.
use Rattle.std.proofs.Common.{◌≡◌, ℕ, ◌+◌, ◌<◌, ◌≤◌, ◌⊎◌, ◌&&◌, ◌||◌, Bool, true, false, List, refl, ap, sym, subst, ◌∙◌, inl, inr, leb, nat_eq, min, max, arith}
use Rattle.std.proofs.lemmas.Bool.{and_parts, and_from, or_cases, or_parts, and_cases, ltb-true, ltb-false, leb-true, le-leb}
use Rattle.std.proofs.lemmas.Bool.Decides.{nat_tests}
use Rattle.std.proofs.lemmas.Cmp.{nat_list_cmp_total, tied_itself}
use Rattle.std.proofs.lemmas.Map.Lookups.{exact_bytes}
use Rattle.std.proofs.lemmas.Slice.Eq.{bytes_eq-Decides}
use Rattle.std.specs.Ordering.{nat_cmp, is_lt, ordering_reverse}
use Rattle.std.specs.Cmp.Lexicographic.{slice_cmp, pointwise}
use Rattle.std.specs.declared.cmp.Ordering.{Ordering}
use Rattle.std.specs.declared.cmp.Ordering.TheVariants.{Less, Equal, Greater}
use Rattle.vs_base.specs.declared.gtid.Gtid.{Gtid}
use Rattle.vs_gtid.specs.declared.interval.Interval.{Interval}
use Rattle.vs_gtid.specs.Positions.{is_within, StandsBefore, IsInterval}
use Rattle.vs_gtid.specs.Joins.{stands_before, hull}

-- after the UUID u and the number m stands the UUID v with the number n, and a number lies between them
abbrev pub Before : List ℕ → ℕ → List ℕ → ℕ → Type 0
Before u m v n = (slice_cmp nat_cmp u v ≡ Less) ⊎ ((u ≡ v) × (m + 1 < n))

pub Before-trans : (u v w : List ℕ) (m n o q : ℕ) → n ≤ o → Before u m v n → Before v o w q → Before u m w q
Before-trans u v w m n o q h (inl a) (inl b) = inl (nat_list_cmp_total.trans u v w a b)
Before-trans u v w m n o q h (inl a) (inr b) = inl (subst (λ (x : List ℕ). slice_cmp nat_cmp u x ≡ Less) b.0 a)
Before-trans u v w m n o q h (inr a) (inl b) = inl (subst (λ (x : List ℕ). slice_cmp nat_cmp x w ≡ Less) (sym a.0) b)
Before-trans u v w m n o q h (inr a) (inr b) = inr (a.0 ∙ b.0, omega arith)

is_lt-Less : (o : Ordering) → is_lt o ≡ true → o ≡ Less
is_lt-Less Less h = refl
is_lt-Less Equal h = cc
is_lt-Less Greater h = cc

tied : (o : Ordering) → is_lt o ≡ false → is_lt (ordering_reverse o) ≡ false → o ≡ Equal
tied Less h g = cc
tied Equal h g = refl
tied Greater h g = cc

pub stands_before-is : (i j : Interval) → stands_before i j ≡ true → StandsBefore i j
stands_before-is i j h =
    elim (or_cases _ _ h) [
      | inl a ↦ inl (is_lt-Less _ a)
      | inr b ↦
          let parts = and_parts _ _ b in
          inr ((bytes_eq-Decides i.uuid j.uuid).0 parts.0, ltb-true _ _ parts.1)
    ]

-- a test that isn't met although its first part is
second_fails : (x y : Bool) → x ≡ true → (x && y) ≡ false → y ≡ false
second_fails x y h g = elim (and_cases x y g) [ inl a ↦ cc | inr b ↦ b ]

-- intervals of which neither stands before the other have one UUID, and no number lies between them
pub meet : (i j : Interval) → stands_before i j ≡ false → stands_before j i ≡ false →
    (i.uuid ≡ j.uuid) × (j.first ≤ i.last + 1) × (i.first ≤ j.last + 1)
meet i j h g =
    let a = or_parts _ _ h in
    let b = or_parts _ _ g in
    let lt : is_lt (ordering_reverse (slice_cmp nat_cmp i.uuid j.uuid)) ≡ false = ap is_lt (sym (nat_list_cmp_total.antisymm j.uuid i.uuid)) ∙ b.0 in
    let same : i.uuid ≡ j.uuid = exact_bytes i.uuid j.uuid (tied _ a.0 lt) in (
      same,
      ltb-false _ _ (second_fails _ _ ((bytes_eq-Decides i.uuid j.uuid).1 same) a.1),
      ltb-false _ _ (second_fails _ _ ((bytes_eq-Decides j.uuid i.uuid).1 (sym same)) b.1),
    )

within_union : (p : Bool) (a b c d n : ℕ) → a ≤ b → c ≤ b + 1 → a ≤ d + 1 →
    (p && (leb (min a c) n && leb n (max b d))) ≡ ((p && (leb a n && leb n b)) || (p && (leb c n && leb n d)))
within_union true a b c d n f g h = grind (arith, nat_tests)
within_union false a b c d n f g h = refl

-- what intervals that meet contain, their hull contains, and nothing else
pub is_within-hull : (k i : Interval) → k.first ≤ k.last → stands_before k i ≡ false → stands_before i k ≡ false → (g : Gtid) →
    is_within g (hull k i) ≡ (is_within g k || is_within g i)
is_within-hull k i h a b g =
    let m = meet k i a b in
    subst (λ (u : List ℕ). is_within g (hull k i) ≡ (is_within g k || (pointwise nat_eq u g.uuid && (leb i.first g.number && leb g.number i.last)))) m.0
    (within_union (pointwise nat_eq k.uuid g.uuid) k.first k.last i.first i.last g.number h m.1 m.2)

pub IsInterval-hull : (k i : Interval) → IsInterval k → IsInterval i → IsInterval (hull k i)
IsInterval-hull k i a b = record { uuid = a.uuid; bytes = a.bytes; first = omega arith; ascends = omega arith; last = omega arith }

-- the parts of being within an interval
pub within_parts : (g : Gtid) (i : Interval) → is_within g i ≡ true → (i.uuid ≡ g.uuid) × (i.first ≤ g.number) × (g.number ≤ i.last)
within_parts g i h =
    let p = and_parts _ _ h in
    let q = and_parts _ _ p.1 in
    ((bytes_eq-Decides i.uuid g.uuid).0 p.0, leb-true _ _ q.0, leb-true _ _ q.1)

pub within_from : (g : Gtid) (i : Interval) → i.uuid ≡ g.uuid → i.first ≤ g.number → g.number ≤ i.last → is_within g i ≡ true
within_from g i e a b = and_from _ _ ((bytes_eq-Decides i.uuid g.uuid).1 e) (and_from _ _ (le-leb _ _ a) (le-leb _ _ b))

-- no UUID is less than itself
pub not_less : (u v : List ℕ) → u ≡ v → slice_cmp nat_cmp u v ≡ Less → ⊥
not_less u v e h = let same : slice_cmp nat_cmp u v ≡ Equal = subst (λ (x : List ℕ). slice_cmp nat_cmp u x ≡ Equal) e (tied_itself nat_list_cmp_total u) in cc

-- what stands before two intervals that meet stands before their hull
pub StandsBefore-hull : (j k i : Interval) → k.uuid ≡ i.uuid → StandsBefore j k → StandsBefore j i → StandsBefore j (hull k i)
StandsBefore-hull j k i e (inl a) b = inl a
StandsBefore-hull j k i e (inr a) (inl b) = absurd (not_less j.uuid i.uuid (a.0 ∙ e) b)
StandsBefore-hull j k i e (inr a) (inr b) = inr (a.0, omega arith)
