-- What `joined` and `merged` give: the same GTIDs, in canonical order.
use Rattle.std.proofs.Common.{◌≡◌, ℕ, ◌<◌, ◌≤◌, ◌&&◌, ◌||◌, List, [], ◌∷◌, ◌++◌, length, nat_eq, refl, ap, ◌∙◌, inl, inr, leb, arith}
use Rattle.std.proofs.Math.Bool.{or_assoc, or_comm}
use Rattle.std.proofs.lemmas.Bool.{cases_Bool}
use Rattle.std.proofs.lemmas.Bool.Decides.{nat_tests}
use Rattle.std.specs.Cmp.Lexicographic.{pointwise}
use Rattle.std.proofs.lemmas.List.Elements.{All-head, All-tail, All-nil, All-cons}
use Rattle.std.proofs.lemmas.List.Folds.{list_any-append}
use Rattle.std.specs.List.{All, slice_index}
use Rattle.vs_base.proofs.BoolLemmas.{or_left_comm}
use Rattle.vs_base.specs.declared.gtid.Gtid.{Gtid}
use Rattle.vs_gtid.specs.declared.interval.Interval.{Interval}
use Rattle.vs_gtid.specs.Positions.{Position, has, is_within, StandsBefore, StandsBeforeFirst, IsCanonical, IsInterval}
use Rattle.vs_gtid.specs.Joins.{stands_before, hull, joined, merged, united, alone, added}
use Rattle.vs_gtid.proofs.Order.{Before-trans, stands_before-is, meet, is_within-hull, IsInterval-hull, StandsBefore-hull}
use Rattle.vs_base.specs.Names.{same_gtid}

-- joining an interval adds its GTIDs, and no others
pub has-joined : (p : Position) (k : Interval) → k.first ≤ k.last → (g : Gtid) → has (joined k p) g ≡ (is_within g k || has p g)
unfolding has joined
has-joined [] k h g = refl
has-joined (i ∷ rest) k h g =
    elim (cases_Bool (stands_before k i)) [
      | inl before ↦ rw before refl
      | inr not_before ↦ elim (cases_Bool (stands_before i k)) [
        | inl after ↦ rw (not_before, after) (ap (λ b. is_within g i || b) (has-joined rest k h g) ∙ or_left_comm (is_within g i) (is_within g k) (has rest g))
        | inr not_after ↦ rw (not_before, not_after)
            (has-joined rest (hull k i) (omega arith) g ∙ ap (λ b. b || has rest g) (is_within-hull k i h not_before not_after g)
            ∙ or_assoc (is_within g k) (is_within g i) (has rest g))
      ]
    ]

one_number : (a b : ℕ) → (leb a b && leb b a) ≡ nat_eq a b
one_number a b = grind (arith, nat_tests)

-- the set with a GTID more has what it had and that GTID
pub has-added : (p : Position) (g x : Gtid) → has (added p g) x ≡ (has p x || same_gtid g x)
unfolding added same_gtid
has-added p g x =
    has-joined p (alone g) (omega arith) x ∙ ap (λ b. (pointwise nat_eq g.uuid x.uuid && b) || has p x) (one_number g.number x.number) ∙ or_comm (same_gtid g x) (has p x)

further : (j i : Interval) (rest : Position) → i.first ≤ i.last → StandsBefore j i → StandsBeforeFirst i rest → StandsBeforeFirst j rest
further j i [] h a b = tt
further j i (l ∷ rest) h a b = Before-trans j.uuid i.uuid l.uuid j.last i.first i.last l.first h a b

-- what stands before a list and before an interval stands before the list that joins them
StandsBeforeFirst-joined : (p : Position) (j k : Interval) → IsCanonical p → StandsBefore j k → StandsBeforeFirst j p → StandsBeforeFirst j (joined k p)
unfolding joined
StandsBeforeFirst-joined [] j k c a b = a
StandsBeforeFirst-joined (i ∷ rest) j k c a b =
    elim (cases_Bool (stands_before k i)) [
      | inl before ↦ rw before a
      | inr not_before ↦ elim (cases_Bool (stands_before i k)) [
        | inl after ↦ rw (not_before, after) b
        | inr not_after ↦ rw (not_before, not_after)
            (StandsBeforeFirst-joined rest j (hull k i) c.2 (StandsBefore-hull j k i (meet k i not_before not_after).0 a b) (further j i rest c.0.ascends b c.1))
      ]
    ]

-- joining keeps canonical order
pub IsCanonical-joined : (p : Position) (k : Interval) → IsInterval k → IsCanonical p → IsCanonical (joined k p)
unfolding joined
IsCanonical-joined [] k v c = (v, tt, tt)
IsCanonical-joined (i ∷ rest) k v c =
    elim (cases_Bool (stands_before k i)) [
      | inl before ↦ rw before (v, stands_before-is k i before, c)
      | inr not_before ↦ elim (cases_Bool (stands_before i k)) [
        | inl after ↦ rw (not_before, after) (c.0, StandsBeforeFirst-joined rest i k c.2 (stands_before-is i k after) c.1, IsCanonical-joined rest k v c.2)
        | inr not_after ↦ rw (not_before, not_after) (IsCanonical-joined rest (hull k i) (IsInterval-hull k i v c.0) c.2)
      ]
    ]

pub IsInterval-alone : (g : Gtid) → length g.uuid ≡ 16 → ((k : ℕ) → slice_index g.uuid k < 256) → IsInterval (alone g)
IsInterval-alone g long bytes = record { uuid = long; bytes = bytes; first = g.first; ascends = omega arith; last = g.last }

pub IsCanonical-added : (p : Position) (g : Gtid) → length g.uuid ≡ 16 → ((k : ℕ) → slice_index g.uuid k < 256) → IsCanonical p → IsCanonical (added p g)
unfolding added
IsCanonical-added p g long bytes c = IsCanonical-joined p (alone g) (IsInterval-alone g long bytes) c

-- merging keeps the GTIDs
pub has-merged : (is : List Interval) → All IsInterval is → (g : Gtid) → has (merged is) g ≡ has is g
unfolding has merged
has-merged [] a g = refl
has-merged (i ∷ rest) a g =
    let v : IsInterval i = All-head IsInterval i rest a in
    has-joined (merged rest) i v.ascends g ∙ ap (λ b. is_within g i || b) (has-merged rest (All-tail IsInterval i rest a) g)

-- and gives canonical order
pub IsCanonical-merged : (is : List Interval) → All IsInterval is → IsCanonical (merged is)
unfolding merged
IsCanonical-merged [] a = tt
IsCanonical-merged (i ∷ rest) a =
    IsCanonical-joined (merged rest) i (All-head IsInterval i rest a) (IsCanonical-merged rest (All-tail IsInterval i rest a))

pub AreIntervals : (p : Position) → IsCanonical p → All IsInterval p
AreIntervals [] c = All-nil IsInterval
AreIntervals (i ∷ rest) c = All-cons IsInterval i rest c.0 (AreIntervals rest c.2)

pub AreIntervals-both : (p q : Position) → IsCanonical p → IsCanonical q → All IsInterval (p ++ q)
AreIntervals-both [] q a b = AreIntervals q b
AreIntervals-both (i ∷ rest) q a b = All-cons IsInterval i (rest ++ q) a.0 (AreIntervals-both rest q a.2 b)

-- the union has the GTIDs of both, and is canonical
pub has-united : (p q : Position) → IsCanonical p → IsCanonical q → (g : Gtid) → has (united p q) g ≡ (has p g || has q g)
unfolding has united
has-united p q a b g = has-merged (p ++ q) (AreIntervals-both p q a b) g ∙ list_any-append (is_within g) p q

pub IsCanonical-united : (p q : Position) → IsCanonical p → IsCanonical q → IsCanonical (united p q)
unfolding united
IsCanonical-united p q a b = IsCanonical-merged (p ++ q) (AreIntervals-both p q a b)
