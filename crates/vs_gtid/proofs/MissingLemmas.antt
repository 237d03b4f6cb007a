-- What a set lacks of another: interval by interval, and the first of it.
use Rattle.std.proofs.Common.{◌≡◌, ℕ, zero, suc, ◌+◌, ◌<◌, ◌≤◌, ◌||◌, Bool, true, false, List, [], ◌∷◌, length, take, drop, get_or, refl, ap, sym, subst, ◌∙◌, inl, inr, arith}
use Rattle.std.proofs.Math.Bool.{or_assoc}
use Rattle.std.proofs.lemmas.Bool.{cases_lt, or_cases, or_from, false_from_ne_true}
use Rattle.std.proofs.lemmas.Bool.Decides.{nat_tests}
use Rattle.std.proofs.lemmas.Cmp.{nat_list_cmp_total, tied_itself}
use Rattle.std.proofs.lemmas.List.Folds.{list_any_more, list_any_at}
use Rattle.std.specs.Ordering.{nat_cmp, is_gt}
use Rattle.std.specs.Cmp.Lexicographic.{slice_cmp}
use Rattle.std.specs.declared.cmp.Ordering.TheVariants.{Less, Equal}
use Rattle.vs_base.specs.declared.gtid.Gtid.{Gtid}
use Rattle.vs_gtid.specs.declared.interval.Interval.{Interval}
use Rattle.vs_gtid.specs.Positions.{Position, has, is_within, IsSubset, StandsBeforeFirst, IsCanonical, IsInterval}
use Rattle.vs_gtid.specs.Missing.{comes_after, IsFirstMissing}
use Rattle.vs_gtid.proofs.Order.{Before, Before-trans, within_parts, within_from, not_less}
use Rattle.vs_gtid.proofs.EqualSets.{stands_after}

-- what follows an interval of a canonical list stands behind it
pub rest_behind : (p : Position) (i : ℕ) (d : Interval) → IsCanonical p → i < length p →
    StandsBeforeFirst (get_or p i d) (drop (suc i) p) × IsCanonical (drop (suc i) p)
rest_behind [] i d c l = absurd (omega arith)
rest_behind (h ∷ rest) zero d c l = (c.1, c.2)
rest_behind (h ∷ rest) (suc m) d c l = rest_behind rest m d c.2 (omega arith)

-- each later interval stands behind an earlier one
behind_at : (p : Position) (h : Interval) (i : ℕ) (d : Interval) → StandsBeforeFirst h p → IsCanonical p → i < length p →
    Before h.uuid h.last (get_or p i d).uuid (get_or p i d).first
behind_at [] h i d b c l = absurd (omega arith)
behind_at (j ∷ rest) h zero d b c l = b
behind_at (j ∷ rest) h (suc m) d b c l =
    Before-trans h.uuid j.uuid (get_or rest m d).uuid h.last j.first j.last (get_or rest m d).first c.0.ascends b (behind_at rest j m d c.1 c.2 (omega arith))

-- the number behind an interval of a canonical list is in none of its intervals
pub gap_behind : (p : Position) (i : ℕ) (d : Interval) (g : Gtid) → IsCanonical p → i < length p → (get_or p i d).uuid ≡ g.uuid →
    g.number ≡ (get_or p i d).last + 1 → (get_or p i d).first ≤ (get_or p i d).last → has p g ≡ false
unfolding has
gap_behind [] i d g c l e n a = absurd (omega arith)
gap_behind (h ∷ rest) zero d g c l e n a =
    or_from _ _
    (false_from_ne_true _ (λ w. let m = within_parts g h w in omega arith))
    (false_from_ne_true _ (λ r. elim (stands_after rest h c.1 c.2 g r) [ inl x ↦ not_less h.uuid g.uuid e x | inr x ↦ omega arith ]))
gap_behind (h ∷ rest) (suc m) d g c l e n a =
    or_from _ _
    (false_from_ne_true _ (λ w. let q = within_parts g h w in
    elim (behind_at rest h m d c.1 c.2 (omega arith)) [ inl x ↦ not_less h.uuid (get_or rest m d).uuid (q.0 ∙ sym e) x | inr x ↦ omega arith ]))
    (gap_behind rest m d g c.2 (omega arith) e n a)

pub has_more : (p : Position) (i : ℕ) (d : Interval) (g : Gtid) → i < length p → has (take (i + 1) p) g ≡ (has (take i p) g || is_within g (get_or p i d))
unfolding has
has_more p i d g l = list_any_more (is_within g) p i d l

pub has_at : (p : Position) (i : ℕ) (d : Interval) (g : Gtid) → i < length p → is_within g (get_or p i d) ≡ true → has p g ≡ true
unfolding has
has_at p i d g l w = list_any_at (is_within g) p i d l w

-- one more interval of which nothing is missing
pub IsSubset_more : (p q : Position) (i : ℕ) (d : Interval) → i < length p → IsSubset (take i p) q →
    ((g : Gtid) → is_within g (get_or p i d) ≡ true → has q g ≡ true) → IsSubset (take (i + 1) p) q
IsSubset_more p q i d l s h g t =
    elim (or_cases _ _ (sym (has_more p i d g l) ∙ t)) [ inl a ↦ s g a | inr b ↦ h g b ]

-- the GTIDs of a list are those of a front, of the interval behind it and of the rest
has_parts : (p : Position) (i : ℕ) (d : Interval) (g : Gtid) → i < length p →
    has p g ≡ (has (take i p) g || (is_within g (get_or p i d) || has (drop (suc i) p) g))
unfolding has
has_parts [] i d g l = absurd (omega arith)
has_parts (h ∷ rest) zero d g l = refl
has_parts (h ∷ rest) (suc m) d g l = ap (λ (b : Bool). is_within g h || b) (has_parts rest m d g (omega arith)) ∙ sym (or_assoc (is_within g h) (has (take m rest) g) _)

not_after_number : (g x : Gtid) → g.uuid ≡ x.uuid → g.number ≤ x.number → comes_after g x ≡ false
not_after_number g x e h =
    let same : slice_cmp nat_cmp g.uuid x.uuid ≡ Equal = subst (λ (v : List ℕ). slice_cmp nat_cmp g.uuid v ≡ Equal) e (tied_itself nat_list_cmp_total g.uuid) in
    rw same (numbers g.number x.number h)
  where
    numbers : (a b : ℕ) → a ≤ b → is_gt (nat_cmp a b) ≡ false
    numbers a b h = grind (arith, nat_tests)

not_after_uuid : (g x : Gtid) → slice_cmp nat_cmp g.uuid x.uuid ≡ Less → comes_after g x ≡ false
not_after_uuid g x e = rw e refl

-- the first GTID that is missing of the first interval that isn't contained whole
pub first_missing : (p q : Position) (i : ℕ) (d : Interval) (g : Gtid) → IsCanonical p → i < length p → IsSubset (take i p) q →
    is_within g (get_or p i d) ≡ true → has q g ≡ false →
    ((x : Gtid) → is_within x (get_or p i d) ≡ true → x.number < g.number → has q x ≡ true) → IsFirstMissing p q g
first_missing p q i d g c l s w lacks below = record {
  is_in = has_at p i d g l w;
  is_missing = lacks;
  least = λ x a b.
      elim (or_cases _ _ (sym (has_parts p i d x l) ∙ a)) [
        | inl front ↦ let t = s x front in cc
        | inr more ↦ elim (or_cases _ _ more) [
          | inl here ↦ elim (cases_lt x.number g.number) [
            | inl less ↦ let t = below x here less in cc
            | inr rest ↦ not_after_number g x (sym (within_parts g (get_or p i d) w).0 ∙ (within_parts x (get_or p i d) here).0) rest
          ]
          | inr behind ↦
              let r = rest_behind p i d c l in
              let m = within_parts g (get_or p i d) w in
              elim (stands_after (drop (suc i) p) (get_or p i d) r.0 r.1 x behind) [
                | inl y ↦ not_after_uuid g x (subst (λ (v : List ℕ). slice_cmp nat_cmp v x.uuid ≡ Less) m.0 y)
                | inr y ↦ not_after_number g x (sym m.0 ∙ y.0) (omega arith)
              ]
        ]
      ];
}

-- a set of which a GTID is missing is no subset
pub not_subset : (p q : Position) (g : Gtid) → IsFirstMissing p q g → IsSubset p q → ⊥
not_subset p q g m s = let t = s g m.is_in in let f = m.is_missing in cc

-- the interval that holds the first of a UUID's numbers holds those that follow, as far as it reaches
pub held_on : (q : Position) (at : ℕ) (d : Interval) (start x : Gtid) → at < length q → is_within start (get_or q at d) ≡ true →
    start.uuid ≡ x.uuid → start.number ≤ x.number → x.number ≤ (get_or q at d).last → has q x ≡ true
held_on q at d start x l w e a b =
    let m = within_parts start (get_or q at d) w in
    has_at q at d x l (within_from x (get_or q at d) (m.0 ∙ e) (omega arith) b)

-- and not the number behind it
pub not_held : (q : Position) (at : ℕ) (d : Interval) (start g : Gtid) → IsCanonical q → at < length q → is_within start (get_or q at d) ≡ true →
    start.uuid ≡ g.uuid → g.number ≡ (get_or q at d).last + 1 → has q g ≡ false
not_held q at d start g c l w e n =
    let m = within_parts start (get_or q at d) w in
    gap_behind q at d g c l (m.0 ∙ e) n (omega arith)

pub IsInterval-at : (p : Position) (i : ℕ) (d : Interval) → IsCanonical p → i < length p → IsInterval (get_or p i d)
IsInterval-at [] i d c l = absurd (omega arith)
IsInterval-at (h ∷ rest) zero d c l = c.0
IsInterval-at (h ∷ rest) (suc m) d c l = IsInterval-at rest m d c.2 (omega arith)
