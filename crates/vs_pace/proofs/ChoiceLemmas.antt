-- One head more, and that there is one choice.
use Rattle.std.proofs.Common.{◌≡◌, ℕ, suc, ◌<◌, ◌≤◌, ◌∙◌, List, [], ◌∷◌, ◌++◌, length, nat_le, Bool, true, false, Some, None, if◌then◌else◌, refl, ap, sym, subst, arith}
use Rattle.std.proofs.lemmas.Bool.{leb-true, leb-false}
use Rattle.std.proofs.lemmas.List.{append_assoc}
use Rattle.std.specs.List.{AllByRecursion}
use Rattle.vs_pace.specs.declared.head.Head.{Head}
use Rattle.vs_pace.specs.Heads.{IsChosen, IsNext, IsOneChoice, OneMore, rank}

-- what holds of each holds of one, and of all with one more
holds_at : {A : Type 0} (P : A → Type 0) (front : List A) (x : A) (rest : List A) → AllByRecursion P (front ++ x ∷ rest) → P x
holds_at P [] x rest all = all.0
holds_at P (y ∷ front) x rest all = holds_at P front x rest all.1

all_more : {A : Type 0} (P : A → Type 0) (xs : List A) (x : A) → AllByRecursion P xs → P x → AllByRecursion P (xs ++ x ∷ [])
all_more P [] x all is = (is, tt)
all_more P (y ∷ xs) x all is = (all.0, all_more P xs x all.1 is)

all_both : {A : Type 0} (P : A → Type 0) (front back : List A) (x : A) → AllByRecursion P front → P x → AllByRecursion P back → AllByRecursion P (front ++ x ∷ back)
all_both P [] back x fronts is backs = (is, backs)
all_both P (y ∷ front) back x fronts is backs = (fronts.0, all_both P front back x fronts.1 is backs)

all_weaker : {A : Type 0} (P Q : A → Type 0) → ((x : A) → P x → Q x) → (xs : List A) → AllByRecursion P xs → AllByRecursion Q xs
all_weaker P Q f [] all = tt
all_weaker P Q f (x ∷ xs) all = (f x all.0, all_weaker P Q f xs all.1)

-- the head stays the next one, where the later one has no lesser rank
stays : (skew : ℕ) (heads : List Head) (place : ℕ) (later : Head) (next : IsNext skew heads place) → rank skew next.head ≤ rank skew later → IsNext skew (heads ++ later ∷ []) place
stays skew heads place later next no_less = record {
  before = next.before;
  head = next.head;
  behind = next.behind ++ later ∷ [];
  are = ap (λ l. l ++ later ∷ []) next.are ∙ append_assoc next.before (next.head ∷ next.behind) (later ∷ []);
  stands = next.stands;
  greater = next.greater;
  no_less = all_more (λ h. rank skew next.head ≤ rank skew h) next.behind later next.no_less no_less;
}

-- the later one is the next head, where its rank is less
moves : (skew : ℕ) (heads : List Head) (place : ℕ) (later : Head) (next : IsNext skew heads place) → rank skew later < rank skew next.head → IsNext skew (heads ++ later ∷ []) (length heads)
moves skew heads place later next less = record {
  before = heads;
  head = later;
  behind = [];
  are = refl;
  stands = refl;
  greater = subst (λ l. AllByRecursion (λ h. rank skew later < rank skew h) l) (sym next.are)
      (all_both (λ h. rank skew later < rank skew h) next.before next.behind next.head
      (all_weaker (λ h. rank skew next.head < rank skew h) (λ h. rank skew later < rank skew h) (λ h over. omega (arith, over, less)) next.before next.greater)
      less
      (all_weaker (λ h. rank skew next.head ≤ rank skew h) (λ h. rank skew later < rank skew h) (λ h over. omega (arith, over, less)) next.behind next.no_less));
  no_less = tt;
}

pub one_more : OneMore
unfolding moves stays
one_more skew heads head None none = (first, refl) where
  first : IsNext skew (heads ++ head ∷ []) (length heads)
  first = record {
    before = heads;
    head = head;
    behind = [];
    are = refl;
    stands = refl;
    greater = subst (λ l. AllByRecursion (λ h. rank skew head < rank skew h) l) (sym none) tt;
    no_less = tt;
  }
one_more skew heads head (Some c) chosen = by_test (nat_le c.1 (rank skew head)) refl where
  by_test : (b : Bool) → nat_le c.1 (rank skew head) ≡ b → IsChosen skew (heads ++ head ∷ []) (if b then Some c else Some (length heads, rank skew head))
  by_test true e = (stays skew heads c.0 head chosen.0 (subst (λ n. n ≤ rank skew head) (sym chosen.1) (leb-true c.1 (rank skew head) e)), chosen.1)
  by_test false e = (moves skew heads c.0 head chosen.0 (subst (λ n. rank skew head < n) (sym chosen.1) (leb-false c.1 (rank skew head) e)), refl)

-- two splits of one list, each at the next head, are at one place
same_place : (skew : ℕ) (front : List Head) (x : Head) (rest other : List Head) (y : Head) (behind : List Head) → front ++ x ∷ rest ≡ other ++ y ∷ behind →
    AllByRecursion (λ h. rank skew x < rank skew h) front → AllByRecursion (λ h. rank skew x ≤ rank skew h) rest →
    AllByRecursion (λ h. rank skew y < rank skew h) other → AllByRecursion (λ h. rank skew y ≤ rank skew h) behind →
    length front ≡ length other
same_place skew [] x rest [] y behind e xg xn yg yn = refl
same_place skew [] x rest (z ∷ other) y behind e xg xn yg yn =
    let same : x ≡ z = cc in
    let tail : rest ≡ other ++ y ∷ behind = cc in
    let over : rank skew x ≤ rank skew y = holds_at (λ h. rank skew x ≤ rank skew h) other y behind (subst (λ l. AllByRecursion (λ h. rank skew x ≤ rank skew h) l) tail xn) in
    let under : rank skew y < rank skew x = subst (λ h. rank skew y < rank skew h) (sym same) yg.0 in
    absurd (omega (arith, over, under))
same_place skew (z ∷ front) x rest [] y behind e xg xn yg yn =
    let same : y ≡ z = cc in
    let tail : behind ≡ front ++ x ∷ rest = cc in
    let over : rank skew y ≤ rank skew x = holds_at (λ h. rank skew y ≤ rank skew h) front x rest (subst (λ l. AllByRecursion (λ h. rank skew y ≤ rank skew h) l) tail yn) in
    let under : rank skew x < rank skew y = subst (λ h. rank skew x < rank skew h) (sym same) xg.0 in
    absurd (omega (arith, over, under))
same_place skew (z ∷ front) x rest (w ∷ other) y behind e xg xn yg yn =
    let tail : front ++ x ∷ rest ≡ other ++ y ∷ behind = cc in
    ap (λ n. suc n) (same_place skew front x rest other y behind tail xg.1 xn yg.1 yn)

pub one_choice : IsOneChoice
one_choice skew heads i j at_i at_j =
    sym at_i.stands
    ∙ same_place skew at_i.before at_i.head at_i.behind at_j.before at_j.head at_j.behind (sym at_i.are ∙ at_j.are) at_i.greater at_i.no_less at_j.greater at_j.no_less
    ∙ at_j.stands
