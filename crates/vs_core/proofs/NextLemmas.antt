-- The lane whose head leaves next.
use Rattle.std.proofs.Common.{◌≡◌, ℕ, zero, suc, ◌+◌, ◌-◌, ◌<◌, ◌≤◌, true, false, List, [], ◌∷◌, ◌++◌, append_assoc, length, map, take, Option, Some, None, nat_eq, nat_le, if◌then◌else◌, slice_get, option_map, refl, ap, sym, ◌∙◌, subst, ⊎_elim, true≢false, arith}
use Rattle.std.specs.List.{AllByRecursion}
use Rattle.std.proofs.lemmas.Bool.{cases_Bool, eq-eqb, eqb-true, leb-true, le-leb}
use Rattle.vs_pace.specs.declared.head.Head.{Head}
use Rattle.vs_pace.specs.Heads.{IsNext, rank}
use Rattle.vs_model.proofs.Each.{all_append}
use Rattle.vs_model.proofs.Lists.{cons_is_not_nil, some_is_not_none, same_some, same_head, same_tail}
use Rattle.vs_render.specs.declared.piece.Piece.{Piece}
use Rattle.vs_core.specs.Choices.{IsHeadAt, IsNextPlace, behind_one, first_head, lane_head, heads_below, held_of, next_lane, piece_time, sooner, with_lane, without_head}
use Rattle.vs_core.proofs.HeldPieces.{held_at, held_past, not_same}

abbrev Held : Type 0
Held = List (ℕ × Piece)

abbrev head_is : Piece → ℕ → Head
head_is p place = record { time = piece_time p; taken = place }

not_behind : (o : Option Head) → option_map behind_one o ≡ None → o ≡ None
not_behind None e = refl
not_behind (Some h) e = absurd (some_is_not_none (behind_one h) e)

head_at : (k : ℕ) (x : ℕ × Piece) (held : Held) → nat_eq x.0 k ≡ true → lane_head k (x ∷ held) ≡ Some (head_is x.1 0)
head_at k x held is = rw is refl

head_past : (k : ℕ) (x : ℕ × Piece) (held : Held) → nat_eq x.0 k ≡ false → lane_head k (x ∷ held) ≡ option_map behind_one (lane_head k held)
head_past k x held is = rw is refl

-- where the front has no piece of the lane, and the next is one
pub head_hit : (k : ℕ) (held : Held) (i : ℕ) (x : ℕ × Piece) → lane_head k (take i held) ≡ None → slice_get held i ≡ Some x → nat_eq x.0 k ≡ true →
    lane_head k held ≡ Some (head_is x.1 i)
head_hit k [] i x none at is = absurd (some_is_not_none x (sym at))
head_hit k (y ∷ held) zero x none at is = subst (λ z. lane_head k (z ∷ held) ≡ Some (head_is x.1 0)) (sym (same_some y x at)) (head_at k x held is)
head_hit k (y ∷ held) (suc i) x none at is = ⊎_elim
    (λ p. absurd (some_is_not_none (head_is y.1 0) (sym (head_at k y (take i held) p) ∙ none)))
    (λ p. head_past k y held p ∙ ap (option_map behind_one) (head_hit k held i x (not_behind _ (sym (head_past k y (take i held) p) ∙ none)) at is))
    (cases_Bool (nat_eq y.0 k))

pub head_miss : (k : ℕ) (held : Held) (i : ℕ) (x : ℕ × Piece) → lane_head k (take i held) ≡ None → slice_get held i ≡ Some x → nat_eq x.0 k ≡ false →
    lane_head k (take (suc i) held) ≡ None
head_miss k [] i x none at is = absurd (some_is_not_none x (sym at))
head_miss k (y ∷ held) zero x none at is = head_past k y [] (ap (λ z. nat_eq z.0 k) (same_some y x at) ∙ is)
head_miss k (y ∷ held) (suc i) x none at is = ⊎_elim
    (λ p. absurd (some_is_not_none (head_is y.1 0) (sym (head_at k y (take i held) p) ∙ none)))
    (λ p. head_past k y (take (suc i) held) p ∙ ap (option_map behind_one) (head_miss k held i x (not_behind _ (sym (head_past k y (take i held) p) ∙ none)) at is))
    (cases_Bool (nat_eq y.0 k))

without_past : (k : ℕ) (x : ℕ × Piece) (held : Held) → nat_eq x.0 k ≡ false → without_head k (x ∷ held) ≡ x ∷ without_head k held
without_past k x held is = rw is refl

without_at : (k : ℕ) (x : ℕ × Piece) (held : Held) → nat_eq x.0 k ≡ true → without_head k (x ∷ held) ≡ held
without_at k x held is = rw is refl

-- a head stands at its place
pub head_stands : (k : ℕ) (held : Held) (h : Head) → lane_head k held ≡ Some h → IsHeadAt held k h.taken
head_stands k [] h is = absurd (some_is_not_none h (sym is))
head_stands k (x ∷ held) h is = ⊎_elim
    (λ p.
    let h_is : head_is x.1 0 ≡ h = same_some _ _ (sym (head_at k x held p) ∙ is) in
    let pair : ℕ → ℕ × Piece = λ l. (l, x.1) in
    subst (λ g. IsHeadAt (x ∷ held) k g.taken) h_is (record {
      piece = x.1;
      stands_at = ap (λ l. Some (pair l)) (eqb-true x.0 k p);
      first = held_at k x held p ∙ ap (λ l. x.1 ∷ held_of k l) (sym (without_at k x held p));
      others = without_at k x held p;
    }))
    (λ p. past p (lane_head k held) refl (sym (head_past k x held p) ∙ is) (λ g at. head_stands k held g at))
    (cases_Bool (nat_eq x.0 k))
  where
    past : nat_eq x.0 k ≡ false → (o : Option Head) → lane_head k held ≡ o → option_map behind_one (lane_head k held) ≡ Some h →
        ((g : Head) → lane_head k held ≡ Some g → IsHeadAt held k g.taken) → IsHeadAt (x ∷ held) k h.taken
    past p None none e stands_on = absurd (some_is_not_none h (sym (sym (ap (option_map behind_one) none) ∙ e)))
    past p (Some g) at e stands_on =
        let on = stands_on g at in
        subst (λ y. IsHeadAt (x ∷ held) k y.taken) (same_some (behind_one g) h (sym (ap (option_map behind_one) at) ∙ e)) (record {
          piece = on.piece;
          stands_at = on.stands_at;
          first = held_past k x held p ∙ on.first ∙ ap (λ l. on.piece ∷ l) (sym (ap (held_of k) (without_past k x held p) ∙ held_past k x (without_head k held) p));
          others = without_past k x held p ∙ ap (λ l. x ∷ l) on.others;
        })

-- each of the heads is that of its lane
heads_are : (n : ℕ) (held : Held) → AllByRecursion (λ x. lane_head x.0 held ≡ Some x.1) (heads_below n held)
heads_are zero held = tt
heads_are (suc n) held = all_append (λ x. lane_head x.0 held ≡ Some x.1) (heads_below n held) (with_lane n (lane_head n held)) (heads_are n held) (one (lane_head n held) refl)
  where
    one : (o : Option Head) → lane_head n held ≡ o → AllByRecursion (λ x. lane_head x.0 held ≡ Some x.1) (with_lane n o)
    one None is = tt
    one (Some h) is = (is, tt)

module _ (P : ℕ × Head → Type 0) where
  at_place : (hs : List (ℕ × Head)) (i : ℕ) (x : ℕ × Head) → AllByRecursion P hs → slice_get hs i ≡ Some x → P x
  at_place [] i x all at = absurd (some_is_not_none x (sym at))
  at_place (h ∷ hs) zero x all at = subst P (same_some h x at) all.0
  at_place (h ∷ hs) (suc i) x all at = at_place hs i x all.1 at

-- the first head of the least rank is the next one
no_less_in : (skew r : ℕ) (hs : List (ℕ × Head)) → AllByRecursion (λ h. r ≤ rank skew h) (map (λ x. x.1) hs) → (g : ℕ × Head) → first_head skew hs ≡ Some g → r ≤ rank skew g.1
no_less_in skew r [] all g is = absurd (some_is_not_none g (sym is))
no_less_in skew r (h ∷ hs) all g is = by (first_head skew hs) refl (λ x at. no_less_in skew r hs all.1 x at)
  where
    by : (o : Option (ℕ × Head)) → first_head skew hs ≡ o → ((x : ℕ × Head) → first_head skew hs ≡ Some x → r ≤ rank skew x.1) → r ≤ rank skew g.1
    by None none on = subst (λ x. r ≤ rank skew x.1) (same_some _ _ (sym (ap (λ o. Some (sooner skew h o)) none) ∙ is)) all.0
    by (Some x) at on = ⊎_elim
        (λ p. subst (λ y. r ≤ rank skew y.1) (same_some _ _ (sym (ap (λ b. Some (if b then h else x)) p) ∙ sym (ap (λ o. Some (sooner skew h o)) at) ∙ is)) all.0)
        (λ p. subst (λ y. r ≤ rank skew y.1) (same_some _ _ (sym (ap (λ b. Some (if b then h else x)) p) ∙ sym (ap (λ o. Some (sooner skew h o)) at) ∙ is)) (on x at))
        (cases_Bool (nat_le (rank skew h.1) (rank skew x.1)))

sooner_is : (skew : ℕ) (h : ℕ × Head) (o : Option (ℕ × Head)) → ((g : ℕ × Head) → o ≡ Some g → rank skew h.1 ≤ rank skew g.1) → sooner skew h o ≡ h
sooner_is skew h None all = refl
sooner_is skew h (Some g) all = ap (λ b. if b then h else g) (le-leb _ _ (all g refl))

later_is : (skew : ℕ) (h g : ℕ × Head) → rank skew g.1 < rank skew h.1 → sooner skew h (Some g) ≡ g
later_is skew h g less = ⊎_elim
    (λ p. absurd (let le = leb-true (rank skew h.1) (rank skew g.1) p in omega (arith, le, less)))
    (λ p. ap (λ b. if b then h else g) p)
    (cases_Bool (nat_le (rank skew h.1) (rank skew g.1)))

next_at : (skew : ℕ) (hs : List (ℕ × Head)) (i : ℕ) (before : List Head) (head : Head) (behind : List Head) → map (λ x. x.1) hs ≡ before ++ head ∷ behind → length before ≡ i →
    AllByRecursion (λ h. rank skew head < rank skew h) before → AllByRecursion (λ h. rank skew head ≤ rank skew h) behind →
    (x : ℕ × Head) × (first_head skew hs ≡ Some x) × (slice_get hs i ≡ Some x) × (x.1 ≡ head)
next_at skew [] i [] head behind is n greater less = absurd (cons_is_not_nil _ _ (sym is))
next_at skew [] i (b ∷ before) head behind is n greater less = absurd (cons_is_not_nil _ _ (sym is))
next_at skew (h ∷ hs) i [] head behind is n greater less =
    let h_is : h.1 ≡ head = same_head _ _ _ _ is in
    let tail_is : map (λ x. x.1) hs ≡ behind = same_tail _ _ _ _ is in
    let all : AllByRecursion (λ g. rank skew h.1 ≤ rank skew g) (map (λ x. x.1) hs) =
    subst (λ l. AllByRecursion (λ g. rank skew h.1 ≤ rank skew g) l) (sym tail_is) (subst (λ y. AllByRecursion (λ g. rank skew y ≤ rank skew g) behind) (sym h_is) less) in
    (h, ap Some (sooner_is skew h (first_head skew hs) (no_less_in skew (rank skew h.1) hs all)), ap (slice_get (h ∷ hs)) (sym n), h_is)
next_at skew (h ∷ hs) i (b ∷ before) head behind is n greater less =
    let h_is : h.1 ≡ b = same_head _ _ _ _ is in
    let on = next_at skew hs (length before) before head behind (same_tail _ _ _ _ is) refl greater.1 less in (
      on.0,
      ap (λ o. Some (sooner skew h o)) on.1 ∙ ap Some (later_is skew h on.0 (subst (λ y. rank skew on.0.1 < rank skew y) (sym h_is) (subst (λ y. rank skew y < rank skew b) (sym on.3) greater.0))),
      ap (slice_get (h ∷ hs)) (sym n) ∙ on.2,
      on.3,
    )

pub next_is : (skew n : ℕ) (held : Held) (i : ℕ) (x : ℕ × Head) → IsNext skew (map (λ y. y.1) (heads_below n held)) i → slice_get (heads_below n held) i ≡ Some x →
    IsNextPlace (next_lane skew n held) held (Some (x.0, x.1.taken))
next_is skew n held i x next at =
    let found = next_at skew (heads_below n held) i next.before next.head next.behind next.are next.stands next.greater next.no_less in
    let x_is : found.0 ≡ x = same_some _ _ (sym found.2 ∙ at) in
    (ap (option_map (λ h. h.0)) (found.1 ∙ ap Some x_is), head_stands x.0 held x.1 (at_place (λ y. lane_head y.0 held ≡ Some y.1) (heads_below n held) i x (heads_are n held) at))

nothing_mapped : (hs : List (ℕ × Head)) → map (λ x. x.1) hs ≡ [] → hs ≡ []
nothing_mapped [] e = refl
nothing_mapped (h ∷ hs) e = absurd (cons_is_not_nil _ _ e)

pub none_next : (skew n : ℕ) (held : Held) → map (λ y. y.1) (heads_below n held) ≡ [] → IsNextPlace (next_lane skew n held) held None
none_next skew n held none = ap (λ hs. option_map (λ h. h.0) (first_head skew hs)) (nothing_mapped (heads_below n held) none)

-- ---- without a skew the front is next

first_zero : (xs ys : List (ℕ × Head)) (z : ℕ × Head) → z.1.taken ≡ 0 → AllByRecursion (λ x. 0 < x.1.taken) xs → first_head 0 (xs ++ z ∷ ys) ≡ Some z
first_zero [] ys z is all = ap Some (sooner_is 0 z (first_head 0 ys) (λ g at. omega (arith, is)))
first_zero (x ∷ xs) ys z is all = ap (λ o. Some (sooner 0 x o)) (first_zero xs ys z is all.1) ∙ ap Some (later_is 0 x z (let less = all.0 in omega (arith, is, less)))

behind_lanes : (k m : ℕ) (p : Piece) (held : Held) → m ≤ k → AllByRecursion (λ x. 0 < x.1.taken) (heads_below m ((k, p) ∷ held))
behind_lanes k zero p held le = tt
behind_lanes k (suc m) p held le = all_append (λ x. 0 < x.1.taken) (heads_below m ((k, p) ∷ held)) (with_lane m (lane_head m ((k, p) ∷ held)))
    (behind_lanes k m p held (omega (arith, le)))
    (subst (λ o. AllByRecursion (λ x. 0 < x.1.taken) (with_lane m o)) (sym (head_past m (k, p) held (not_same k m (λ same. omega (arith, le, same))))) (one (lane_head m held)))
  where
    one : (o : Option Head) → AllByRecursion (λ x. 0 < x.1.taken) (with_lane m (option_map behind_one o))
    one None = tt
    one (Some h) = (omega arith, tt)

lanes_split : (k d : ℕ) (p : Piece) (held : Held) → (ys : List (ℕ × Head)) × (heads_below (d + suc k) ((k, p) ∷ held) ≡ heads_below k ((k, p) ∷ held) ++ (k, head_is p 0) ∷ ys)
lanes_split k zero p held = (
  [],
  subst (λ n. heads_below n ((k, p) ∷ held) ≡ heads_below k ((k, p) ∷ held) ++ (k, head_is p 0) ∷ []) (let e : suc k ≡ 0 + suc k = omega arith in e)
      (ap (λ o. heads_below k ((k, p) ∷ held) ++ with_lane k o) (head_at k (k, p) held (self k))),
)
  where
    self : (n : ℕ) → nat_eq n n ≡ true
    self n = ⊎_elim (λ e. e) (λ e. absurd (true≢false (sym (eq-eqb n n refl) ∙ e))) (cases_Bool (nat_eq n n))
lanes_split k (suc d) p held =
    let on = lanes_split k d p held in
    let more = with_lane (d + suc k) (lane_head (d + suc k) ((k, p) ∷ held)) in (
      on.0 ++ more,
      subst (λ n. heads_below n ((k, p) ∷ held) ≡ heads_below k ((k, p) ∷ held) ++ (k, head_is p 0) ∷ (on.0 ++ more)) (let e : suc (d + suc k) ≡ suc d + suc k = omega arith in e)
          (ap (λ l. l ++ more) on.1 ∙ append_assoc (heads_below k ((k, p) ∷ held)) ((k, head_is p 0) ∷ on.0) more),
    )

pub front_next : (n k : ℕ) (p : Piece) (held : Held) → k < n → IsNextPlace (next_lane 0 n ((k, p) ∷ held)) ((k, p) ∷ held) (Some (k, 0))
front_next n k p held less =
    let split = lanes_split k (n - suc k) p held in
    let n_is : (n - suc k) + suc k ≡ n = omega (arith, less) in (
      ap (λ m. next_lane 0 m ((k, p) ∷ held)) (sym n_is) ∙ ap (λ hs. option_map (λ h. h.0) (first_head 0 hs)) split.1
          ∙ ap (option_map (λ h. h.0)) (first_zero (heads_below k ((k, p) ∷ held)) split.0 (k, head_is p 0) refl (behind_lanes k k p held (omega arith))),
      head_stands k ((k, p) ∷ held) (head_is p 0) (head_at k (k, p) held (eq-eqb k k refl)),
    )

-- ---- from the lists of numbers and heads

pub front_at : (skew n : ℕ) (held : Held) (lane : ℕ) (p : Piece) → skew ≡ 0 → slice_get held 0 ≡ Some (lane, p) → lane < n → IsNextPlace (next_lane skew n held) held (Some (lane, 0))
front_at skew n [] lane p none at less = let pair : ℕ × Piece = (lane, p) in absurd (some_is_not_none pair (sym at))
front_at skew n (y ∷ held) lane p none at less =
    let pair : ℕ × Piece = (lane, p) in
    let is : y ≡ pair = same_some y pair at in
    subst (λ s. IsNextPlace (next_lane s n (y ∷ held)) (y ∷ held) (Some (lane, 0))) (sym none)
    (subst (λ z. IsNextPlace (next_lane 0 n (z ∷ held)) (z ∷ held) (Some (lane, 0))) (sym is) (front_next n lane p held less))

both_at : (hs : List (ℕ × Head)) (i lane : ℕ) (head : Head) → slice_get (map (λ h. h.0) hs) i ≡ Some lane → slice_get (map (λ h. h.1) hs) i ≡ Some head → slice_get hs i ≡ Some (lane, head)
both_at [] i lane head at head_at = absurd (some_is_not_none lane (sym at))
both_at (h ∷ hs) zero lane head at head_at =
    let with_lane_of : ℕ → ℕ × Head = λ l. (l, h.1) in
    let with_head : Head → ℕ × Head = λ x. (lane, x) in
    ap (λ l. Some (with_lane_of l)) (same_some h.0 lane at) ∙ ap (λ x. Some (with_head x)) (same_some h.1 head head_at)
both_at (h ∷ hs) (suc i) lane head at head_at = both_at hs i lane head at head_at

pub chosen_at : (skew n : ℕ) (held : Held) (lanes : List ℕ) (heads : List Head) (i lane : ℕ) (head : Head) → lanes ≡ map (λ h. h.0) (heads_below n held) → heads ≡ map (λ h. h.1) (heads_below n held) →
    IsNext skew heads i → slice_get lanes i ≡ Some lane → slice_get heads i ≡ Some head → IsNextPlace (next_lane skew n held) held (Some (lane, head.taken))
chosen_at skew n held lanes heads i lane head lanes_are heads_are next at head_at =
    next_is skew n held i (lane, head) (subst (λ l. IsNext skew l i) heads_are next)
    (both_at (heads_below n held) i lane head (sym (ap (λ l. slice_get l i) lanes_are) ∙ at) (sym (ap (λ l. slice_get l i) heads_are) ∙ head_at))
