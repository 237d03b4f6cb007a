-- The first place of a list that passes a test, and tests of all of its elements.
use Rattle.std.proofs.Common.{◌≡◌, ℕ, zero, suc, ◌+◌, ◌<◌, Bool, true, false, ◌&&◌, not, cond, nat_lt, List, [], ◌∷◌, length, get_or, map, position, find, Some, None, refl, sym, ap, ◌∙◌, arith}
use Rattle.std.proofs.Math.ListN.{set}
use Rattle.std.specs.List.{list_all, position_or_len}
use Rattle.std.specs.Option.{option_map}
use Rattle.std.proofs.lemmas.Bool.{true≢false, lt-ltb}
use Rattle.std.proofs.lemmas.List.{set-get_or}
use Rattle.std.proofs.lemmas.List.Folds.{find-set, list_all_at}
use Rattle.std.proofs.lemmas.List.Quantifiers.{position-Some}

pub position-first : {X : Type 0} (p : X → Bool) (xs : List X) (i : ℕ) → position p xs ≡ Some i → i ≡ position_or_len p xs
position-first p xs i e = go (nat_lt (position_or_len p xs) (length xs)) e
  where
    go : (b : Bool) → cond b (Some (position_or_len p xs)) None ≡ Some i → i ≡ position_or_len p xs
    go true h = cc
    go false h = cc

pub position-None : {X : Type 0} (p : X → Bool) (xs : List X) → position p xs ≡ None → position_or_len p xs < length xs → ⊥
position-None p xs e inside =
    let there : position p xs ≡ Some (position_or_len p xs) = ap (λ b. cond b (Some (position_or_len p xs)) None) (lt-ltb _ _ inside) in
    let both : None ≡ Some (position_or_len p xs) = sym e ∙ there in
    cc

-- what is found is at the place
pub find-place : {X : Type 0} (p : X → Bool) (xs : List X) (i : ℕ) (x : X) → position p xs ≡ Some i → x ≡ get_or xs i x → find p xs ≡ Some x
find-place p xs i x at is =
    let parts = position-Some p xs i x at in
    let there : set xs i x ≡ xs = ap (set xs i) is ∙ set-get_or xs i x in
    ap (find p) (sym there) ∙ find-set p xs i x (position-first p xs i at) parts.0 (ap p is ∙ parts.1)

pub find-no_place : {X : Type 0} (p : X → Bool) (xs : List X) → (position_or_len p xs < length xs → ⊥) → find p xs ≡ None
find-no_place p [] none = refl
find-no_place p (x ∷ xs) none = go (p x) none (find-no_place p xs)
  where
    go : (b : Bool) → (cond (not b) (1 + position_or_len p xs) 0 < suc (length xs) → ⊥) → ((position_or_len p xs < length xs → ⊥) → find p xs ≡ None) →
        cond b (Some x) (find p xs) ≡ None
    go true outside rest = absurd (outside (omega arith))
    go false outside rest = rest (λ lt. outside (omega arith))

pub find-map : {X Y : Type 0} (p : Y → Bool) (f : X → Y) (xs : List X) → find p (map f xs) ≡ option_map f (find (λ x. p (f x)) xs)
find-map p f [] = refl
find-map p f (x ∷ xs) = go (p (f x)) (find-map p f xs)
  where
    go : (b : Bool) → find p (map f xs) ≡ option_map f (find (λ x. p (f x)) xs) →
        cond b (Some (f x)) (find p (map f xs)) ≡ option_map f (cond b (Some x) (find (λ x. p (f x)) xs))
    go true rest = refl
    go false rest = rest

pub list_all-get : {X : Type 0} (p : X → Bool) (xs : List X) (i : ℕ) (d : X) → i < length xs → list_all p xs ≡ true → p (get_or xs i d) ≡ true
list_all-get p xs i d inside all = go (p (get_or xs i d)) refl
  where
    go : (b : Bool) → p (get_or xs i d) ≡ b → b ≡ true
    go true e = refl
    go false e = absurd (true≢false (sym all ∙ list_all_at p xs i d inside e))

pub list_all-set : {X : Type 0} (p : X → Bool) (xs : List X) (i : ℕ) (y d : X) → p y ≡ p (get_or xs i d) → list_all p (set xs i y) ≡ list_all p xs
list_all-set p [] i y d same = refl
list_all-set p (x ∷ xs) zero y d same = ap (λ b. b && list_all p xs) same
list_all-set p (x ∷ xs) (suc i) y d same = ap (λ b. p x && b) (list_all-set p xs i y d same)
