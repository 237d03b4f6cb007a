-- The keys of a table's rows: in order, each once, and none left out.
use Rattle.std.proofs.Common.{◌≡◌, ◌⊎◌, inl, inr, ⊎_elim, ℕ, Bool, true, false, cond, ◌&&◌, ◌||◌, List, [], ◌∷◌, Option, Some, None, is_some, fold, filter, filter_map, option_map, if◌then◌else◌, refl, ap, sym, ◌∙◌, subst, true≢false}
use Rattle.std.specs.List.{list_any, cons_option, AllByRecursion}
use Rattle.std.specs.Ordering.{is_eq, nat_cmp, ordering_reverse}
use Rattle.std.specs.Cmp.{IsTotalOrder, Equal-is}
use Rattle.std.specs.Cmp.Lexicographic.{slice_cmp}
use Rattle.std.specs.declared.cmp.Ordering.{Ordering}
use Rattle.std.specs.declared.cmp.Ordering.TheVariants.{Less, Equal, Greater}
use Rattle.std.proofs.lemmas.Bool.{or_left, or_right}
use Rattle.std.proofs.Math.Bool.{or-false, or_self_left, or_assoc}
use Rattle.std.proofs.lemmas.Cmp.{alike_right}
use Rattle.vs_base.proofs.BoolLemmas.{or_left_comm}
use Rattle.vs_base.specs.declared.Change.{Change}
use Rattle.vs_model.specs.Logs.{Image}
use Rattle.vs_model.specs.Copy.{Bound, has_key, kept_if, row_after, row_at, key_put, key_put_at, keys_of}
use Rattle.vs_model.specs.Copies.{AreAscending}

module _ {K : Type 0} {R : K → K → Ordering} (o : IsTotalOrder R) where
  pub less_turned : (x y : K) → R x y ≡ Less → R y x ≡ Greater
  less_turned x y e = o.antisymm y x ∙ ap ordering_reverse e

  pub greater_turned : (x y : K) → R x y ≡ Greater → R y x ≡ Less
  greater_turned x y e = o.antisymm y x ∙ ap ordering_reverse e

  pub greater_twice : (x y z : K) → R x y ≡ Greater → R y z ≡ Greater → R x z ≡ Greater
  greater_twice x y z e f = less_turned z x (o.trans z y x (greater_turned y z f) (greater_turned x y e))

  pub equal_from : (x y : K) → is_eq (R x y) ≡ true → R x y ≡ Equal
  equal_from x y e = (Equal-is (R x y)).0 e

module _ {R : Image → Image → Ordering} (o : IsTotalOrder R) where
  put_at_any : (k x z : Image) (zs rest : List Image) (r : Ordering) → R x z ≡ r →
      list_any (λ y. is_eq (R y k)) rest ≡ (is_eq (R x k) || list_any (λ y. is_eq (R y k)) zs) →
      list_any (λ y. is_eq (R y k)) (key_put_at r x z zs rest) ≡ (is_eq (R x k) || list_any (λ y. is_eq (R y k)) (z ∷ zs))
  put_at_any k x z zs rest Less e on = refl
  put_at_any k x z zs rest Equal e on =
      let any : Bool = list_any (λ y. is_eq (R y k)) zs in
      sym (ap (λ s. is_eq s || (is_eq (R z k) || any)) (o.congr x z k e) ∙ or_self_left (is_eq (R z k)) any)
  put_at_any k x z zs rest Greater e on =
      ap (λ b. is_eq (R z k) || b) on ∙ or_left_comm (is_eq (R z k)) (is_eq (R x k)) (list_any (λ y. is_eq (R y k)) zs)

  -- a key is among the keys with one more where it is that one, or among the keys
  put_any : (k x : Image) (keys : List Image) →
      list_any (λ y. is_eq (R y k)) (key_put R x keys) ≡ (is_eq (R x k) || list_any (λ y. is_eq (R y k)) keys)
  put_any k x [] = refl
  put_any k x (z ∷ zs) = put_at_any k x z zs (key_put R x zs) (R x z) refl (put_any k x zs)

  all_put_any : (k : Image) (more keys : List Image) → list_any (λ y. is_eq (R y k)) (fold (λ ks x. key_put R x ks) keys more)
      ≡ (list_any (λ y. is_eq (R y k)) keys || list_any (λ y. is_eq (R y k)) more)
  all_put_any k [] keys = sym (or-false (list_any (λ y. is_eq (R y k)) keys))
  all_put_any k (x ∷ more) keys =
      all_put_any k more (key_put R x keys) ∙ ap (λ b. b || list_any (λ y. is_eq (R y k)) more) (put_any k x keys)
      ∙ (or_assoc (is_eq (R x k)) (list_any (λ y. is_eq (R y k)) keys) (list_any (λ y. is_eq (R y k)) more) ∙ or_left_comm (is_eq (R x k)) (list_any (λ y. is_eq (R y k)) keys) (list_any (λ y. is_eq (R y k)) more))

  module _ (P : Image → Type 0) (x : Image) (p : P x) where
    put_at_all : (z : Image) (zs rest : List Image) (r : Ordering) → P z → AllByRecursion P zs → AllByRecursion P rest →
        AllByRecursion P (key_put_at r x z zs rest)
    put_at_all z zs rest Less q h k = (p, (q, h))
    put_at_all z zs rest Equal q h k = (q, h)
    put_at_all z zs rest Greater q h k = (q, k)

    put_all : (keys : List Image) → AllByRecursion P keys → AllByRecursion P (key_put R x keys)
    put_all [] h = (p, tt)
    put_all (z ∷ zs) h = put_at_all z zs (key_put R x zs) (R x z) h.0 h.1 (put_all zs h.1)

  before_all : (x z : Image) (zs : List Image) → R x z ≡ Less → AllByRecursion (λ y. R z y ≡ Less) zs → AllByRecursion (λ y. R x y ≡ Less) zs
  before_all x z [] e h = tt
  before_all x z (y ∷ zs) e h = (o.trans x z y e h.0, before_all x z zs e h.1)

  put_at_ascends : (x z : Image) (zs rest : List Image) (r : Ordering) → R x z ≡ r → AreAscending R (z ∷ zs) → AreAscending R rest →
      (R x z ≡ Greater → AllByRecursion (λ y. R z y ≡ Less) rest) → AreAscending R (key_put_at r x z zs rest)
  put_at_ascends x z zs rest Less e h k all = ((e, before_all x z zs e h.0), h)
  put_at_ascends x z zs rest Equal e h k all = h
  put_at_ascends x z zs rest Greater e h k all = (all e, k)

  -- keys stay in order
  put_ascends : (x : Image) (keys : List Image) → AreAscending R keys → AreAscending R (key_put R x keys)
  put_ascends x [] h = (tt, tt)
  put_ascends x (z ∷ zs) h =
      put_at_ascends x z zs (key_put R x zs) (R x z) refl h (put_ascends x zs h.1)
      (λ e. put_all (λ y. R z y ≡ Less) x (greater_turned o x z e) zs h.0)

  all_put_ascends : (more keys : List Image) → AreAscending R keys → AreAscending R (fold (λ ks x. key_put R x ks) keys more)
  all_put_ascends [] keys h = h
  all_put_ascends (x ∷ more) keys h = all_put_ascends more (key_put R x keys) (put_ascends x keys h)

module _ (bound : Bound) (table : List ℕ) (o : IsTotalOrder (bound.order table)) where
  abbrev R : Image → Image → Ordering
  R = bound.order table

  -- a change by what it touches
  abbrev row_by : Bool → Bool → Bool → Option Image → Option Image → Option Image
  row_by here before after image row = if here && (before || after) then kept_if after image else row

  pub has_key-alike : (k j : Image) → R k j ≡ Equal → (image : Option Image) → has_key bound table k image ≡ has_key bound table j image
  has_key-alike k j e None = refl
  has_key-alike k j e (Some row) = ap is_eq (alike_right o k j (bound.key table row) e)

  row_after-alike : (k j : Image) → R k j ≡ Equal → (row : Option Image) (c : Change) → row_after bound table k row c ≡ row_after bound table j row c
  row_after-alike k j e row c =
      let here : Bool = is_eq (slice_cmp nat_cmp c.table table) in
      ap (λ b. row_by here b (has_key bound table k c.after) c.after row) (has_key-alike k j e c.before)
      ∙ ap (λ b. row_by here (has_key bound table j c.before) b c.after row) (has_key-alike k j e c.after)

  fold-alike : (k j : Image) → R k j ≡ Equal → (changes : List Change) (row : Option Image) →
      fold (row_after bound table k) row changes ≡ fold (row_after bound table j) row changes
  fold-alike k j e [] row = refl
  fold-alike k j e (c ∷ changes) row =
      fold-alike k j e changes (row_after bound table k row c) ∙ ap (λ r. fold (row_after bound table j) r changes) (row_after-alike k j e row c)

  -- equal keys have one row
  pub row_at-alike : (changes : List Change) (k j : Image) → R k j ≡ Equal → row_at bound changes table k ≡ row_at bound changes table j
  row_at-alike changes k j e = fold-alike k j e changes None

  -- where a change leaves a row, it was there before, or it is the change's after image and has the key
  abbrev CameBy : Image → Option Image → Change → Image → Type 0
  CameBy k row c there = (row ≡ Some there) ⊎ ((is_eq (slice_cmp nat_cmp c.table table) ≡ true) × (c.after ≡ Some there) × (is_eq (R (bound.key table there) k) ≡ true))

  came_by : (k : Image) (row : Option Image) (c : Change) (there : Image) (here before after : Bool) → is_eq (slice_cmp nat_cmp c.table table) ≡ here →
      has_key bound table k c.after ≡ after → row_by here before after c.after row ≡ Some there → CameBy k row c there
  came_by k row c there false before after e f is = inl is
  came_by k row c there true true false e f is = absurd (true≢false (sym (ap is_some is)))
  came_by k row c there true false false e f is = inl is
  came_by k row c there true true true e f is = inr (e, is, subst (λ i. has_key bound table k i ≡ true) is f)
  came_by k row c there true false true e f is = inr (e, is, subst (λ i. has_key bound table k i ≡ true) is f)

  after_change : (k : Image) (row : Option Image) (c : Change) (there : Image) → row_after bound table k row c ≡ Some there → CameBy k row c there
  after_change k row c there is =
      came_by k row c there (is_eq (slice_cmp nat_cmp c.table table)) (has_key bound table k c.before) (has_key bound table k c.after) refl refl is

  fold_has_key : (k : Image) (changes : List Change) (row : Option Image) → ((there : Image) → row ≡ Some there → is_eq (R (bound.key table there) k) ≡ true) →
      (there : Image) → fold (row_after bound table k) row changes ≡ Some there → is_eq (R (bound.key table there) k) ≡ true
  fold_has_key k [] row had there is = had there is
  fold_has_key k (c ∷ changes) row had there is =
      fold_has_key k changes (row_after bound table k row c)
      (λ x e. ⊎_elim (λ before. had x before) (λ came. came.2) (after_change k row c x e)) there is

  -- the row at a key has this key
  pub row_has_key : (changes : List Change) (k there : Image) → row_at bound changes table k ≡ Some there → R (bound.key table there) k ≡ Equal
  row_has_key changes k there is =
      equal_from o (bound.key table there) k (fold_has_key k changes None (λ x e. absurd (true≢false (sym (ap is_some e)))) there is)

  -- the keys of the after images
  abbrev afters : List Change → List Image
  afters changes = filter_map (λ c. option_map (bound.key table) c.after) (filter (λ c. is_eq (slice_cmp nat_cmp c.table table)) changes)

  module _ (t : Image → Bool) where
    any_cons : (i : Option Image) (ks : List Image) → list_any t ks ≡ true → list_any t (cons_option i ks) ≡ true
    any_cons None ks h = h
    any_cons (Some k) ks h = or_right (t k) (list_any t ks) h

    any_more : (here : Bool) (c : Change) (changes : List Change) → list_any t (filter_map (λ x. option_map (bound.key table) x.after) changes) ≡ true →
        list_any t (filter_map (λ x. option_map (bound.key table) x.after) (cond here (c ∷ changes) changes)) ≡ true
    any_more true c changes h = any_cons (option_map (bound.key table) c.after) (filter_map (λ x. option_map (bound.key table) x.after) changes) h
    any_more false c changes h = h

    any_first : (c : Change) (changes : List Change) (there : Image) → is_eq (slice_cmp nat_cmp c.table table) ≡ true → c.after ≡ Some there →
        t (bound.key table there) ≡ true → list_any t (afters (c ∷ changes)) ≡ true
    any_first c changes there here is h =
        let rest : List Change = filter (λ x. is_eq (slice_cmp nat_cmp x.table table)) changes in
        let keys : List Image = afters changes in
        ap (λ b. list_any t (filter_map (λ x. option_map (bound.key table) x.after) (cond b (c ∷ rest) rest))) here
        ∙ ap (λ i. list_any t (cons_option (option_map (bound.key table) i) keys)) is ∙ or_left (t (bound.key table there)) (list_any t keys) h

  fold_found : (k : Image) (changes : List Change) (row : Option Image) (there : Image) → fold (row_after bound table k) row changes ≡ Some there →
      (row ≡ Some there) ⊎ (list_any (λ y. is_eq (R y k)) (afters changes) ≡ true)
  fold_found k [] row there is = inl is
  fold_found k (c ∷ changes) row there is = ⊎_elim
      (λ now. ⊎_elim (λ before. inl before)
      (λ came. inr (any_first (λ y. is_eq (R y k)) c changes there came.0 came.1 came.2)) (after_change k row c there now))
      (λ later. inr (any_more (λ y. is_eq (R y k)) (is_eq (slice_cmp nat_cmp c.table table)) c (filter (λ x. is_eq (slice_cmp nat_cmp x.table table)) changes) later))
      (fold_found k changes (row_after bound table k row c) there is)

  -- where there is a row, its key is among the keys
  pub key_found : (changes : List Change) (k there : Image) → row_at bound changes table k ≡ Some there →
      list_any (λ y. is_eq (R y k)) (keys_of bound changes table) ≡ true
  key_found changes k there is =
      all_put_any o k (afters changes) [] ∙ ⊎_elim (λ none. absurd (true≢false (sym (ap is_some none)))) (λ h. h) (fold_found k changes None there is)

  pub keys_ascend : (changes : List Change) → AreAscending R (keys_of bound changes table)
  keys_ascend changes = all_put_ascends o (afters changes) [] tt
