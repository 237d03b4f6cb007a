-- What holds of the elements of a list up to a place, and of one more.
use Rattle.std.proofs.Common.{◌≡◌, ◌&&◌, ◌||◌, ℕ, zero, suc, ◌+◌, add-one, Bool, true, false, List, [], ◌∷◌, length, take, Option, Some, None, nat_eq, slice_get, refl, ap, sym, ◌∙◌}
use Rattle.std.specs.List.{list_all, list_any}
use Rattle.std.specs.Option.{option_map_or}
use Rattle.std.proofs.lemmas.Bool.{ltb-true}
use Rattle.std.proofs.lemmas.Option.{slice_get_read}
use Rattle.std.specs.Borrow.{Bor}
use Rattle.std.specs.Slice.{IsItemAt}
use Rattle.vs_model.proofs.Lists.{some_is_not_none, same_some}
use Rattle.vs_render.specs.declared.piece.Piece.{Piece}
use Rattle.vs_core.specs.Choices.{held_of}
use Rattle.vs_core.proofs.HeldPieces.{held_at, held_past}

pub or_false : (b : Bool) → (b || false) ≡ b
or_false true = refl
or_false false = refl

and_true : (b : Bool) → (b && true) ≡ b
and_true true = refl
and_true false = refl

or_apart : (a b c : Bool) → (a || (b || c)) ≡ ((a || b) || c)
or_apart true b c = refl
or_apart false b c = refl

and_apart : (a b c : Bool) → (a && (b && c)) ≡ ((a && b) && c)
and_apart true b c = refl
and_apart false b c = refl

module _ {X : Type 0} (t : X → Bool) where
  some_more : (xs : List X) (i : ℕ) → list_any t (take (suc i) xs) ≡ (list_any t (take i xs) || option_map_or t (slice_get xs i) false)
  some_more [] zero = refl
  some_more [] (suc i) = refl
  some_more (y ∷ xs) zero = or_false (t y)
  some_more (y ∷ xs) (suc i) = ap (λ b. t y || b) (some_more xs i) ∙ or_apart (t y) (list_any t (take i xs)) (option_map_or t (slice_get xs i) false)

  all_more : (xs : List X) (i : ℕ) → list_all t (take (suc i) xs) ≡ (list_all t (take i xs) && option_map_or t (slice_get xs i) true)
  all_more [] zero = refl
  all_more [] (suc i) = refl
  all_more (y ∷ xs) zero = and_true (t y)
  all_more (y ∷ xs) (suc i) = ap (λ b. t y && b) (all_more xs i) ∙ and_apart (t y) (list_all t (take i xs)) (option_map_or t (slice_get xs i) true)

  -- a test of one element more
  pub some_step : (xs : List X) (i : ℕ) (old new here : Bool) → old ≡ list_any t (take i xs) → here ≡ option_map_or t (slice_get xs i) false → new ≡ (old || here) → new ≡ list_any t (take (i + 1) xs)
  some_step xs i old new here was is now = now ∙ ap (λ b. b || here) was ∙ ap (λ b. list_any t (take i xs) || b) is ∙ sym (ap (λ n. list_any t (take n xs)) (add-one i) ∙ some_more xs i)

  pub all_step : (xs : List X) (i : ℕ) (old new here : Bool) → old ≡ list_all t (take i xs) → here ≡ option_map_or t (slice_get xs i) true → new ≡ (old && here) → new ≡ list_all t (take (i + 1) xs)
  all_step xs i old new here was is now = now ∙ ap (λ b. b && here) was ∙ ap (λ b. list_all t (take i xs) && b) is ∙ sym (ap (λ n. list_all t (take n xs)) (add-one i) ∙ all_more xs i)

pub either_there : {X : Type 0} (a b : X → Bool) (o : Option X) → (option_map_or a o true || option_map_or b o false) ≡ option_map_or (λ x. a x || b x) o true
either_there a b None = refl
either_there a b (Some x) = refl

-- a test of the pieces of a lane, one held piece more
module _ (k : ℕ) (t : Piece → Bool) where
  abbrev pub some_of : List (ℕ × Piece) → Bool
  some_of held = list_any t (held_of k held)

  some_at : (y : ℕ × Piece) (held : List (ℕ × Piece)) → nat_eq y.0 k ≡ true → some_of (y ∷ held) ≡ (t y.1 || some_of held)
  some_at y held is = ap (list_any t) (held_at k y held is)

  some_past : (y : ℕ × Piece) (held : List (ℕ × Piece)) → nat_eq y.0 k ≡ false → some_of (y ∷ held) ≡ some_of held
  some_past y held is = ap (list_any t) (held_past k y held is)

  held_more : (held : List (ℕ × Piece)) (i : ℕ) (x : ℕ × Piece) → slice_get held i ≡ Some x → nat_eq x.0 k ≡ true → some_of (take (suc i) held) ≡ (some_of (take i held) || t x.1)
  held_more [] i x at is = absurd (some_is_not_none x (sym at))
  held_more (y ∷ held) zero x at is =
      let same : y ≡ x = same_some y x at in
      some_at y [] (ap (λ z. nat_eq z.0 k) same ∙ is) ∙ or_false (t y.1) ∙ ap (λ z. t z.1) same
  held_more (y ∷ held) (suc i) x at is = by (nat_eq y.0 k) refl (held_more held i x at is)
    where
      by : (b : Bool) → nat_eq y.0 k ≡ b → some_of (take (suc i) held) ≡ (some_of (take i held) || t x.1) → some_of (y ∷ take (suc i) held) ≡ (some_of (y ∷ take i held) || t x.1)
      by true p on =
          some_at y (take (suc i) held) p ∙ ap (λ b. t y.1 || b) on ∙ or_apart (t y.1) (some_of (take i held)) (t x.1) ∙ ap (λ b. b || t x.1) (sym (some_at y (take i held) p))
      by false p on = some_past y (take (suc i) held) p ∙ on ∙ ap (λ b. b || t x.1) (sym (some_past y (take i held) p))

  held_less : (held : List (ℕ × Piece)) (i : ℕ) (x : ℕ × Piece) → slice_get held i ≡ Some x → nat_eq x.0 k ≡ false → some_of (take (suc i) held) ≡ some_of (take i held)
  held_less [] i x at is = absurd (some_is_not_none x (sym at))
  held_less (y ∷ held) zero x at is = some_past y [] (ap (λ z. nat_eq z.0 k) (same_some y x at) ∙ is)
  held_less (y ∷ held) (suc i) x at is = by (nat_eq y.0 k) refl (held_less held i x at is)
    where
      by : (b : Bool) → nat_eq y.0 k ≡ b → some_of (take (suc i) held) ≡ some_of (take i held) → some_of (y ∷ take (suc i) held) ≡ some_of (y ∷ take i held)
      by true p on = some_at y (take (suc i) held) p ∙ ap (λ b. t y.1 || b) on ∙ sym (some_at y (take i held) p)
      by false p on = some_past y (take (suc i) held) p ∙ on ∙ sym (some_past y (take i held) p)

  -- a held piece more, of the lane or of another
  pub held_step : (held : List (ℕ × Piece)) (i : ℕ) (x : ℕ × Piece) (old new : Bool) → slice_get held i ≡ Some x → old ≡ some_of (take i held) → new ≡ (old || (nat_eq x.0 k && t x.1)) →
      new ≡ some_of (take (i + 1) held)
  held_step held i x old new at was now =
      now ∙ ap (λ b. b || (nat_eq x.0 k && t x.1)) was ∙ by (nat_eq x.0 k) refl ∙ sym (ap (λ n. some_of (take n held)) (add-one i))
    where
      by : (b : Bool) → nat_eq x.0 k ≡ b → (some_of (take i held) || (b && t x.1)) ≡ some_of (take (suc i) held)
      by true p = sym (held_more held i x at p)
      by false p = or_false (some_of (take i held)) ∙ sym (held_less held i x at p)

-- what `get` lends stands there
pub item_at : {X : Type 0} (xs : List X) (i : ℕ) (x : Bor X) → IsItemAt xs i (Some x) → slice_get xs i ≡ Some x.now
item_at xs i x it = slice_get_read xs (length xs) i x.now refl (ltb-true i (length xs) (sym it.0)) it.1
