-- Slices of one word and of two.
use Rattle.std.proofs.Common.{◌≡◌, ℕ, Bool, bytes_eq, ◌≤◌, ◌<◌, List, [], ◌∷◌, length, get_or, map, ap, arith, ◌∙◌, sym}
use Rattle.std.specs.Prelude.{◌↔◌, IsTrue}
use Rattle.std.proofs.lemmas.Slice.Eq.{bytes_eq-Decides}

pub two_items : {A : Type 0} (f : A → List ℕ) (xs : List A) (a b : A) → 2 ≤ length xs → length xs < 3 → a ≡ get_or xs 0 a → b ≡ get_or xs 1 b →
    map f xs ≡ f a ∷ (f b ∷ [])
two_items f [] a b long short p q = absurd (omega arith)
two_items f (x ∷ []) a b long short p q = absurd (omega arith)
two_items f (x ∷ y ∷ []) a b long short p q = ap (λ z. f z ∷ (f y ∷ [])) (sym p) ∙ ap (λ z. f a ∷ (f z ∷ [])) (sym q)
two_items f (x ∷ y ∷ z ∷ xs) a b long short p q = absurd (omega arith)

pub one_item : {A : Type 0} (f : A → List ℕ) (xs : List A) (a : A) → 1 ≤ length xs → length xs < 2 → a ≡ get_or xs 0 a → map f xs ≡ f a ∷ []
one_item f [] a long short p = absurd (omega arith)
one_item f (x ∷ []) a long short p = ap (λ z. f z ∷ []) (sym p)
one_item f (x ∷ y ∷ xs) a long short p = absurd (omega arith)

-- the one word is told by its bytes
pub one_word : (bytes : List ℕ) (words : List (List ℕ)) (word : List ℕ) (same : Bool) → words ≡ bytes ∷ [] → same ≡ bytes_eq bytes word → IsTrue same ↔ (words ≡ word ∷ [])
one_word bytes words word same are is =
    (λ h. are ∙ ap (λ b. b ∷ []) ((bytes_eq-Decides bytes word).0 (sym is ∙ h)), λ h. is ∙ (bytes_eq-Decides bytes word).1 (first (sym are ∙ h)))
  where
    first : ◌≡◌ {A = List (List ℕ)} (bytes ∷ []) (word ∷ []) → bytes ≡ word
    first h = cc
