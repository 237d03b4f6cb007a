-- Quoted texts byte by byte.
use Rattle.std.proofs.Common.{◌≡◌, ◌++◌, ℕ, List, [], ◌∷◌, Option, Some, None, refl, append_assoc}
use Rattle.std.specs.Prelude.{option_map}
use Rattle.vs_select.specs.Parts.{with_byte}

-- what was read behind what is in front of it
abbrev pub with_front : List ℕ → Option (List ℕ × List ℕ) → Option (List ℕ × List ℕ)
with_front front o = option_map (λ (p : List ℕ × List ℕ). (front ++ p.0, p.1)) o

pub with_front_none : (o : Option (List ℕ × List ℕ)) → with_front [] o ≡ o
with_front_none None = refl
with_front_none (Some p) = refl

pub with_front_more : (front : List ℕ) (c : ℕ) (o : Option (List ℕ × List ℕ)) → with_front front (with_byte c o) ≡ with_front (front ++ c ∷ []) o
with_front_more front c None = refl
with_front_more front c (Some p) = rw append_assoc refl
