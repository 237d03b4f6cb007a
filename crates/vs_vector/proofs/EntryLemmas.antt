-- What the calls of a map make of the vector that its entries mean.
use Rattle.std.proofs.Common.{◌≡◌, ℕ, zero, suc, Bool, true, false, List, [], ◌∷◌, slice_get, Option, Some, None, is_some, refl, ap, ◌∙◌, if◌then◌else◌}
use Rattle.std.specs.Borrow.{Bor}
use Rattle.std.specs.Map.{lookup, set_value}
use Rattle.std.specs.Option.{option_map, option_copied}
use Rattle.vs_base.specs.declared.ShardName.{ShardName}
use Rattle.vs_base.specs.Names.{same_name}
use Rattle.vs_gtid.specs.Vectors.{place_of, stands, moved, names}
use Rattle.vs_vector.specs.Places.{entry_place, vector_of}
use Rattle.vs_vector.specs.declared.place.ShardAt.{ShardAt}
use Rattle.vs_vector.proofs.VectorLemmas.{same_name-sym}

pub entry_behind : (r : Option (Bor ShardAt)) → option_map (λ at. entry_place at.now) r ≡ option_map entry_place (option_copied r)
entry_behind None = refl
entry_behind (Some at) = refl

pub name_at : (es : List (ShardName × ShardAt)) (i : ℕ) → slice_get (names (vector_of es)) i ≡ option_map (λ e. e.0) (slice_get es i)
name_at [] i = refl
name_at (e ∷ es) zero = refl
name_at (e ∷ es) (suc i) = name_at es i

module _ (s : ShardName) (test : ShardName → Bool) (asks : (k : ShardName) → test k ≡ same_name s k) where
  tested : (k : ShardName) (x : Bool) → same_name k s ≡ x → test k ≡ x
  tested k x p = asks k ∙ same_name-sym s k ∙ p

  pub looked_up : (es : List (ShardName × ShardAt)) → option_map entry_place (lookup test es) ≡ place_of (vector_of es) s
  looked_up [] = refl
  looked_up (e ∷ es) = by (same_name e.0 s) refl (looked_up es)
    where
      by : (x : Bool) → same_name e.0 s ≡ x → option_map entry_place (lookup test es) ≡ place_of (vector_of es) s →
          option_map entry_place (lookup test (e ∷ es)) ≡ (if x then Some (entry_place e.1) else place_of (vector_of es) s)
      by true p on = rw (tested e.0 true p) refl
      by false p on = rw (tested e.0 false p) on

  pub value_set : (es : List (ShardName × ShardAt)) (at : ShardAt) → vector_of (set_value test es at) ≡ moved (vector_of es) s (entry_place at)
  value_set [] at = refl
  value_set (e ∷ es) at = by (same_name e.0 s) refl (value_set es at)
    where
      by : (x : Bool) → same_name e.0 s ≡ x → vector_of (set_value test es at) ≡ moved (vector_of es) s (entry_place at) →
          vector_of (set_value test (e ∷ es) at) ≡ (if x then (e.0, entry_place at) ∷ vector_of es else (e.0, entry_place e.1) ∷ moved (vector_of es) s (entry_place at))
      by true p on = rw (tested e.0 true p) refl
      by false p on = rw (tested e.0 false p) (ap (λ v. (e.0, entry_place e.1) ∷ v) on)

  is_none : (o : Option ShardAt) → is_some (option_map entry_place o) ≡ false → o ≡ None
  is_none None e = refl
  is_none (Some at) e = absurd (let h : true ≡ false = e in cc)

  pub not_found : (es : List (ShardName × ShardAt)) → stands (vector_of es) s ≡ false → lookup test es ≡ None
  not_found es none = is_none (lookup test es) (ap is_some (looked_up es) ∙ none)
