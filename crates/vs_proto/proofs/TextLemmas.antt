-- What the test for UTF-8 says.
use Rattle.std.proofs.Common.{◌≡◌, ℕ, List, true, false, refl}
use Rattle.std.specs.Str.{IsUtf8, is_utf8}
use Rattle.std.proofs.lemmas.Str.{IsUtf8-from_is_utf8}

pub not_text : (b : List ℕ) → ¬ (IsUtf8 b) → is_utf8 b ≡ false
not_text b h = elim (is_utf8 b) as (λ t. is_utf8 b ≡ t → t ≡ false) [
  | true ↦ λ e. absurd (h (IsUtf8-from_is_utf8 b e))
  | false ↦ λ e. refl
] refl
