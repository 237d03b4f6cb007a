-- The cells of a row take their bytes one after the other.
use Rattle.std.proofs.Common.{◌≡◌, ℕ, zero, suc, ◌+◌, ◌-◌, ◌<◌, ◌≤◌, ◌==◌, nat_le, if◌then◌else◌, Bool, true, false, ◌&&◌, List, [], ◌∷◌, Some, None, ℤ, pos, negsuc, inl, inr, refl, ap, sym, ◌∙◌, arith}
use Rattle.std.specs.List.{list_all}
use Rattle.std.proofs.lemmas.Bool.{cases_lt}
use Rattle.std.proofs.lemmas.Bool.Decides.{nat_tests}
use Rattle.vs_proto.specs.Cells.{is_cell_length, cells_bytes, cells_fill, cell_left}

abbrev pub taken : List ℤ → ℕ → Bool
taken [] n = n == 0
taken (z ∷ zs) n = elim (cell_left z n) [ Some left ↦ taken zs left | None ↦ false ]

same_test : (n k s : ℕ) → k ≤ n → ((n - k) == s) ≡ (n == (k + s))
same_test n k s h = grind (arith, nat_tests)

never : (n k s : ℕ) → n < k → (n == (k + s)) ≡ false
never n k s h = grind (arith, nat_tests)

and_false : (b : Bool) → (b && false) ≡ false
and_false true = refl
and_false false = refl

pub taken-fill : (zs : List ℤ) (n : ℕ) → taken zs n ≡ cells_fill zs n
taken-fill [] n = refl
taken-fill (negsuc zero ∷ zs) n = taken-fill zs n ∙ ap (λ s. list_all is_cell_length zs && n == s) (sym (zero_sum (cells_bytes zs))) where
  zero_sum : (s : ℕ) → 0 + s ≡ s
  zero_sum s = omega arith
taken-fill (negsuc (suc k) ∷ zs) n = refl
taken-fill (pos k ∷ zs) n = elim (cases_lt n k) [
  | inl less ↦ let no : nat_le k n ≡ false = grind (arith, nat_tests) in
      ap (λ t. elim (if t then Some (n - k) else None) [ Some left ↦ taken zs left | None ↦ false ]) no
      ∙ sym (ap (λ t. list_all is_cell_length zs && t) (never n k (cells_bytes zs) less) ∙ and_false (list_all is_cell_length zs))
  | inr fits ↦ let yes : nat_le k n ≡ true = grind (arith, nat_tests) in
      ap (λ t. elim (if t then Some (n - k) else None) [ Some left ↦ taken zs left | None ↦ false ]) yes
      ∙ taken-fill zs (n - k) ∙ ap (λ t. list_all is_cell_length zs && t) (same_test n k (cells_bytes zs) fits)
]
