-- Whole numbers in columns: which texts are the decimal text of a number of a kind.
use Rattle.std.specs.Prelude.{ℕ, zero, suc, ◌+◌, ◌-◌, ◌*◌, ◌^◌, ◌==◌, Bool, true, false, not, ◌&&◌, nat_le, nat_lt, List, [], ◌∷◌, Option, Some, None, ℤ, pos, negsuc, if◌then◌else◌}
use Rattle.std.specs.List.{fold, list_all}
use Rattle.std.specs.Option.{option_and_then}
use Rattle.vs_base.specs.declared.table.ColumnKind.{ColumnKind}
use Rattle.vs_base.specs.declared.table.ColumnKind.TheVariants as kind

abbrev pub is_digit : ℕ → Bool
is_digit c = nat_le 0x30 c && nat_le c 0x39

-- the value of decimal digits
abbrev pub digits_value : List ℕ → ℕ
digits_value ds = fold (λ n d. 10 * n + (d - 0x30)) 0 ds

-- the same, where it is below 2^64
abbrev pub small_value : List ℕ → Option ℕ
small_value ds = if nat_lt (digits_value ds) (2 ^ 64) then Some (digits_value ds) else None

-- digits without a zero in front, but for 0 itself
abbrev pub is_numeral : List ℕ → Bool
is_numeral [] = false
is_numeral (d ∷ []) = is_digit d
is_numeral (d ∷ e ∷ ds) = list_all is_digit (d ∷ e ∷ ds) && not (d == 0x30)

-- below zero or not, and how far from it
abbrev pub signed : Bool → ℕ → ℤ
signed false n = pos n
signed true zero = pos zero
signed true (suc n) = negsuc n

-- how many numbers a kind has below zero, and how many from zero on; none where it has no whole numbers
abbrev pub whole_range : ColumnKind → Option (ℕ × ℕ)
whole_range (kind.TinyInt true) = Some (0, 2 ^ 8)
whole_range (kind.TinyInt false) = Some (2 ^ 7, 2 ^ 7)
whole_range (kind.SmallInt true) = Some (0, 2 ^ 16)
whole_range (kind.SmallInt false) = Some (2 ^ 15, 2 ^ 15)
whole_range (kind.MediumInt true) = Some (0, 2 ^ 24)
whole_range (kind.MediumInt false) = Some (2 ^ 23, 2 ^ 23)
whole_range (kind.Int true) = Some (0, 2 ^ 32)
whole_range (kind.Int false) = Some (2 ^ 31, 2 ^ 31)
whole_range (kind.BigInt true) = Some (0, 2 ^ 64)
whole_range (kind.BigInt false) = Some (2 ^ 63, 2 ^ 63)
whole_range other = None

-- a number below zero that is in a range; `-0` is no number
abbrev pub below_zero : ℕ → List ℕ → Option ℤ
below_zero count ds = if is_numeral ds && (nat_le 1 (digits_value ds) && nat_le (digits_value ds) count) then Some (signed true (digits_value ds)) else None

abbrev pub from_zero : ℕ → List ℕ → Option ℤ
from_zero count ds = if is_numeral ds && nat_lt (digits_value ds) count then Some (signed false (digits_value ds)) else None

abbrev pub number_in : ℕ × ℕ → List ℕ → Option ℤ
number_in range [] = None
number_in range (c ∷ cs) = if c == 0x2D then below_zero range.0 cs else from_zero range.1 (c ∷ cs)

-- the number of the kind whose decimal text this is
abbrev pub number_of : ColumnKind → List ℕ → Option ℤ
number_of kind text = option_and_then (λ range. number_in range text) (whole_range kind)
