-- Numbers as a given number of digits, and texts without the zeros in front.
use Rattle.std.specs.Prelude.{ℕ, zero, suc, ◌+◌, ◌/◌, ◌%◌, ◌==◌, Bool, true, false, ◌||◌, if◌then◌else◌, List, [], ◌∷◌, ◌++◌}

-- the last k decimal digits of a number, with zeros in front where it has fewer
unfoldable pub padded : ℕ → ℕ → List ℕ
padded zero n = []
padded (suc k) n = padded k (n / 10) ++ (48 + n % 10) ∷ []

-- the digits from the first that isn't 0
abbrev pub without_zeros : List ℕ → List ℕ
without_zeros [] = []
without_zeros (d ∷ ds) = if d == 48 then without_zeros ds else d ∷ ds

abbrev pub has_some : List ℕ → Bool
has_some [] = false
has_some (d ∷ ds) = true

-- what is shown of digits behind others: all, once a digit other than 0 has been shown
abbrev pub shown : Bool → List ℕ → List ℕ
shown begun ds = if begun then ds else without_zeros ds

abbrev pub begun_by : Bool → List ℕ → Bool
begun_by begun ds = begun || has_some (without_zeros ds)
