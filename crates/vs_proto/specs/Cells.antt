-- Which lengths the cells of a row may have: none is below -1, and those from 0 on add up to the bytes that there are.
use Rattle.std.specs.Prelude.{ℕ, zero, suc, ◌+◌, ◌-◌, nat_le, ◌==◌, if◌then◌else◌, Bool, true, false, ◌&&◌, List, [], ◌∷◌, Option, Some, None, ℤ, pos, negsuc}
use Rattle.std.specs.List.{list_all}

-- NULL has -1
abbrev pub is_cell_length : ℤ → Bool
is_cell_length (pos k) = true
is_cell_length (negsuc zero) = true
is_cell_length (negsuc (suc k)) = false

abbrev pub cell_bytes : ℤ → ℕ
cell_bytes (pos k) = k
cell_bytes (negsuc k) = 0

-- of all the cells together
abbrev pub cells_bytes : List ℤ → ℕ
cells_bytes [] = 0
cells_bytes (z ∷ zs) = cell_bytes z + cells_bytes zs

abbrev pub cells_fill : List ℤ → ℕ → Bool
cells_fill lengths n = list_all is_cell_length lengths && n == cells_bytes lengths

-- what a cell of this length leaves of so many bytes
abbrev pub cell_left : ℤ → ℕ → Option ℕ
cell_left (pos k) n = if nat_le k n then Some (n - k) else None
cell_left (negsuc zero) n = Some n
cell_left (negsuc (suc k)) n = None
