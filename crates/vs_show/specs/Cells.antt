-- How cells and images read in a line: bytes between quotes, of which those that aren't plain stand as escapes.
use Rattle.std.specs.Prelude.{ℕ, ◌+◌, ◌/◌, ◌%◌, nat_le, nat_lt, min, ◌==◌, if◌then◌else◌, Bool, ◌&&◌, not, List, [], ◌∷◌, ◌++◌, take, drop, codes, Option, Some, None, ℤ, pos, negsuc}
use Rattle.std.specs.List.{flat_map, join_by}
use Rattle.vs_proto.specs.declared.row.Row.{Row}

-- from the blank to the tilde, but for the quote and the backslash
abbrev pub is_plain : ℕ → Bool
is_plain b = nat_le 32 b && (nat_le b 126 && (not (b == 39) && not (b == 92)))

-- of a number below 16, in lower case
abbrev pub hex_digit : ℕ → ℕ
hex_digit n = if nat_lt n 10 then 48 + n else 87 + n

-- a backslash, an x and two digits
abbrev pub escape : ℕ → List ℕ
escape b = 92 ∷ 120 ∷ hex_digit (b / 16) ∷ hex_digit (b % 16) ∷ []

abbrev pub byte_text : ℕ → List ℕ
byte_text b = if is_plain b then b ∷ [] else escape b

unfoldable pub bytes_text : List ℕ → List ℕ
bytes_text bytes = codes "'" ++ flat_map byte_text bytes ++ codes "'"

-- NULL, or bytes
abbrev pub cell_text : Option (List ℕ) → List ℕ
cell_text None = codes "NULL"
cell_text (Some bytes) = bytes_text bytes

-- ---- the cells of a row, cut out of its values by their lengths

-- NULL has a length below 0
abbrev pub first_cell : ℤ → List ℕ → Option (List ℕ)
first_cell (pos n) values = Some (take n values)
first_cell (negsuc n) values = None

abbrev pub values_behind : ℤ → List ℕ → List ℕ
values_behind (pos n) values = drop n values
values_behind (negsuc n) values = values

-- how many of so many bytes such a cell takes
abbrev pub size_of : ℤ → ℕ → ℕ
size_of (pos n) count = min n count
size_of (negsuc n) count = 0

abbrev pub cells_of : List ℤ → List ℕ → List (Option (List ℕ))
cells_of [] values = []
cells_of (n ∷ ns) values = first_cell n values ∷ cells_of ns (values_behind n values)

abbrev pub cells_text : List ℤ → List ℕ → List ℕ
cells_text lengths values = join_by cell_text (codes ",") (cells_of lengths values)

unfoldable pub row_text : Row → List ℕ
row_text r = codes "[" ++ cells_text r.lengths r.values ++ codes "]"

-- a row, or none
abbrev pub image_text : Option Row → List ℕ
image_text None = codes "-"
image_text (Some r) = row_text r
