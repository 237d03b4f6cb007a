-- The cells of a row by their places, the keys of rows, and their order.
use Rattle.std.specs.Prelude.{ℕ, List, ◌∷◌, map, length, Option, Some, None, ℤ}
use Rattle.std.specs.List.{filter_map, slice_get}
use Rattle.std.specs.Option.{option_map, unwrap_or}
use Rattle.std.specs.Ordering.{nat_cmp, int_cmp, ordering_then}
use Rattle.std.specs.Cmp.Lexicographic.{slice_cmp}
use Rattle.std.specs.declared.cmp.Ordering.{Ordering}
use Rattle.std.specs.declared.cmp.Ordering.TheVariants.{Less, Equal, Greater}
use Rattle.vs_base.specs.declared.cell.Cell.{Cell}
use Rattle.vs_base.specs.declared.table.ColumnKind.{ColumnKind}
use Rattle.vs_base.specs.declared.table.Table.{Table}
use Rattle.vs_base.specs.Numbers.{number_of}

-- a cell that the row lacks counts as NULL
abbrev pub cell_at : List Cell → ℕ → Cell
cell_at row i = unwrap_or (slice_get row i) Cell.Null

-- the cells of a row at these places
abbrev pub project : List ℕ → List Cell → List Cell
project places row = map (cell_at row) places

-- numbers by value, ahead of texts that are no number; such texts as they are ordered otherwise
abbrev pub number_order : Option ℤ → Option ℤ → Ordering → Ordering
number_order (Some m) (Some n) otherwise = int_cmp m n
number_order (Some m) None otherwise = Less
number_order None (Some n) otherwise = Greater
number_order None None otherwise = otherwise

-- in a column of whole numbers by value, in every other one byte by byte
abbrev pub text_order : ColumnKind → List ℕ → List ℕ → Ordering
text_order kind a b = number_order (number_of kind a) (number_of kind b) (slice_cmp nat_cmp a b)

-- NULL stands ahead of all else
abbrev pub cell_order : ColumnKind → Cell → Cell → Ordering
cell_order kind Cell.Null Cell.Null = Equal
cell_order kind Cell.Null (Cell.Bytes b) = Less
cell_order kind (Cell.Bytes a) Cell.Null = Greater
cell_order kind (Cell.Bytes a) (Cell.Bytes b) = text_order kind a b

-- keys column by column; where one of them ends, the shorter one stands ahead
abbrev pub key_order : List ColumnKind → List Cell → List Cell → Ordering
key_order (k ∷ ks) (a ∷ xs) (b ∷ ys) = ordering_then (cell_order k a b) (key_order ks xs ys)
key_order ks xs ys = nat_cmp (length xs) (length ys)

-- the kinds of the columns of a table's key
abbrev pub key_kinds : Table → List ColumnKind
key_kinds table = filter_map (λ i. option_map (λ c. c.kind) (slice_get table.columns i)) table.key
