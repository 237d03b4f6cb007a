-- Which last keys a request may name.
use Rattle.std.specs.Prelude.{Bool, true, not, ◌&&◌, ◌||◌, nat_eq, List, length, is_some}
use Rattle.std.specs.List.{list_all, zip}
use Rattle.vs_base.specs.declared.cell.Cell.{Cell}
use Rattle.vs_base.specs.declared.table.ColumnKind.{ColumnKind}
use Rattle.vs_base.specs.Numbers.{number_of, whole_range}

-- in a column of whole numbers NULL or the text of a number of that kind
abbrev pub is_key_cell : ColumnKind → Cell → Bool
is_key_cell kind Cell.Null = true
is_key_cell kind (Cell.Bytes text) = not (is_some (whole_range kind)) || is_some (number_of kind text)

-- one cell for each column of the key
abbrev pub are_key_cells : List ColumnKind → List Cell → Bool
are_key_cells kinds key = nat_eq (length kinds) (length key) && list_all (λ (p : ColumnKind × Cell). is_key_cell p.0 p.1) (zip kinds key)
