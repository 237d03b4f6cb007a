-- What a bound select keeps of a row.
use Rattle.std.specs.Prelude.{Bool, true, false, List, Option, Some, None, if◌then◌else◌}
use Rattle.std.specs.List.{list_all}
use Rattle.std.specs.Option.{option_map_or}
use Rattle.std.specs.Ordering.{nat_cmp, int_cmp, is_eq, is_ne, is_lt, is_le, is_gt, is_ge}
use Rattle.std.specs.Cmp.Lexicographic.{slice_cmp}
use Rattle.std.specs.declared.cmp.Ordering.{Ordering}
use Rattle.vs_base.specs.declared.cell.Cell.{Cell}
use Rattle.vs_base.specs.Numbers.{number_of}
use Rattle.vs_base.specs.Keys.{cell_at, project}
use Rattle.vs_select.specs.declared.select.Comparison.{Comparison}
use Rattle.vs_select.specs.declared.bound.Check.{Check}
use Rattle.vs_select.specs.declared.bound.BoundSelect.{BoundSelect}

abbrev pub compares : Comparison → Ordering → Bool
compares Comparison.Equal o = is_eq o
compares Comparison.NotEqual o = is_ne o
compares Comparison.Less o = is_lt o
compares Comparison.AtMost o = is_le o
compares Comparison.Greater o = is_gt o
compares Comparison.AtLeast o = is_ge o

-- A comparison with NULL is false, and so is one of a number with what isn't the text of one.
abbrev pub check_holds : Check → Cell → Bool
check_holds (Check.Number kind by value) Cell.Null = false
check_holds (Check.Number kind by value) (Cell.Bytes text) = option_map_or (λ n. compares by (int_cmp n value)) (number_of kind text) false
check_holds (Check.Bytes by text) Cell.Null = false
check_holds (Check.Bytes by text) (Cell.Bytes bytes) = compares by (slice_cmp nat_cmp bytes text)
check_holds Check.IsNull Cell.Null = true
check_holds Check.IsNull (Cell.Bytes bytes) = false
check_holds Check.IsNotNull Cell.Null = false
check_holds Check.IsNotNull (Cell.Bytes bytes) = true

abbrev pub keeps : BoundSelect → List Cell → Bool
keeps select row = list_all (λ t. check_holds t.check (cell_at row t.column)) select.tests

-- the row, where it is kept, with the columns that are taken
abbrev pub taken_row : BoundSelect → List Cell → Option (List Cell)
taken_row select row = if keeps select row then Some (project select.columns row) else None
