-- A select bound to a table: its columns by their places, its literals by the columns' kinds.
use Rattle.std.specs.Prelude.{ℕ, Bool, true, false, not, nat_eq, List, [], ◌++◌, map, length, Option, Some, None, Result, Ok, Err, is_some}
use Rattle.std.specs.List.{find, filter_map, position_from, range_with_len}
use Rattle.std.specs.Option.{option_and_then, option_map, option_map_or}
use Rattle.std.specs.Cmp.Lexicographic.{pointwise}
use Rattle.vs_base.specs.declared.table.Column.{Column}
use Rattle.vs_base.specs.declared.table.ColumnKind.{ColumnKind}
use Rattle.vs_base.specs.Numbers.{signed, whole_range}
use Rattle.vs_select.specs.declared.select.Literal.{Literal}
use Rattle.vs_select.specs.declared.select.Condition.{Condition}
use Rattle.vs_select.specs.declared.select.Comparison.{Comparison}
use Rattle.vs_select.specs.declared.select.Test.{Test}
use Rattle.vs_select.specs.declared.select.Select.{Select}
use Rattle.vs_select.specs.declared.bound.Check.{Check}
use Rattle.vs_select.specs.declared.bound.BoundTest.{BoundTest}
use Rattle.vs_select.specs.declared.bound.BoundSelect.{BoundSelect}

-- why a select doesn't stand on a table
pub data Unbound : Type 0 where
  UnknownColumn WrongLiteral : List ℕ → Unbound

abbrev pub has_name : List ℕ → Column → Bool
has_name name column = pointwise nat_eq column.name name

-- the place of a column
abbrev pub place_of : List Column → List ℕ → Option ℕ
place_of columns name = position_from (has_name name) 0 columns

abbrev pub kind_of : List Column → List ℕ → Option ColumnKind
kind_of columns name = option_map (λ c. c.kind) (find (has_name name) columns)

-- the columns that a select names, in the order of the text
abbrev pub listed : Option (List (List ℕ)) → List (List ℕ)
listed columns = option_map_or (λ names. names) columns []

abbrev pub names_in : Select → List (List ℕ)
names_in s = listed s.columns ++ map (λ t. t.column) s.tests

abbrev pub is_unknown : List Column → List ℕ → Bool
is_unknown columns name = not (is_some (place_of columns name))

-- a number is compared with whole numbers, bytes with all else
abbrev pub comparison_if : Bool → ColumnKind → Comparison → Literal → Option Check
comparison_if true kind by (Literal.Number negative size) = Some (Check.Number kind by (signed negative size))
comparison_if false kind by (Literal.Bytes text) = Some (Check.Bytes by text)
comparison_if true kind by (Literal.Bytes text) = None
comparison_if false kind by (Literal.Number negative size) = None

abbrev pub comparison_on : ColumnKind → Comparison → Literal → Option Check
comparison_on kind by literal = comparison_if (is_some (whole_range kind)) kind by literal

abbrev pub check_on : ColumnKind → Condition → Option Check
check_on kind (Condition.Compares by literal) = comparison_on kind by literal
check_on kind Condition.IsNull = Some Check.IsNull
check_on kind Condition.IsNotNull = Some Check.IsNotNull

abbrev pub test_at : ℕ → Condition → ColumnKind → Option BoundTest
test_at place condition kind = option_map (λ check. record { column = place; check = check }) (check_on kind condition)

-- a test with its column's place, where the column is there and the literal fits it
abbrev pub bound_test : List Column → Test → Option BoundTest
bound_test columns t = option_and_then (λ place. option_and_then (test_at place t.condition) (kind_of columns t.column)) (place_of columns t.column)

abbrev pub is_wrong : List Column → Test → Bool
is_wrong columns t = not (is_some (bound_test columns t))

-- the columns that are taken
abbrev pub columns_of : List Column → Option (List (List ℕ)) → List ℕ
columns_of columns None = range_with_len 0 (length columns)
columns_of columns (Some names) = filter_map (place_of columns) names

abbrev pub bound_in : List Column → Select → BoundSelect
bound_in columns s = record { columns = columns_of columns s.columns; tests = filter_map (bound_test columns) s.tests }

abbrev pub literals_in : List Column → Select → Option Test → Result BoundSelect Unbound
literals_in columns s (Some t) = Err (WrongLiteral t.column)
literals_in columns s None = Ok (bound_in columns s)

abbrev pub names_known : List Column → Select → Option (List ℕ) → Result BoundSelect Unbound
names_known columns s (Some name) = Err (UnknownColumn name)
names_known columns s None = literals_in columns s (find (is_wrong columns) s.tests)

-- A name that is no column counts before a literal that doesn't fit, and of each the first in the text.
abbrev pub bound_select : List Column → Select → Result BoundSelect Unbound
bound_select columns s = names_known columns s (find (is_unknown columns) (names_in s))

-- a table taken whole: each row, with each column
abbrev pub whole : List Column → BoundSelect
whole columns = record { columns = range_with_len 0 (length columns); tests = [] }
