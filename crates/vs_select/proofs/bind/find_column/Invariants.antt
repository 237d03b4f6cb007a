use Rattle.std.proofs.Common.{◌≡◌, drop}
use Rattle.std.specs.List.{find, position_from}
use Rattle.vs_select.specs.Binding.{has_name, place_of}
use Rattle.vs_select.proofs.bind.find_column.Given as goal

abbrev pub invariant-loop-place : goal.invariant-loop-place
invariant-loop-place l = record {
  place : position_from (has_name l.name) l.place (drop l.place l.columns) ≡ place_of l.columns l.name;
  column : find (has_name l.name) (drop l.place l.columns) ≡ find (has_name l.name) l.columns;
}
