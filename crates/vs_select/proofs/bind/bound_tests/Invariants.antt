use Rattle.std.proofs.Common.{◌≡◌, ◌++◌, drop}
use Rattle.std.specs.List.{filter_map, find}
use Rattle.vs_select.specs.Binding.{bound_test, is_wrong}
use Rattle.vs_select.proofs.bind.bound_tests.Given as goal

abbrev pub invariant-loop-test : goal.invariant-loop-test
invariant-loop-test l = record {
  bound : filter_map (bound_test l.columns) l.tests ≡ l.bound ++ filter_map (bound_test l.columns) (drop l.test-index l.tests);
  fitting : find (is_wrong l.columns) l.tests ≡ find (is_wrong l.columns) (drop l.test-index l.tests);
}
