use Rattle.std.proofs.Common.{◌≡◌, ◌++◌, drop}
use Rattle.vs_copy.proofs.copied.copy_tests.Given as goal

abbrev pub invariant-loop-test : goal.invariant-loop-test
invariant-loop-test l = l.tests ≡ l.copy ++ drop l.test-index l.tests
