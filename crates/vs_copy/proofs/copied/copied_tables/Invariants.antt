use Rattle.std.proofs.Common.{◌≡◌, ◌++◌, drop}
use Rattle.vs_copy.specs.Copying.{copied_of}
use Rattle.vs_copy.proofs.copied.copied_tables.Given as goal

abbrev pub invariant-loop-one : goal.invariant-loop-one
invariant-loop-one l = copied_of l.schema l.picked ≡ l.copied ++ copied_of l.schema (drop l.one-index l.picked)
