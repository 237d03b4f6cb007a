use Rattle.std.proofs.Common.{◌≡◌, ◌++◌, drop, map}
use Rattle.vs_copy.proofs.copied.tables_of.Given as goal

abbrev pub invariant-loop-one : goal.invariant-loop-one
invariant-loop-one l = map (λ t. t.table) l.copied ≡ l.tables ++ map (λ t. t.table) (drop l.one-index l.copied)
