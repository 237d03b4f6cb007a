use Rattle.std.proofs.Common.{◌≡◌, ◌++◌, drop}
use Rattle.vs_filter.specs.Rules.{columns_at}
use Rattle.vs_filter.proofs.binding.columns_at.Given as goal

abbrev pub invariant-loop-place : goal.invariant-loop-place
invariant-loop-place l = columns_at l.columns l.places ≡ l.taken ++ columns_at l.columns (drop l.place-index l.places)
