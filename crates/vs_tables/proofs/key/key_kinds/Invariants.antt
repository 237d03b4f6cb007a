use Rattle.std.proofs.Common.{◌≡◌, ◌++◌, drop, filter_map, option_map}
use Rattle.std.specs.List.{slice_get}
use Rattle.vs_base.specs.Keys.{key_kinds}
use Rattle.vs_tables.proofs.key.key_kinds.Given as goal

abbrev pub invariant-loop-place : goal.invariant-loop-place
invariant-loop-place l = key_kinds l.table ≡ l.kinds ++ filter_map (λ i. option_map (λ c. c.kind) (slice_get l.table.columns i)) (drop l.place-index l.table.key)
