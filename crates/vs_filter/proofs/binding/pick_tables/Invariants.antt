use Rattle.std.proofs.Common.{◌≡◌, ◌++◌, drop, map}
use Rattle.vs_filter.specs.Causes.{meant_as}
use Rattle.vs_filter.specs.Rules.{picked_by}
use Rattle.vs_filter.proofs.binding.pick_tables.Given as goal

abbrev pub invariant-loop-table : goal.invariant-loop-table
invariant-loop-table l = picked_by (map meant_as l.rules) l.schema ≡ l.tables ++ picked_by (map meant_as l.rules) (drop l.table-index l.schema)
