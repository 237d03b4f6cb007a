use Rattle.std.proofs.Common.{◌≡◌, drop}
use Rattle.std.specs.List.{find}
use Rattle.vs_schema.specs.Rules.{names_table}
use Rattle.vs_schema.proofs.schema.Schema.table.Given as goal

abbrev pub invariant-loop-table : goal.invariant-loop-table
invariant-loop-table l = find (names_table l.name) (drop l.table-index l.self.tables) ≡ find (names_table l.name) l.self.tables
