use Rattle.std.proofs.Common.{◌≡◌, ◌++◌, drop}
use Rattle.vs_tables.specs.Changes.{keyed_tables}
use Rattle.vs_tables.proofs.tables.Tables.new.Given as goal

abbrev pub invariant-loop-table : goal.invariant-loop-table
invariant-loop-table l = keyed_tables l.schema.tables ≡ l.tables.items ++ keyed_tables (drop l.table-index l.schema.tables)
