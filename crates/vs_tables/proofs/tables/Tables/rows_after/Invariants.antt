use Rattle.std.proofs.Common.{◌≡◌, drop}
use Rattle.vs_tables.specs.Rows.{table_rows}
use Rattle.vs_tables.proofs.tables.Tables.rows_after.Given as goal

abbrev pub invariant-loop-rows : goal.invariant-loop-rows
invariant-loop-rows l = table_rows l.self.tables l.table ≡ table_rows (drop l.rows-index l.rows-items) l.table
