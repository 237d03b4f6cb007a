use Rattle.std.proofs.Common.{◌≡◌, map, take}
use Rattle.vs_make.specs.Rows.{inserted}
use Rattle.vs_make.proofs.bodies.inserts.Given as goal

abbrev pub invariant-loop-row : goal.invariant-loop-row
invariant-loop-row l = l.changes.items ≡ map (inserted l.table.name) (take l.row-index l.rows)
