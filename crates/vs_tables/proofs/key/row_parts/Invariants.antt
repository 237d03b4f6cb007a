use Rattle.std.proofs.Common.{◌≡◌, ◌++◌, drop}
use Rattle.vs_base.specs.Keys.{project}
use Rattle.vs_tables.specs.Parts.{parts_of}
use Rattle.vs_tables.proofs.key.row_parts.Given as goal

abbrev pub invariant-loop-place : goal.invariant-loop-place
invariant-loop-place l = parts_of l.kinds (project l.places l.row) ≡ l.parts.items ++ parts_of l.left (project (drop l.place-index l.places) l.row)
