use Rattle.std.proofs.Common.{◌≡◌, ◌++◌, drop}
use Rattle.vs_tables.specs.Parts.{parts_of}
use Rattle.vs_tables.proofs.key.key_parts.Given as goal

abbrev pub invariant-loop-cell : goal.invariant-loop-cell
invariant-loop-cell l = parts_of l.kinds l.key ≡ l.parts ++ parts_of l.left (drop l.cell-index l.key)
