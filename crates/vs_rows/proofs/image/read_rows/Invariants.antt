use Rattle.std.proofs.Common.{length}
use Rattle.vs_rows.specs.Rows.{changes_in}
use Rattle.vs_rows.proofs.StepLemmas.{GoesOn}
use Rattle.vs_rows.proofs.image.read_rows.Given as goal

abbrev pub invariant-rows : goal.invariant-rows
invariant-rows l = GoesOn l.kind l.table l.changes l.rest (changes_in l.kind l.table l.fn.rows)

abbrev pub decreases-rows : goal.decreases-rows
decreases-rows l = length l.rest
