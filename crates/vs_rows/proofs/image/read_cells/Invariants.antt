use Rattle.std.proofs.Common.{◌≡◌, drop}
use Rattle.vs_rows.specs.Rows.{cells_at}
use Rattle.vs_rows.proofs.StepLemmas.{with_front_rest}
use Rattle.vs_rows.proofs.image.read_cells.Given as goal

abbrev pub invariant-loop-place : goal.invariant-loop-place
invariant-loop-place l = with_front_rest l.image (cells_at l.place l.nulls (drop l.place l.columns) l.rest) ≡ cells_at 0 l.nulls l.columns l.bytes
