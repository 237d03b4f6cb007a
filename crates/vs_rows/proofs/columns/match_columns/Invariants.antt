use Rattle.std.proofs.Common.{◌≡◌, drop}
use Rattle.vs_rows.specs.Columns.{row_columns}
use Rattle.vs_rows.proofs.StepLemmas.{with_front}
use Rattle.vs_rows.proofs.columns.match_columns.Given as goal

abbrev pub invariant-loop-place : goal.invariant-loop-place
invariant-loop-place l = with_front l.columns.items (row_columns (drop l.place l.wanted) (drop l.place l.typed)) ≡ row_columns l.wanted l.typed
