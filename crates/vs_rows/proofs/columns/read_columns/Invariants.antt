use Rattle.std.proofs.Common.{◌≡◌, drop}
use Rattle.vs_rows.specs.Columns.{typed_columns}
use Rattle.vs_rows.proofs.StepLemmas.{with_front}
use Rattle.vs_rows.proofs.columns.read_columns.Given as goal

abbrev pub invariant-loop-code : goal.invariant-loop-code
invariant-loop-code l = with_front l.columns.items (typed_columns (drop l.code-index l.types) l.rest) ≡ typed_columns l.types l.metadata
