use Rattle.std.proofs.Common.{sym, ap, ◌∙◌, ◌++◌, ◌∷◌, [], drop, true, false}
use Rattle.std.proofs.lemmas.Result.{err_from_is_err_and}
use Rattle.vs_rows.specs.Columns.{typed_columns}
use Rattle.vs_rows.proofs.StepLemmas.{typed_go_on, typed_fails, typed_end}
use Rattle.vs_rows.proofs.columns.read_columns.Goals as goal

pub returns-in_err-column : goal.returns-in_err-column
returns-in_err-column c =
    let p = err_from_is_err_and c.from_residual-in_err-column.result c.from_residual-in_err-column.ensures.1 in
    rw (p.1, p.2) (typed_fails c.in_err-column.field-0.0 c.loop-code.columns.items c.args.types.now c.loop-code.code-index c.loop-code.rest.now (typed_columns c.args.types.now c.args.metadata.now) c.loop-code-test.true c.in_err-column.ensures c.loop-code.invariant)

pub loop-code-preserved : goal.loop-code-preserved
loop-code-preserved c =
    rw c.in_ok-push.ensures.items (typed_go_on c.loop-code.columns.items c.args.types.now c.loop-code.code-index c.loop-code.rest.now c.in_ok-column.behind.now c.in_ok-column.column (typed_columns c.args.types.now c.args.metadata.now) c.loop-code-test.true c.in_ok-column.ensures c.loop-code.invariant)

pub returns-then-not-is_empty : goal.returns-then-not-is_empty
returns-then-not-is_empty c =
    typed_end c.loop-code.columns.items c.args.types.now c.loop-code.code-index c.loop-code.rest.now false (typed_columns c.args.types.now c.args.metadata.now) c.loop-code-test.false (sym c.is_empty.ensures ∙ c.if-not-is_empty.true) c.loop-code.invariant

pub returns : goal.returns
returns c =
    rw c.from_vec.ensures (typed_end c.loop-code.columns.items c.args.types.now c.loop-code.code-index c.loop-code.rest.now true (typed_columns c.args.types.now c.args.metadata.now) c.loop-code-test.false (sym c.is_empty.ensures ∙ c.if-not-is_empty.false) c.loop-code.invariant)
