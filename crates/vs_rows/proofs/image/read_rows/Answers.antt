use Rattle.std.proofs.Common.{arith}
use Rattle.std.proofs.lemmas.Result.{err_from_is_err_and}
use Rattle.vs_rows.specs.Rows.{changes_in}
use Rattle.vs_rows.proofs.StepLemmas.{rows_begin, rows_go_on, rows_fail, rows_stuck, rows_done, some_left, none_left}
use Rattle.vs_rows.proofs.image.read_rows.Goals as goal

pub rows-init : goal.rows-init
rows-init c = rows_begin c.args.kind c.args.table.now c.args.rows.now c.new-changes.result c.new-changes.ensures

pub returns-in_err-change : goal.returns-in_err-change
returns-in_err-change c =
    let p = err_from_is_err_and c.from_residual.result c.from_residual.ensures.1 in
    rw (p.1, p.2) (rows_fail c.in_err-change.field-0.0 c.args.kind c.args.table.now c.rows.changes c.rows.rest.now (changes_in c.args.kind c.args.table.now c.args.rows.now) (some_left c.rows.rest.now c.is_empty.result c.is_empty.ensures c.rows-test.true) c.in_err-change.ensures c.rows.invariant)

pub returns-then-behind-rest : goal.returns-then-behind-rest
returns-then-behind-rest c =
    rows_stuck c.args.kind c.args.table.now c.rows.changes c.rows.rest.now c.in_ok-change.behind.now c.in_ok-change.change (changes_in c.args.kind c.args.table.now c.args.rows.now) (some_left c.rows.rest.now c.is_empty.result c.is_empty.ensures c.rows-test.true) c.if-behind-rest.true c.in_ok-change.ensures c.rows.invariant

pub rows-preserved : goal.rows-preserved
rows-preserved c =
    rw c.in_ok-push.ensures.ok (rows_go_on c.args.kind c.args.table.now c.rows.changes c.rows.rest.now c.in_ok-change.behind.now c.in_ok-change.change (changes_in c.args.kind c.args.table.now c.args.rows.now) (some_left c.rows.rest.now c.is_empty.result c.is_empty.ensures c.rows-test.true) c.if-behind-rest.false c.in_ok-change.ensures c.rows.invariant)

pub returns : goal.returns
returns c =
    rows_done c.args.kind c.args.table.now c.rows.changes c.rows.rest.now (changes_in c.args.kind c.args.table.now c.args.rows.now) (none_left c.rows.rest.now c.is_empty.result c.is_empty.ensures c.rows-test.false) c.rows.invariant
