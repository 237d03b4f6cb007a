use Rattle.std.proofs.Common.{sym}
use Rattle.std.proofs.lemmas.Result.{err_from_is_err_and}
use Rattle.vs_rows.specs.Rows.{cells_at}
use Rattle.vs_rows.proofs.StepLemmas.{cells_go_on, cells_fail, cells_done}
use Rattle.vs_rows.proofs.image.read_cells.Goals as goal

pub returns-in_err-cell : goal.returns-in_err-cell
returns-in_err-cell c =
    let p = err_from_is_err_and c.from_residual-in_err-cell.result c.from_residual-in_err-cell.ensures.1 in
    rw (p.1, p.2) (cells_fail c.in_err-cell.field-0.0 c.loop-place.image c.loop-place.place c.args.nulls.now c.index-columns-place.result c.args.columns.now c.loop-place.rest.now c.has_bit.result (cells_at 0 c.args.nulls.now c.args.columns.now c.args.bytes.now) c.loop-place-test.true c.index-columns-place.is c.has_bit.ensures c.in_err-cell.ensures c.loop-place.invariant)

pub loop-place-preserved : goal.loop-place-preserved
loop-place-preserved c =
    rw c.in_ok-push.ensures.ok (cells_go_on c.loop-place.image c.loop-place.place c.args.nulls.now c.index-columns-place.result c.args.columns.now c.loop-place.rest.now c.in_ok-cell.behind.now c.has_bit.result c.in_ok-cell.cell (cells_at 0 c.args.nulls.now c.args.columns.now c.args.bytes.now) c.loop-place-test.true c.index-columns-place.is c.has_bit.ensures c.in_ok-cell.ensures c.loop-place.invariant)

pub returns : goal.returns
returns c =
    cells_done c.loop-place.image c.loop-place.place c.args.nulls.now c.args.columns.now c.loop-place.rest.now (cells_at 0 c.args.nulls.now c.args.columns.now c.args.bytes.now) c.loop-place-test.false c.loop-place.invariant
