use Rattle.std.proofs.Common.{arith, length, drop, ◌-◌, length-drop, length-take}
use Rattle.std.proofs.lemmas.Result.{err_from_is_err_and}
use Rattle.vs_outside.proofs.ToldLemmas.{Writes-next, Writes-cut}
use Rattle.vs_outside.proofs.writing.write_all.Goals as goal

pub returns-in_err-at-clause-wrote : goal.returns-in_err-at-clause-wrote
returns-in_err-at-clause-wrote g c =
    let p = err_from_is_err_and c.from_residual.result c.from_residual.ensures.1 in
    rw p.1 (Writes-cut _ _ _ c.args.bytes.now c.loop-at.at c.loop-at.invariant.wrote c.in_err-at.ensures.wrote)

pub loop-at-preserved : goal.loop-at-preserved
loop-at-preserved g c = record {
  within = omega (arith, c.in_ok-at.ensures.fits, length-drop c.loop-at.at c.args.bytes.now, length-take (length c.args.bytes.now - c.loop-at.at) (drop c.loop-at.at c.args.bytes.now));
  wrote = Writes-next _ _ _ c.args.bytes.now c.loop-at.at c.in_ok-at.field-0 c.in_ok-at.ensures.fits c.loop-at.invariant.wrote c.in_ok-at.ensures.wrote;
  later = omega (arith, c.in_ok-at.ensures.later, c.loop-at.invariant.later);
}
