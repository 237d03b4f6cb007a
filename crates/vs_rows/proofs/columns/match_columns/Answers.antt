use Rattle.std.proofs.Common.{arith}
use Rattle.vs_rows.specs.Columns.{row_columns}
use Rattle.vs_rows.proofs.StepLemmas.{match_goes_on, match_ends, match_done, other_count}
use Rattle.vs_rows.proofs.columns.match_columns.Goals as goal

pub returns-then-wanted-typed : goal.returns-then-wanted-typed
returns-then-wanted-typed c = other_count c.args.wanted.now c.args.typed.now c.if-wanted-typed.true

pub returns-in-None : goal.returns-in-None
returns-in-None c =
    match_ends c.loop-place.columns.items c.args.wanted.now c.args.typed.now c.loop-place.place _ c.index-typed-place.result (row_columns c.args.wanted.now c.args.typed.now) (omega arith) c.loop-place-test.true c.index-typed-place.is c.in-None.ensures c.loop-place.invariant

pub loop-place-preserved : goal.loop-place-preserved
loop-place-preserved c =
    rw c.in_ok-push-in-Some.ensures.items (match_goes_on c.loop-place.columns.items c.args.wanted.now c.args.typed.now c.loop-place.place _ c.index-typed-place.result c.in-Some.column (row_columns c.args.wanted.now c.args.typed.now) (omega arith) c.loop-place-test.true c.index-typed-place.is c.in-Some.ensures c.loop-place.invariant)

pub returns : goal.returns
returns c =
    rw c.from_vec.ensures (match_done c.loop-place.columns.items c.args.wanted.now c.args.typed.now c.loop-place.place (row_columns c.args.wanted.now c.args.typed.now) (omega arith) c.loop-place-test.false c.loop-place.invariant)
