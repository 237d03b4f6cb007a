use Rattle.std.proofs.Common.{◌∙◌, ◌+◌, ◌-◌, List, Ok, All, inr, sym, ap, subst, arith}
use Rattle.std.proofs.lemmas.Result.{err_from_is_err_and}
use Rattle.std.proofs.lemmas.List.Elements.{All-push}
use Rattle.vs_gtid.specs.declared.interval.Interval.{Interval}
use Rattle.vs_gtid.specs.Block.{both, spans_at}
use Rattle.vs_gtid.specs.Positions.{IsInterval}
use Rattle.vs_gtid.proofs.BlockLemmas.{spans_more, spans_refused, spans_end}
use Rattle.vs_gtid.proofs.block.read_spans.Goals as goal

pub returns-in_err-interval-clause-spans : goal.returns-in_err-interval-clause-spans
returns-in_err-interval-clause-spans c =
    let p = err_from_is_err_and c.from_residual.result c.from_residual.ensures.1 in
    rw (p.1, p.2)
    (inr (sym (spans_refused c.args.count c.loop-span.span c.args.body.now c.args.uuid c.loop-span.place c.loop-span.intervals.items c.in_err-interval.field-0.0 c.loop-span-test.true c.in_err-interval.ensures.span)
    ∙ c.loop-span.invariant.spans))

pub loop-span-preserved : goal.loop-span-preserved
loop-span-preserved c =
    let inv = c.loop-span.invariant in
    let e = c.in_ok-interval.ensures in
    let i = c.in_ok-interval.interval in
    let pushed = c.in_ok-push.ensures.items in
    record {
      within = e.within;
      behind = omega (arith, inv.behind);
      intervals = subst (λ (is : List Interval). All IsInterval is) (sym pushed) (All-push IsInterval c.loop-span.intervals.items i inv.intervals e.interval);
      spans =
          ap (λ (is : List Interval). both (Ok is) (spans_at (c.args.count - (c.loop-span.span + 1)) c.args.body.now c.args.uuid (c.loop-span.place + 16))) pushed
          ∙ (sym (spans_more c.args.count c.loop-span.span c.args.body.now c.args.uuid c.loop-span.place c.loop-span.intervals.items i c.loop-span-test.true e.span) ∙ inv.spans);
    }

pub returns-clause-spans : goal.returns-clause-spans
returns-clause-spans c =
    inr (sym (spans_end c.args.count c.loop-span.span c.args.body.now c.args.uuid c.loop-span.place c.loop-span.intervals.items c.loop-span-test.false) ∙ c.loop-span.invariant.spans)
