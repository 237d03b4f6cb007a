use Rattle.std.proofs.Common.{ap, not, sym, ◌∙◌, arith}
use Rattle.vs_command.proofs.StopLemmas.{never_stopped, some_not_none, stopped_at}
use Rattle.vs_command.proofs.due.find_stop.Goals as goal

pub returns-in-loop-count : goal.returns-in-loop-count
returns-in-loop-count c = (
  omega (arith, c.loop-count-test.true),
  stopped_at c.args.name.now c.args.start.now c.args.entries.now c.loop-count.count c.index-entries-count.result c.own_number-number.result c.own_number-number.ensures
      (some_not_none c.own_number-number.result (c.is_none.ensures ∙ ap not c.if-is_none.false)) c.loop-count-test.true c.index-entries-count.is (sym c.contains.ensures.has ∙ c.if-contains.false) c.loop-count.invariant,
)

pub returns : goal.returns
returns c = never_stopped c.args.name.now c.args.start.now c.args.entries.now c.loop-count.count (omega arith) c.loop-count.invariant
