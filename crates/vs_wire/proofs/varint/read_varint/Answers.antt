use Rattle.std.proofs.Common.{arith, ◌∙◌}
use Rattle.vs_wire.proofs.GroupLemmas.{is_read-start, is_read-more, is_read-last, is_read-cut, is_read-tenth}
use Rattle.vs_wire.proofs.varint.read_varint.Goals as goal

pub loop-i-init : goal.loop-i-init
loop-i-init c = is_read-start c.args.bytes.now

pub returns-then-i-eq9-clause-value : goal.returns-then-i-eq9-clause-value
returns-then-i-eq9-clause-value c = c.last_group.ensures ∙ is_read-tenth _ c.loop-i.i _ _ c.loop-i.invariant c.loop-i-test.true c.if-i-eq9.true

pub returns-then-group-lt128-clause-value : goal.returns-then-group-lt128-clause-value
returns-then-group-lt128-clause-value c =
    is_read-last _ c.loop-i.i _ _ c.loop-i.invariant (omega (arith, c.loop-i.invariant.few)) (omega arith) c.if-group-lt128.true

pub loop-i-preserved : goal.loop-i-preserved
loop-i-preserved c =
    is_read-more _ c.loop-i.i _ _ c.loop-i.invariant (omega (arith, c.loop-i.invariant.few)) (omega arith) (omega arith) (omega arith)

pub returns-clause-value : goal.returns-clause-value
returns-clause-value c = is_read-cut _ c.loop-i.i _ _ c.loop-i.invariant (omega arith)
