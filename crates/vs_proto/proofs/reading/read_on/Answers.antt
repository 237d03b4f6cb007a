use Rattle.vs_wire.specs.Seen.{seen}
use Rattle.vs_proto.proofs.ReadingLemmas.{at_end, goes_on, stops_at, no_field_at}
use Rattle.vs_proto.proofs.reading.read_on.Goals as goal

pub returns-in-None : goal.returns-in-None
returns-in-None g c = at_end g.M.Message.shape _ _ _ c.end.result c.in-None.ensures.0 c.loop-message.invariant c.end.ensures

pub loop-message-preserved : goal.loop-message-preserved
loop-message-preserved g c =
    let next = rw c.in-Ok.is at c.in-Some.ensures in
    goes_on g.M.Message.shape _ _ (seen c.in-Ok.field) _ _ _ next c.loop-message.invariant c.in-Ok-take.ensures

pub returns-in-Err-take : goal.returns-in-Err-take
returns-in-Err-take g c =
    let next = rw c.in-Ok.is at c.in-Some.ensures in
    rw c.refusal_at.ensures (stops_at g.M.Message.shape _ (seen c.in-Ok.field) _ _ _ c.in-Err-take.stop next c.loop-message.invariant c.in-Err-take.ensures)

pub returns-in-Err : goal.returns-in-Err
returns-in-Err g c =
    let next = rw c.in-Err.is at c.in-Some.ensures in
    rw c.at_no_field.ensures (no_field_at g.M.Message.shape _ _ next.0 next.1 c.in-Err.why _ next.2 next.3 c.loop-message.invariant)
