use Rattle.std.proofs.Common.{sym, ◌∙◌}
use Rattle.vs_entries.proofs.WalkLemmas.{front_ends, front_on, front_stopped}
use Rattle.vs_entries.proofs.walk.Walk.read_early.Goals as goal

pub returns-then-not-is_early-clause-ok : goal.returns-then-not-is_early-clause-ok
returns-then-not-is_early-clause-ok c = front_ends c.laws.ensures _ _ _ c.events.self c.take_turn.new.self c.events.invariant (rw c.in-Ok-Goes.field-0-is at c.in-Ok-Goes.ensures) (sym c.is_early.ensures ∙ c.if-not-is_early.true)

pub events-preserved : goal.events-preserved
events-preserved c = front_on c.laws.ensures _ _ _ c.events.self c.take_turn.new.self c.events.invariant (rw c.in-Ok-Goes.field-0-is at c.in-Ok-Goes.ensures) (sym c.is_early.ensures ∙ c.if-not-is_early.false)

pub returns-in-Err-Wrong-clause-ok : goal.returns-in-Err-Wrong-clause-ok
returns-in-Err-Wrong-clause-ok c =
    let t = rw c.in-Err-Wrong.field-0-is at c.in-Err-Wrong.ensures in
    front_stopped c.laws.ensures _ _ _ c.events.self c.take_turn.new.self c.take_turn.new.out.why c.is_refused.result c.events.invariant t.0 t.1 c.is_refused.ensures
