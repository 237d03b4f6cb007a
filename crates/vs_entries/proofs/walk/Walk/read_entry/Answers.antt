use Rattle.std.proofs.Common.{arith}
use Rattle.vs_entries.proofs.WalkLemmas.{comes_to_end, comes_to_entry, goes_on}
use Rattle.vs_entries.proofs.walk.Walk.read_entry.Goals as goal

pub events-preserved : goal.events-preserved
events-preserved c =
    let m = rw c.in-Ok-Goes.field-0-is at c.in-Ok-Goes.ensures in
    record { goes = goes_on c.laws.ensures _ _ _ c.events.self _ c.events.invariant.goes m; from = omega (arith, c.events.invariant.from, m.later) }

pub returns-in-Ok-Ends-clause-stands : goal.returns-in-Ok-Ends-clause-stands
returns-in-Ok-Ends-clause-stands c =
    let t = rw c.in-Ok-Ends.field-0-is at c.in-Ok-Ends.ensures in
    (comes_to_entry c.laws.ensures _ _ _ c.events.self c.take_turn.new.self c.take_turn.new.out.entry c.events.invariant.goes t.0 t.1).stands

pub returns-in-Ok-Ends-clause-reads : goal.returns-in-Ok-Ends-clause-reads
returns-in-Ok-Ends-clause-reads c =
    let t = rw c.in-Ok-Ends.field-0-is at c.in-Ok-Ends.ensures in
    (comes_to_entry c.laws.ensures _ _ _ c.events.self c.take_turn.new.self c.take_turn.new.out.entry c.events.invariant.goes t.0 t.1).reads

pub returns-in-Ok-Ends-clause-early : goal.returns-in-Ok-Ends-clause-early
returns-in-Ok-Ends-clause-early c =
    let t = rw c.in-Ok-Ends.field-0-is at c.in-Ok-Ends.ensures in
    (comes_to_entry c.laws.ensures _ _ _ c.events.self c.take_turn.new.self c.take_turn.new.out.entry c.events.invariant.goes t.0 t.1).early

pub returns-in-Ok-Ends-clause-given : goal.returns-in-Ok-Ends-clause-given
returns-in-Ok-Ends-clause-given c =
    let t = rw c.in-Ok-Ends.field-0-is at c.in-Ok-Ends.ensures in
    (comes_to_entry c.laws.ensures _ _ _ c.events.self c.take_turn.new.self c.take_turn.new.out.entry c.events.invariant.goes t.0 t.1).given

pub returns-in-Ok-Ends-clause-stuck : goal.returns-in-Ok-Ends-clause-stuck
returns-in-Ok-Ends-clause-stuck c =
    let t = rw c.in-Ok-Ends.field-0-is at c.in-Ok-Ends.ensures in
    (comes_to_entry c.laws.ensures _ _ _ c.events.self c.take_turn.new.self c.take_turn.new.out.entry c.events.invariant.goes t.0 t.1).stuck

pub returns-in-Err-Wrong-clause-stands : goal.returns-in-Err-Wrong-clause-stands
returns-in-Err-Wrong-clause-stands c =
    let t = rw c.in-Err-Wrong.field-0-is at c.in-Err-Wrong.ensures in
    (comes_to_end c.laws.ensures _ _ _ c.events.self c.take_turn.new.self c.take_turn.new.out.why c.events.invariant.goes t.0 t.1).stands

pub returns-in-Err-Wrong-clause-reads : goal.returns-in-Err-Wrong-clause-reads
returns-in-Err-Wrong-clause-reads c =
    let t = rw c.in-Err-Wrong.field-0-is at c.in-Err-Wrong.ensures in
    (comes_to_end c.laws.ensures _ _ _ c.events.self c.take_turn.new.self c.take_turn.new.out.why c.events.invariant.goes t.0 t.1).reads

pub returns-in-Err-Wrong-clause-early : goal.returns-in-Err-Wrong-clause-early
returns-in-Err-Wrong-clause-early c =
    let t = rw c.in-Err-Wrong.field-0-is at c.in-Err-Wrong.ensures in
    (comes_to_end c.laws.ensures _ _ _ c.events.self c.take_turn.new.self c.take_turn.new.out.why c.events.invariant.goes t.0 t.1).early

pub returns-in-Err-Wrong-clause-given : goal.returns-in-Err-Wrong-clause-given
returns-in-Err-Wrong-clause-given c =
    let t = rw c.in-Err-Wrong.field-0-is at c.in-Err-Wrong.ensures in
    (comes_to_end c.laws.ensures _ _ _ c.events.self c.take_turn.new.self c.take_turn.new.out.why c.events.invariant.goes t.0 t.1).given

pub returns-in-Err-Wrong-clause-stuck : goal.returns-in-Err-Wrong-clause-stuck
returns-in-Err-Wrong-clause-stuck c =
    let t = rw c.in-Err-Wrong.field-0-is at c.in-Err-Wrong.ensures in
    (comes_to_end c.laws.ensures _ _ _ c.events.self c.take_turn.new.self c.take_turn.new.out.why c.events.invariant.goes t.0 t.1).stuck
