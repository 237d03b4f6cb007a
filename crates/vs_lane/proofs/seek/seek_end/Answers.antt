use Rattle.vs_lane.proofs.Searches.{found_at_end, seeking_on, stops_at_wait}
use Rattle.vs_lane.proofs.seek.seek_end.Goals as goal

pub returns-in-Ok-position_at_wait-clause-finds : goal.returns-in-Ok-position_at_wait-clause-finds
returns-in-Ok-position_at_wait-clause-finds g c =
    stops_at_wait c.args.entries.now c.loop.entries c.next.new.self c.loop.position c.in-Ok-position_at_wait.found c.loop.invariant c.in-NotYet.ensures.later c.in-NotYet.ensures.comes c.in-Ok-position_at_wait.ensures

pub returns-in-Ok-position_at_end-clause-finds : goal.returns-in-Ok-position_at_end-clause-finds
returns-in-Ok-position_at_end-clause-finds g c =
    found_at_end c.args.entries.now c.loop.entries c.next.new.self c.loop.position c.in-Ok-position_at_end.found c.loop.invariant c.in-End.ensures.later c.in-End.ensures.comes c.in-Ok-position_at_end.ensures

pub loop-preserved : goal.loop-preserved
loop-preserved g c =
    seeking_on c.args.entries.now c.loop.entries c.next.new.self c.loop.position c.in-Entry.entry c.in-Entry.at c.in-Ok.moved c.loop.invariant c.in-Entry.ensures.later c.in-Entry.ensures.comes c.in-Entry.ensures.sound c.in-Ok.ensures
