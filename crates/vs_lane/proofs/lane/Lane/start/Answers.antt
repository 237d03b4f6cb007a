use Rattle.vs_lane.proofs.Starting.{begins_on, begins_standing, starts_at}
use Rattle.vs_lane.proofs.lane.Lane.start.Goals as goal

pub returns-clause-from : goal.returns-clause-from
returns-clause-from g c = starts_at c.args.from _ _ _ _ _ c.in-Ok-new.entries c.begin_at-start.ensures

pub returns-clause-goes_on : goal.returns-clause-goes_on
returns-clause-goes_on g c = begins_on c.args.from _ _ c.begin_at-start.ensures

pub returns-clause-stands : goal.returns-clause-stands
returns-clause-stands g c = begins_standing _ _ _ _ c.in-Ok-new.entries _ c.in-Ok-new.ensures.nothing.1 (begins_on c.args.from _ _ c.begin_at-start.ensures)
