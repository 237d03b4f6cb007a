use Rattle.vs_lane.proofs.Places.{empty_within}
use Rattle.vs_lane.proofs.ending.missing_base.Goals as goal

pub returns-in-None-clause-missing : goal.returns-in-None-clause-missing
returns-in-None-clause-missing g c = empty_within _ _ c.in-None.ensures.1
