use Rattle.vs_lane.proofs.Leading.{posted}
use Rattle.vs_lane.proofs.laws.law_posted.Goals as goal

pub returns : goal.returns
returns c = posted
