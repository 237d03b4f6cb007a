use Rattle.vs_model.proofs.Given.{given_before, given_on}
use Rattle.vs_model.proofs.Lanes.{next_piece, lane_end}
use Rattle.vs_model.proofs.law_lane.Goals as goal

pub returns-clause-next : goal.returns-clause-next
returns-clause-next c = λ bound s log p q handled waiting told distinct all grown. next_piece bound s log p q handled distinct grown told waiting all

pub returns-clause-end : goal.returns-clause-end
returns-clause-end c = λ bound s log p q handled distinct all none grown. lane_end bound s log p q handled distinct grown all none

pub returns-clause-front : goal.returns-clause-front
returns-clause-front c = λ bound s log first more last start given. given_before bound s log first more last start given

pub returns-clause-rest : goal.returns-clause-rest
returns-clause-rest c = λ bound s log piece pieces last from to distinct given moves canonical.
    given_on bound s log distinct pieces last to canonical from piece given moves
