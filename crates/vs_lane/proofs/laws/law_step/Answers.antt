use Rattle.vs_lane.proofs.Leading.{leads_by}
use Rattle.vs_lane.proofs.Places.{entry_next, given_next, none_due, own_next, read_in}
use Rattle.vs_lane.proofs.laws.law_step.Goals as goal

pub returns : goal.returns
returns c = record {
  leads = λ L M p step. leads_by c.law_due.ensures.due c.law_due.ensures.stop L M p step;
  next = λ bound s log p front later e are in_front lacks none. given_next s log p front later e are in_front lacks bound none;
  own = λ s log p front later e j are in_front lacks own. own_next s log p front later e are in_front lacks j own;
  none = none_due;
  read = read_in;
  on = entry_next;
}
