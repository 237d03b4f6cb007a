use Rattle.vs_model.proofs.Final.{final, has_all_due}
use Rattle.vs_model.proofs.law_final.Goals as goal

pub returns-clause-ends : goal.returns-clause-ends
returns-clause-ends c = λ cluster rules v0 fs distinct unique legal settled. final cluster rules v0 fs distinct unique legal settled

pub returns-clause-sent : goal.returns-clause-sent
returns-clause-sent c = λ cluster rules v0 fs distinct unique legal settled s p starts. has_all_due cluster rules v0 fs distinct unique legal settled s p starts
