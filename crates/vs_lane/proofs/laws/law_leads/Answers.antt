use Rattle.vs_lane.proofs.Leading.{leads_same, leads_then}
use Rattle.vs_lane.proofs.laws.law_leads.Goals as goal

pub returns : goal.returns
returns c = record { same = leads_same; on = leads_then }
