use Rattle.vs_model.proofs.Entries.{due-sent, stop-sent}
use Rattle.vs_model.proofs.law_due.Goals as goal

pub returns-clause-due : goal.returns-clause-due
returns-clause-due c = λ s log p q sent rest distinct split grown. due-sent s log p q sent rest distinct split grown

pub returns-clause-stop : goal.returns-clause-stop
returns-clause-stop c = λ s log p q sent rest distinct split grown. stop-sent s log p q sent rest distinct split grown
