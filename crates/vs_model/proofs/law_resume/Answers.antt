use Rattle.vs_model.proofs.Resumed.{resumed}
use Rattle.vs_model.proofs.law_resume.Goals as goal

pub returns : goal.returns
returns c = λ cluster rules v0 fs gs distinct first then. resumed cluster rules v0 fs gs distinct first then
