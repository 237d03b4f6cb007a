use Rattle.vs_frame.proofs.FrameLemmas.{one_frame}
use Rattle.vs_frame.proofs.laws.law_front.Goals as goal

pub returns-clause-one_frame : goal.returns-clause-one_frame
returns-clause-one_frame c = one_frame
