use Rattle.vs_frame.proofs.FrameLemmas.{given_one, given_first, given_all}
use Rattle.vs_frame.proofs.laws.law_frames.Goals as goal

pub returns-clause-given : goal.returns-clause-given
returns-clause-given c = given_one

pub returns-clause-first : goal.returns-clause-first
returns-clause-first c = given_first

pub returns-clause-all : goal.returns-clause-all
returns-clause-all c = given_all
