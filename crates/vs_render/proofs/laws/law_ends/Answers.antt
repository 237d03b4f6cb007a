use Rattle.vs_render.proofs.EndLemmas.{ends}
use Rattle.vs_render.proofs.laws.law_ends.Goals as goal

pub returns : goal.returns
returns c = ends
