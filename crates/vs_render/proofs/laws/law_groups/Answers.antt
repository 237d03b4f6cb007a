use Rattle.vs_render.specs.Frames.{is_over}
use Rattle.vs_render.proofs.GroupLemmas.{is_grouped, is_one}
use Rattle.vs_render.proofs.SizeLemmas.{grows}
use Rattle.vs_render.proofs.laws.law_groups.Goals as goal

pub returns : goal.returns
returns c = record {
  longest = λ h fields changes. is_grouped (is_over h fields) (grows h fields) changes;
  one = λ h fields changes groups are. is_one (is_over h fields) (grows h fields) changes groups are;
}
