use Rattle.std.proofs.Common.{refl}
use Rattle.vs_filter.specs.Picks.{picked_in}
use Rattle.vs_filter.proofs.PickLemmas.{row_is_of_picked}
use Rattle.vs_filter.proofs.laws.law_changes.Goals as goal

pub returns-clause-of_picked : goal.returns-clause-of_picked
returns-clause-of_picked c = λ tables schema table row. row_is_of_picked (picked_in tables table) tables table row refl
