use Rattle.vs_log.proofs.Ends.{has_one_place}
use Rattle.vs_log.proofs.laws.law_places.Goals as goal

pub returns : goal.returns
returns g c = has_one_place
