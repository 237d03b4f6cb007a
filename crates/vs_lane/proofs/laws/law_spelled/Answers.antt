use Rattle.vs_lane.proofs.Spelled.{entries_spelled, rows_spelled}
use Rattle.vs_lane.proofs.laws.law_spelled.Goals as goal

pub returns : goal.returns
returns c = record { entries = entries_spelled; rows = rows_spelled }
