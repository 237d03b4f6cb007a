use Rattle.vs_rows.proofs.BodyGrammar.{map_read, event_read}
use Rattle.vs_rows.proofs.laws.law_layouts.Goals as goal

pub returns-clause-map : goal.returns-clause-map
returns-clause-map c = map_read

pub returns-clause-rows : goal.returns-clause-rows
returns-clause-rows c = event_read
