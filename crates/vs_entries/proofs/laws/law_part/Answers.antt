use Rattle.vs_entries.proofs.Parts.{bounds_parts}
use Rattle.vs_entries.proofs.laws.law_part.Goals as goal

pub returns : goal.returns
returns c = bounds_parts
