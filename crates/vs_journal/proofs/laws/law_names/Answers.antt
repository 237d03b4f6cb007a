use Rattle.vs_journal.proofs.laws.law_names.Goals as goal
use Rattle.vs_journal.proofs.NameLemmas.{participants_stand_once, successors_stand_once}

pub returns-clause-participants : goal.returns-clause-participants
returns-clause-participants c = participants_stand_once

pub returns-clause-successors : goal.returns-clause-successors
returns-clause-successors c = successors_stand_once
