use Rattle.vs_model.proofs.OneStep.{step_tx, step_copy, step_switch, step_halt, step_beat, step_all_copied}
use Rattle.vs_model.proofs.law_frames.Goals as goal

pub returns-clause-tx : goal.returns-clause-tx
returns-clause-tx c = λ cluster rules v w s told distinct sends. step_tx cluster rules v w s told distinct sends

pub returns-clause-copy : goal.returns-clause-copy
returns-clause-copy c = λ cluster rules v s f sends. step_copy cluster rules v s f sends

pub returns-clause-switch : goal.returns-clause-switch
returns-clause-switch c = λ cluster rules v j gathered canonical. step_switch cluster rules v j gathered canonical

pub returns-clause-halt : goal.returns-clause-halt
returns-clause-halt c = λ cluster rules v j gathered canonical. step_halt cluster rules v j gathered canonical

pub returns-clause-beat : goal.returns-clause-beat
returns-clause-beat c = λ cluster rules v now canonical. step_beat cluster rules v now canonical

pub returns-clause-all_copied : goal.returns-clause-all_copied
returns-clause-all_copied c = λ cluster rules v none canonical. step_all_copied cluster rules v none canonical
