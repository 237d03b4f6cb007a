use Rattle.vs_model.proofs.Runs.{steps_are_legal, legal_is_steps}
use Rattle.vs_model.proofs.law_steps.Goals as goal

pub returns-clause-steps : goal.returns-clause-steps
returns-clause-steps c = λ cluster rules v0 fs distinct follows steps. steps_are_legal cluster rules v0 fs distinct follows steps

pub returns-clause-only : goal.returns-clause-only
returns-clause-only c = λ cluster rules v0 fs legal. legal_is_steps cluster rules v0 fs legal
