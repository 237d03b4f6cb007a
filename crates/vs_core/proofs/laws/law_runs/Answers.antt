use Rattle.vs_core.proofs.Law.{run_is_legal}
use Rattle.vs_core.proofs.laws.law_runs.Goals as goal

pub returns : goal.returns
returns c = λ spells cluster rules v0 flags until_end events sent s distinct canonical run posted.
    run_is_legal spells cluster rules distinct v0 flags until_end canonical events sent s run posted
