use Rattle.vs_model.proofs.CopiesLaw.{copies_rows}
use Rattle.vs_model.proofs.law_copies.Goals as goal

pub returns : goal.returns
returns c = λ cluster rules told_key v0 fs s place distinct ordered keeps legal fresh stand there fit table key picked.
    copies_rows cluster rules distinct told_key s ordered keeps v0 fs place legal fresh stand there fit table key picked
