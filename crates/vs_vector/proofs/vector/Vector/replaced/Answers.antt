use Rattle.vs_vector.proofs.ChangeLemmas.{joining-begins}
use Rattle.vs_vector.proofs.vector.Vector.replaced.Goals as goal

pub append_all-requires-clause-differ : goal.append_all-requires-clause-differ
append_all-requires-clause-differ c =
    joining-begins c.args.self.now c.args.participants.now c.args.successors.now c.in_ok-vector.vector c.in_ok-check_replaced.ensures.present c.in_ok-vector.ensures c.len.ensures.vector.distinct c.requires.successors
