use Rattle.std.proofs.Common.{subst}
use Rattle.std.proofs.lemmas.Map.Iter.{rest_more}
use Rattle.std.specs.Map.Iter.{deref_pair}
use Rattle.vs_vector.specs.Places.{entry_place, vector_of}
use Rattle.vs_vector.proofs.ChangeLemmas.{IsCopying, copying-absent, copying-next, stays}
use Rattle.vs_vector.proofs.vector.Vector.copy_without.Goals as goal

pub append_kept-requires-clause-absent : goal.append_kept-requires-clause-absent
append_kept-requires-clause-absent c =
    let left = rest_more deref_pair c.loop-name.name-iterator c.next.new.self c.next.result (c.in-Some.name, c.in-Some.at) c.in-Some.is c.next.ensures.steps in
    copying-absent (stays c.args.leaving.now) c.loop-name.copy (vector_of c.next.new.self) (vector_of c.into_iter-name-iterator.result) (c.in-Some.name.now, entry_place c.in-Some.at.now)
    (subst (λ it. IsCopying (stays c.args.leaving.now) c.loop-name.copy (vector_of it) (vector_of c.into_iter-name-iterator.result)) left c.loop-name.invariant)

pub loop-name-preserved : goal.loop-name-preserved
loop-name-preserved c =
    let left = rest_more deref_pair c.loop-name.name-iterator c.next.new.self c.next.result (c.in-Some.name, c.in-Some.at) c.in-Some.is c.next.ensures.steps in
    copying-next (stays c.args.leaving.now) c.loop-name.copy c.append_kept.new.self (vector_of c.next.new.self) (vector_of c.into_iter-name-iterator.result) (c.in-Some.name.now, entry_place c.in-Some.at.now)
    (subst (λ it. IsCopying (stays c.args.leaving.now) c.loop-name.copy (vector_of it) (vector_of c.into_iter-name-iterator.result)) left c.loop-name.invariant) c.in_ok-append_kept.ensures
