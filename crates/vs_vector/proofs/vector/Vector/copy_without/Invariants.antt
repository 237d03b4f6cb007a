use Rattle.vs_vector.specs.Places.{vector_of}
use Rattle.vs_vector.proofs.ChangeLemmas.{IsCopying, stays}
use Rattle.vs_vector.proofs.vector.Vector.copy_without.Given as goal

abbrev pub invariant-loop-name : goal.invariant-loop-name
invariant-loop-name l = IsCopying (stays l.leaving) l.copy (vector_of l.name-iterator) (vector_of l.initial.name-iterator)
