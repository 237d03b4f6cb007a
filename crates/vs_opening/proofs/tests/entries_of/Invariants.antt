use Rattle.std.specs.List.{AllByRecursion}
use Rattle.vs_base.specs.Names.{FitsName}
use Rattle.vs_request.specs.declared.request.Wanted.{Wanted}
use Rattle.vs_opening.proofs.tests.entries_of.Given as goal

abbrev pub invariant-loop-name : goal.invariant-loop-name
invariant-loop-name l = record { fit : AllByRecursion (λ (w : Wanted). FitsName w.keyspace w.shard) l.entries }
