use Rattle.std.proofs.Common.{◌++◌, drop}
use Rattle.vs_gtid.specs.Vectors.{begun_at}
use Rattle.vs_vector.proofs.ChangeLemmas.{IsJoining}
use Rattle.vs_vector.proofs.vector.Vector.append_all.Given as goal

abbrev pub invariant-loop-successor : goal.invariant-loop-successor
invariant-loop-successor l = IsJoining l.self (drop l.successor-index l.successors) (l.initial.self ++ begun_at l.successors)
