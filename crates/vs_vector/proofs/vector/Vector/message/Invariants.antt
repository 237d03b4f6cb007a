use Rattle.std.proofs.Common.{◌≡◌, ◌++◌}
use Rattle.vs_vector.specs.Messages.{shard_gtids_of}
use Rattle.vs_vector.specs.Places.{vector_of}
use Rattle.vs_vector.proofs.vector.Vector.message.Given as goal

abbrev pub invariant-loop-name : goal.invariant-loop-name
invariant-loop-name l = l.shards.items ++ shard_gtids_of (vector_of l.name-iterator) ≡ shard_gtids_of (vector_of l.initial.name-iterator)
