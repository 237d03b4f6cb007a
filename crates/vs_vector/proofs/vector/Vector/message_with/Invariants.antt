use Rattle.std.proofs.Common.{◌≡◌, ◌++◌, map}
use Rattle.vs_vector.specs.Messages.{shard_gtids_of}
use Rattle.vs_vector.specs.Places.{entry_place, vector_of}
use Rattle.vs_vector.proofs.VectorLemmas.{changed}
use Rattle.vs_vector.proofs.vector.Vector.message_with.Given as goal

abbrev pub invariant-loop-shard : goal.invariant-loop-shard
invariant-loop-shard l =
    l.shards.items ++ shard_gtids_of (map (changed l.name (entry_place l.at)) (vector_of l.shard-iterator)) ≡ shard_gtids_of (map (changed l.name (entry_place l.at)) (vector_of l.initial.shard-iterator))
