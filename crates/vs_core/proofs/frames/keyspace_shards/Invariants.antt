use Rattle.std.proofs.Common.{◌≡◌, take}
use Rattle.vs_core.specs.Framing.{keyspace_shards}
use Rattle.vs_core.proofs.frames.keyspace_shards.Given as goal

abbrev pub invariant-loop-name : goal.invariant-loop-name
invariant-loop-name l = l.shards.items ≡ keyspace_shards (take l.name-index l.names)
