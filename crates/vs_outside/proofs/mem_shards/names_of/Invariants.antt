use Rattle.std.proofs.Common.{take, IsTrue, All}
use Rattle.vs_outside.specs.Clusters.{AreNamesOf}
use Rattle.vs_outside.specs.Memory.{cluster_of}
use Rattle.vs_outside.specs.Names.{is_shard_text}
use Rattle.vs_outside.proofs.mem_shards.names_of.Given as goal

abbrev pub invariant-loop-shard : goal.invariant-loop-shard
invariant-loop-shard l = record {
  lawful : All (λ name. IsTrue (is_shard_text name)) l.names.keys;
  names : AreNamesOf (cluster_of (take l.shard-index l.held)) l.keyspace l.names.keys;
}
