use Rattle.std.proofs.Common.{refl}
use Rattle.vs_outside.proofs.MemoryLemmas.{cluster_of-set, no_failure-set}
use Rattle.vs_outside.proofs.mem_shards.advance.Goals as goal

pub returns-in-Some-clause-cluster : goal.returns-in-Some-clause-cluster
returns-in-Some-clause-cluster c =
    cluster_of-set c.args.held.now.items c.in-Some.place c.index_mut-shard.result.now _ c.index_mut-shard.ensures.value refl

pub returns-in-Some-clause-quiet : goal.returns-in-Some-clause-quiet
returns-in-Some-clause-quiet c =
    no_failure-set c.args.held.now.items c.in-Some.place c.index_mut-shard.result.now _ c.index_mut-shard.ensures.value refl
