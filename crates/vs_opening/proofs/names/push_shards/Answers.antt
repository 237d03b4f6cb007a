use Rattle.std.proofs.Common.{◌++◌, ◌∷◌, [], ap, ◌∙◌, append_assoc, arith}
use Rattle.vs_opening.proofs.AskedLemmas.{named_by-more}
use Rattle.vs_opening.proofs.names.push_shards.Goals as goal

pub loop-shard-preserved : goal.loop-shard-preserved
loop-shard-preserved c =
    let one = c.in_ok-name_by.field-0 in
    record {
      part = c.loop-shard.invariant.part ++ one ∷ [];
      more = c.in_ok-push.ensures.ok ∙ ap (λ l. l ++ one ∷ []) c.loop-shard.invariant.more ∙ append_assoc c.args.named.now c.loop-shard.invariant.part (one ∷ []);
      named_by = named_by-more c.args.wanted.now c.args.shards.now c.loop-shard.shard-index c.shard-item.result c.loop-shard.invariant.part one (omega arith) c.shard-item.is c.loop-shard.invariant.named_by c.in_ok-name_by.ensures;
    }
