use Rattle.std.proofs.Common.{◌≡◌, [], sym, ap, ◌∙◌, arith}
use Rattle.std.proofs.lemmas.Grind.{common_steps}
use Rattle.vs_outside.specs.Clusters.{has_text, shard_names}
use Rattle.vs_outside.specs.Memory.{cluster_of}
use Rattle.vs_outside.proofs.ListingLemmas.{no_names}
use Rattle.vs_outside.proofs.mem_tablets.MemTabletsTablets.list.Goals as goal

pub returns-then-is_empty-clause-names : goal.returns-then-is_empty-clause-names
returns-then-is_empty-clause-names c = λ cluster told.
    let keyspace = c.args.keyspace.now in
    let same : cluster_of c.args.self.now.held.items ≡ cluster = cc in
    let empty : c.in_ok-names.names.items ≡ [] = grind (arith, common_steps) in
    no_names (shard_names cluster keyspace)
    (λ name. ap (λ l. has_text l name) (sym empty)
    ∙ c.in_ok-names.ensures.names name
    ∙ ap (λ held. has_text (shard_names (cluster_of held) keyspace) name) c.deref-2.ensures.value
    ∙ ap (λ k. has_text (shard_names k keyspace) name) same)
