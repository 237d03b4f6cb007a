use Rattle.std.proofs.Common.{◌≡◌, ℕ, ◌+◌, List, take, All, IsTrue, nat_eq, sym, ap, subst, ◌∙◌}
use Rattle.std.specs.BTreeSet.{insert_key}
use Rattle.std.specs.Ordering.{nat_cmp}
use Rattle.std.specs.Cmp.Lexicographic.{pointwise, slice_cmp}
use Rattle.std.proofs.lemmas.List.{take_all}
use Rattle.std.proofs.lemmas.Map.Views.{All-insert_key}
use Rattle.std.proofs.lemmas.Result.{IfOk-weaker}
use Rattle.vs_outside.specs.Clusters.{AreNamesOf, has_text, shard_names}
use Rattle.vs_outside.specs.Memory.{cluster_of}
use Rattle.vs_outside.specs.Names.{is_shard_text}
use Rattle.vs_outside.proofs.ListingLemmas.{AreNamesOf-more, AreNamesOf-other}
use Rattle.vs_outside.proofs.mem_shards.names_of.Goals as goal
use Rattle.vs_outside.proofs.mem_shards.names_of.Goals.{then-eq+in_ok-insert_copy, else-eq}

abbrev AreLawful : List (List ℕ) → Type 0
AreLawful names = All (λ name. IsTrue (is_shard_text name)) names

pub loop-shard-preserved : goal.loop-shard-preserved
loop-shard-preserved c =
    let held = c.args.held.now in
    let at = c.loop-shard.shard-index in
    let keyspace = c.args.keyspace.now in
    let shard = c.shard-item.result in
    let so_far = c.loop-shard.names.keys in
    let tested : c.eq.result ≡ pointwise nat_eq shard.name.keyspace keyspace = c.eq.ensures ∙ ap (λ t. pointwise nat_eq t keyspace) c.as_bytes.ensures in
    elim c.if-eq.branch [
      | then-eq+in_ok-insert_copy w ↦
          let keys : c.if-eq.names.keys ≡ insert_key (slice_cmp nat_cmp) so_far shard.name.shard = ap (λ s. s.keys) w.names-is ∙ w.in_ok-insert_copy.ensures in
          record {
            lawful = subst AreLawful (sym keys) (All-insert_key (slice_cmp nat_cmp) shard.name.shard (λ name. IsTrue (is_shard_text name)) so_far c.loop-shard.invariant.lawful shard.lawful);
            names = subst (AreNamesOf (cluster_of (take (at + 1) held)) keyspace) (sym keys)
                (AreNamesOf-more held keyspace at shard so_far c.loop-shard-test.true c.shard-item.is (sym tested ∙ w.if-eq.true) c.loop-shard.invariant.names);
          }
      | else-eq w ↦
          let keys : c.if-eq.names.keys ≡ so_far = ap (λ s. s.keys) w.names-is in
          record {
            lawful = subst AreLawful (sym keys) c.loop-shard.invariant.lawful;
            names = subst (AreNamesOf (cluster_of (take (at + 1) held)) keyspace) (sym keys)
                (AreNamesOf-other held keyspace at shard so_far c.loop-shard-test.true c.shard-item.is (sym tested ∙ w.if-eq.false) c.loop-shard.invariant.names);
          }
    ]

pub returns-clause-names : goal.returns-clause-names
returns-clause-names c =
    let held = c.args.held.now in
    let keyspace = c.args.keyspace.now in
    let all : take c.loop-shard.shard-index held ≡ held = take_all c.loop-shard.shard-index held c.loop-shard-test.false in
    IfOk-weaker c.in_order.result (λ v. v.items ≡ c.loop-shard.names.keys) (λ v. AreNamesOf (cluster_of held) keyspace v.items)
    (λ v same name. ap (λ l. has_text l name) same ∙ c.loop-shard.invariant.names name ∙ ap (λ l. has_text (shard_names (cluster_of l) keyspace) name) all)
    c.in_order.ensures.same
