use Rattle.std.proofs.Common.{◌≡◌, List, ◌++◌, map, ap, sym, rules, ◌∙◌}
use Rattle.std.proofs.lemmas.List.{append-nil}
use Rattle.std.proofs.lemmas.Map.Iter.{rest_all}
use Rattle.std.specs.Map.Iter.{deref_pair}
use Rattle.vs_gtid.specs.Vectors.{moved}
use Rattle.vs_proto.specs.declared.vgtid.ShardGtid.{ShardGtid}
use Rattle.vs_proto.specs.declared.vgtid.VGtid.{VGtid}
use Rattle.vs_vector.specs.Messages.{shard_gtids_of}
use Rattle.vs_vector.specs.Places.{entry_place, vector_of}
use Rattle.vs_vector.proofs.VectorLemmas.{changed, changed-is}
use Rattle.vs_vector.proofs.vector.Vector.message_with.Goals as goal

pub returns : goal.returns
returns c =
    let message : List ShardGtid → VGtid = λ l. record { shard_gtids = l } in
    let s = c.args.name.now in
    let p = entry_place c.args.at.now in
    let none = rest_all deref_pair c.loop-shard.shard-iterator c.next.new.self c.next.result c.in-None.is c.next.ensures.steps in
    let start : c.into_iter-shard-iterator.result ≡ c.self.inside.entries.entries = search rules in
    ap message (c.from_vec.ensures ∙ sym (append-nil c.loop-shard.shards.items) ∙ ap (λ it. c.loop-shard.shards.items ++ shard_gtids_of (map (changed s p) (vector_of it))) (sym none) ∙ c.loop-shard.invariant
    ∙ ap (λ it. shard_gtids_of (map (changed s p) (vector_of it))) start ∙ ap shard_gtids_of (changed-is (vector_of c.self.inside.entries.entries) s p c.self.invariant.distinct)
    ∙ ap (λ v. shard_gtids_of (moved v s p)) c.self.view_is)
