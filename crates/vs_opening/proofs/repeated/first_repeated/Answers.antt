use Rattle.std.proofs.Common.{◌≡◌, true, false, take, sym, ◌∙◌, arith}
use Rattle.vs_gtid.specs.Vectors.{is_in}
use Rattle.vs_opening.specs.Asked.{shards_named}
use Rattle.vs_opening.proofs.NameLists.{differ-more, named_in, repeated_at}
use Rattle.vs_opening.proofs.repeated.first_repeated.Goals as goal

pub returns-then-has_name : goal.returns-then-has_name
returns-then-has_name c =
    let n = c.index-named-index.result in
    let among : is_in n.name (shards_named (take c.loop-index.index c.args.named.now)) ≡ true =
    sym (named_in n.name (take c.loop-index.index c.args.named.now)) ∙ (sym c.has_name.ensures ∙ c.if-has_name.true)
    in
    rw c.in_ok-copy.ensures (repeated_at c.args.named.now c.loop-index.index n (omega arith) c.index-named-index.is c.loop-index.invariant.differ among)

pub loop-index-preserved : goal.loop-index-preserved
loop-index-preserved c =
    let n = c.index-named-index.result in
    let away : is_in n.name (shards_named (take c.loop-index.index c.args.named.now)) ≡ false =
    sym (named_in n.name (take c.loop-index.index c.args.named.now)) ∙ (sym c.has_name.ensures ∙ c.if-has_name.false)
    in
    record { differ = differ-more c.args.named.now c.loop-index.index n (omega arith) c.index-named-index.is c.loop-index.invariant.differ away }
