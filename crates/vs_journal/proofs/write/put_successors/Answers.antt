use Rattle.std.proofs.Common.{◌++◌, ◌∙◌, ◌+◌, ap, drop, map}
use Rattle.std.specs.List.{flat_map}
use Rattle.vs_journal.specs.Judgement.{plain_successor}
use Rattle.vs_journal.specs.Texts.{successor_text}
use Rattle.vs_journal.proofs.WriteLemmas.{one_more}
use Rattle.vs_journal.proofs.write.put_successors.Goals as goal

pub loop-successor-preserved : goal.loop-successor-preserved
loop-successor-preserved c =
    let all = c.args.successors.now in
    let i = c.loop-successor.successor-index in
    ap (λ t. t ++ flat_map successor_text (map plain_successor (drop (i + 1) all))) c.in_ok-put_successor.ensures
    ∙ one_more successor_text plain_successor c.loop-successor.text.items _ all i c.successor-item.result c.loop-successor-test.true c.successor-item.is c.loop-successor.invariant
