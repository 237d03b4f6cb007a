use Rattle.std.proofs.Common.{◌∙◌, ap, map}
use Rattle.std.proofs.Math.Facts.{to_z-of_z}
use Rattle.vs_journal.specs.Judgement.{plain_name, plain_successor, shards_journal}
use Rattle.vs_journal.specs.NameOrder.{plain_entry}
use Rattle.vs_journal.proofs.JudgeLemmas.{successors_plain}
use Rattle.vs_journal.proofs.judge.shards_journal.Goals as goal

pub returns : goal.returns
returns c =
    let ps = c.in_ok-participants.participants in
    let ss = c.in_ok-successors.successors in
    ap (λ i. shards_journal i (map plain_name ps) (map plain_successor ss)) (to_z-of_z c.ranges.id)
    ∙ (ap (λ ns. shards_journal c.args.id (map plain_name ns) (map plain_successor ss)) c.in_ok-participants.ensures.same
    ∙ ap (λ es. shards_journal c.args.id (map plain_name c.args.participants.keys) es) (successors_plain ss ∙ ap (map plain_entry) c.in_ok-successors.ensures.same))
