use Rattle.std.proofs.Common.{◌≤◌, ◌∙◌, Ok, Some, ap, arith, length, map, sym}
use Rattle.std.specs.Prelude.{option_map}
use Rattle.std.proofs.Math.Facts.{to_z-of_z}
use Rattle.vs_journal.specs.Judgement.{by_order, plain_name, shards_journal}
use Rattle.vs_journal.specs.NameOrder.{plain_entry}
use Rattle.vs_journal.proofs.JudgeLemmas.{ordered_so}
use Rattle.vs_journal.proofs.judge.by_order.Goals as goal

pub returns : goal.returns
returns c =
    let ks = c.in-Some.participants.keys in
    let es = c.in-Some-successors.successors.entries in
    let few : length ks ≤ 64 = omega (arith, c.len.ensures.len) in
    let others : length es ≤ 64 = omega (arith, c.len-else-len-gt-MOST_MEMBERS.ensures.len) in
    ap (λ o. by_order c.args.id (option_map (map plain_name) (option_map (λ s. s.keys) o)) (option_map (map plain_entry) (option_map (λ m. m.entries) c.args.successors))) c.in-Some.is
    ∙ (ap (λ o. by_order c.args.id (Some (map plain_name ks)) (option_map (map plain_entry) (option_map (λ m. m.entries) o))) c.in-Some-successors.is
    ∙ (ordered_so c.args.id ks es few others
    ∙ ap Ok (ap (λ i. shards_journal i (map plain_name ks) (map plain_entry es)) (sym (to_z-of_z c.ranges.id)) ∙ sym c.in_ok-shards_journal.ensures)))
