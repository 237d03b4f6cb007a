use Rattle.std.proofs.Common.{◌≡◌, ◌∙◌, ap, sym, subst, map, Some, [], arith, length, rules}
use Rattle.std.proofs.lemmas.Grind.{common_steps}
use Rattle.std.proofs.Math.Facts.{to_z-of_z}
use Rattle.std.specs.Prelude.{option_map}
use Rattle.vs_journal.specs.Judgement.{by_names, by_order, gathered_entries, plain_name, plain_successor}
use Rattle.vs_journal.specs.NameOrder.{entry_of, name_cmp, plain_entry}
use Rattle.vs_journal.specs.Refusals.{IsJudged}
use Rattle.vs_journal.proofs.JudgeLemmas.{named_so}
use Rattle.vs_journal.proofs.judge.by_names.Goals as goal

pub returns : goal.returns
returns c =
    let some : length c.in-Some.participants.items ≡ 0 → ⊥ = first_of (search rules, grind (arith, common_steps)) in
    let others : length c.in-Some-successors.successors.items ≡ 0 → ⊥ = first_of (search rules, grind (arith, common_steps)) in
    let ps = c.in-Some.participants.items in
    let ss = c.in-Some-successors.successors.items in
    subst (λ r. IsJudged r c.by_order.result)
    (sym (ap (λ o. by_names c.args.size c.args.id (option_map (λ v. map plain_name v.items) o) (option_map (λ v. map plain_successor v.items) c.args.successors)) c.in-Some.is
    ∙ (ap (λ o. by_names c.args.size c.args.id (Some (map plain_name ps)) (option_map (λ v. map plain_successor v.items) o)) c.in-Some-successors.is
    ∙ (named_so c.args.size c.args.id ps ss some others
    ∙ (ap (λ o. by_order c.args.id (option_map (map plain_name) o) (option_map (map plain_entry) (gathered_entries name_cmp [] (map entry_of ss)))) (sym c.in_ok-participants.ensures)
    ∙ (ap (λ o. by_order c.args.id (option_map (map plain_name) (option_map (λ s. s.keys) c.in_ok-participants.participants)) (option_map (map plain_entry) o)) (sym c.in_ok-successors.ensures)
    ∙ ap (λ i. by_order i (option_map (map plain_name) (option_map (λ s. s.keys) c.in_ok-participants.participants)) (option_map (map plain_entry) (option_map (λ m. m.entries) c.in_ok-successors.successors))) (sym (to_z-of_z c.ranges.id))))))))
    c.by_order.ensures
