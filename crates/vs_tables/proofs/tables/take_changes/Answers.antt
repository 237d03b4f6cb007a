use Rattle.std.proofs.Common.{ap, drop, option_map, subst, sym, ◌∙◌, ◌+◌, ◌∷◌}
use Rattle.std.proofs.lemmas.List.{at_drop_more}
use Rattle.vs_tables.specs.Changes.{RefusalTells, change_fault_in, first_unfit, tables_after_one}
use Rattle.vs_tables.proofs.TableLemmas.{tells_first}
use Rattle.vs_tables.proofs.tables.take_changes.Goals as goal

pub returns-in-Err-clause-unfit : goal.returns-in-Err-clause-unfit
returns-in-Err-clause-unfit c =
    let ts = c.loop-change.tables.items in
    let change = c.change-item.result in
    let rest = drop (c.loop-change.change-index + 1) c.args.changes.now in
    subst (λ first. RefusalTells first c.refusal_of.result)
    (sym (c.loop-change.invariant.1
    ∙ at_drop_more (first_unfit ts) c.args.changes.now c.loop-change.change-index change c.loop-change-test.true
    ∙ ap (λ x. first_unfit ts (x ∷ rest)) (sym c.change-item.is)))
    (tells_first (option_map (λ why. (change.table, why)) (change_fault_in ts change)) (first_unfit (tables_after_one ts change) rest) c.refusal_of.result
    (c.refusal_of.ensures (change_fault_in ts change) c.in-Err.ensures.unfit))
