use Rattle.std.proofs.Common.{◌≡◌, None, OnOk, Some, ap₂, subst, ◌∙◌, IfErr, position}
use Rattle.std.proofs.lemmas.Result.{on_ok_weaker}
use Rattle.vs_tables.specs.Changes.{RowFaultTells, change_fault_in, fault_of_change}
use Rattle.vs_tables.specs.Rows.{is_table_named}
use Rattle.vs_tables.proofs.TableLemmas.{fault_at, no_fault, set_at, unchanged}
use Rattle.vs_tables.proofs.tables.take_change.Goals as goal

pub returns-in_default-clause-after : goal.returns-in_default-clause-after
returns-in_default-clause-after c =
    unchanged c.args.change.now c.args.tables.now.items
    (c.in_default.ensures ∙ ap₂ (λ name ts. position (is_table_named name) ts) c.as_bytes.ensures c.as_slice.ensures.value)

pub returns-in_default-clause-fits : goal.returns-in_default-clause-fits
returns-in_default-clause-fits c =
    no_fault c.args.change.now c.args.tables.now.items
    (c.in_default.ensures ∙ ap₂ (λ name ts. position (is_table_named name) ts) c.as_bytes.ensures c.as_slice.ensures.value)

-- where the table of the change stands
place_is : (c : goal.After-tables-1) → Some c.in-Some.place ≡ position (is_table_named c.args.change.now.table) c.args.tables.now.items
place_is c = c.in-Some.ensures ∙ ap₂ (λ name ts. position (is_table_named name) ts) c.as_bytes.ensures c.as_slice.ensures.value

fault_is : (c : goal.After-tables-1) → fault_of_change c.index_mut.result.now c.args.change.now ≡ change_fault_in c.args.tables.now.items c.args.change.now
fault_is c = fault_at c.args.change.now c.args.tables.now.items c.in-Some.place c.index_mut.result.now (place_is c) c.index_mut.ensures.value

pub returns-clause-after : goal.returns-clause-after
returns-clause-after c =
    on_ok_weaker c.take_change.result
    (set_at c.args.change.now c.args.tables.now.items c.in-Some.place c.index_mut.result.now c.take_change.new.self (place_is c) c.index_mut.ensures.value)
    c.take_change.ensures.after

pub returns-clause-fits : goal.returns-clause-fits
returns-clause-fits c = subst (λ f. OnOk c.take_change.result (f ≡ None)) (fault_is c) c.take_change.ensures.fits

pub returns-clause-unfit : goal.returns-clause-unfit
returns-clause-unfit c = subst (λ f. IfErr c.take_change.result (RowFaultTells f)) (fault_is c) c.take_change.ensures.unfit
