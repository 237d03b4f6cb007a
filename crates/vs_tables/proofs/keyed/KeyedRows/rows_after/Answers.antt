use Rattle.std.proofs.Common.{None, Some, ap, ap₂, option_copied, subst, sym, ◌∙◌}
use Rattle.vs_tables.specs.Parts.{parts_of}
use Rattle.vs_tables.specs.Rows.{AreLawfulRows, rows_behind}
use Rattle.vs_tables.proofs.RowLemmas.{all_rows, lawful, rows_above}
use Rattle.vs_tables.proofs.keyed.KeyedRows.rows_after.Goals as goal

pub returns-in_default-clause-rows : goal.returns-in_default-clause-rows
returns-in_default-clause-rows c =
    all_rows c.self.inside.rows.entries c.range.result (c.range.ensures.between tt)
    ∙ ap (λ t. rows_behind t None) c.self.view_is
    ∙ ap (λ k. rows_behind c.args.self.now (option_copied k)) (sym c.in_default.is)

pub returns-in_default-clause-lawful : goal.returns-in_default-clause-lawful
returns-in_default-clause-lawful c =
    subst AreLawfulRows c.self.view_is (lawful c.self.inside.name c.self.inside.places c.self.inside.kinds c.self.inside.rows.entries c.self.invariant)

pub returns-in_err-parts-clause-lawful : goal.returns-in_err-parts-clause-lawful
returns-in_err-parts-clause-lawful c =
    subst AreLawfulRows c.self.view_is (lawful c.self.inside.name c.self.inside.places c.self.inside.kinds c.self.inside.rows.entries c.self.invariant)

pub returns-in_err-key-clause-lawful : goal.returns-in_err-key-clause-lawful
returns-in_err-key-clause-lawful c =
    subst AreLawfulRows c.self.view_is (lawful c.self.inside.name c.self.inside.places c.self.inside.kinds c.self.inside.rows.entries c.self.invariant)

pub returns-clause-rows : goal.returns-clause-rows
returns-clause-rows c =
    let own = c.self.inside in
    rows_above own.kinds own.places c.in-Some.key.now c.in_ok-key.key own.rows.entries c.above.result
    (c.in_ok-key.ensures ∙ c.in_ok-parts.ensures ∙ ap₂ parts_of c.as_slice.ensures c.cells.ensures) c.self.invariant.keyed c.above.ensures
    ∙ ap (λ t. rows_behind t (Some c.in-Some.key.now)) c.self.view_is
    ∙ ap (λ k. rows_behind c.args.self.now (option_copied k)) (sym c.in-Some.is)

pub returns-clause-lawful : goal.returns-clause-lawful
returns-clause-lawful c =
    subst AreLawfulRows c.self.view_is (lawful c.self.inside.name c.self.inside.places c.self.inside.kinds c.self.inside.rows.entries c.self.invariant)
