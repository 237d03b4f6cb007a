use Rattle.std.proofs.Common.{ap, is_some, sym, ◌∙◌}
use Rattle.std.specs.BTreeMap.{is_at}
use Rattle.std.specs.Map.{lookup}
use Rattle.vs_base.specs.Keys.{project}
use Rattle.vs_tables.specs.Parts.{parts_of}
use Rattle.vs_tables.specs.Rows.{has_row_at, parts_order, row_key}
use Rattle.vs_tables.proofs.RowLemmas.{found}
use Rattle.vs_tables.proofs.keyed.KeyedRows.has.Goals as goal

pub returns : goal.returns
returns c =
    let own = c.self.inside in
    let row = c.args.row.now in
    c.contains_key.ensures
    ∙ ap (λ parts. is_some (lookup (is_at (parts_order parts)) own.rows.entries)) (c.in_ok-key.ensures ∙ ap (λ t. parts_of t.kinds (row_key t row)) (sym c.self.view_is))
    ∙ found own.kinds own.places (project own.places row) own.rows.entries c.self.invariant.keyed
    ∙ ap (λ t. has_row_at t (row_key t row)) c.self.view_is
