use Rattle.std.proofs.Common.{◌≡◌, List, Some, true, ap, is_some, subst, sym, ◌∙◌}
use Rattle.std.specs.BTreeMap.{is_at}
use Rattle.std.specs.List.{AllByRecursion}
use Rattle.std.specs.Map.{lookup, remove_entry, values_of}
use Rattle.vs_base.specs.declared.cell.Cell.{Cell}
use Rattle.vs_tables.specs.declared.key.KeyPart.{KeyPart}
use Rattle.vs_base.specs.Keys.{project}
use Rattle.vs_tables.specs.Changes.{with_gone}
use Rattle.vs_tables.specs.Parts.{fits_limits, parts_of}
use Rattle.vs_tables.specs.Rows.{StandAtKeys, has_row_at, parts_order, row_key}
use Rattle.vs_tables.proofs.RowLemmas.{each_without, found, stand_without, table_of, without}
use Rattle.vs_tables.proofs.keyed.KeyedRows.remove.Goals as goal

pub invariant_of-self : goal.invariant_of-self
invariant_of-self c =
    record {
      keyed = subst (StandAtKeys c.self.inside.kinds c.self.inside.places) (sym c.remove.ensures.entries)
          (stand_without c.self.inside.kinds c.self.inside.places (is_at (parts_order c.in_ok-key.key)) c.self.inside.rows.entries c.self.invariant.keyed);
      ascending = c.remove.ensures.ordered;
      fit = subst (λ es. AllByRecursion (λ (e : List KeyPart × List Cell). fits_limits (project c.self.inside.places e.1) ≡ true) es) (sym c.remove.ensures.entries)
          (each_without (λ row. fits_limits (project c.self.inside.places row) ≡ true) (is_at (parts_order c.in_ok-key.key)) c.self.inside.rows.entries c.self.invariant.fit);
    }

pub returns-clause-found : goal.returns-clause-found
returns-clause-found c =
    let own = c.self.inside in
    let row = c.args.row.now in
    c.is_some.ensures ∙ ap is_some c.remove.ensures.value
    ∙ ap (λ parts. is_some (lookup (is_at (parts_order parts)) own.rows.entries)) (c.in_ok-key.ensures ∙ ap (λ t. parts_of t.kinds (row_key t row)) (sym c.self.view_is))
    ∙ found own.kinds own.places (project own.places row) own.rows.entries c.self.invariant.keyed
    ∙ ap (λ t. has_row_at t (row_key t row)) c.self.view_is

pub returns-clause-ok : goal.returns-clause-ok
returns-clause-ok c =
    let own = c.self.inside in
    let row = c.args.row.now in
    ap (table_of own.name own.places own.kinds)
    (ap values_of c.remove.ensures.entries
    ∙ ap (λ parts. values_of (remove_entry (is_at (parts_order parts)) own.rows.entries)) (c.in_ok-key.ensures ∙ ap (λ t. parts_of t.kinds (row_key t row)) (sym c.self.view_is))
    ∙ without own.kinds own.places (project own.places row) own.rows.entries c.self.invariant.keyed c.self.invariant.ascending)
    ∙ ap (λ t. with_gone t (Some row)) c.self.view_is
