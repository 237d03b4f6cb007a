use Rattle.std.proofs.Common.{◌≡◌, List, Some, true, ap, subst, sym, ◌∙◌}
use Rattle.std.specs.BTreeMap.{insert_entry}
use Rattle.std.specs.List.{AllByRecursion}
use Rattle.std.specs.Map.{values_of}
use Rattle.vs_base.specs.declared.cell.Cell.{Cell}
use Rattle.vs_tables.specs.declared.key.KeyPart.{KeyPart}
use Rattle.vs_base.specs.Keys.{project}
use Rattle.vs_tables.specs.Changes.{with_come}
use Rattle.vs_tables.specs.Parts.{fits_limits, parts_of}
use Rattle.vs_tables.specs.Rows.{StandAtKeys, parts_order, row_key}
use Rattle.vs_tables.proofs.RowLemmas.{each_with, stand_with, table_of, with_one}
use Rattle.vs_tables.proofs.keyed.KeyedRows.put.Goals as goal

-- the entries with the row at its key
one_more : (c : goal.Joined-branch-4) → c.insert.new.self.entries
    ≡ insert_entry parts_order c.self.inside.rows.entries (parts_of c.self.inside.kinds (project c.self.inside.places c.args.row.now)) c.args.row.now
one_more c =
    c.in_ok-insert.ensures.entries
    ∙ ap (λ parts. insert_entry parts_order c.self.inside.rows.entries parts c.in_ok-packed.packed)
    (c.in_ok-key.ensures ∙ ap (λ t. parts_of t.kinds (row_key t c.args.row.now)) (sym c.self.view_is))
    ∙ ap (insert_entry parts_order c.self.inside.rows.entries (parts_of c.self.inside.kinds (project c.self.inside.places c.args.row.now))) c.in_ok-packed.ensures

pub invariant_of-self-2 : goal.invariant_of-self-2
invariant_of-self-2 c =
    record {
      keyed = subst (StandAtKeys c.self.inside.kinds c.self.inside.places) (sym (one_more c))
          (stand_with c.self.inside.kinds c.self.inside.places c.args.row.now c.self.inside.rows.entries c.self.invariant.keyed);
      ascending = c.insert.ensures.ordered;
      fit = subst (λ es. AllByRecursion (λ (e : List KeyPart × List Cell). fits_limits (project c.self.inside.places e.1) ≡ true) es) (sym (one_more c))
          (each_with (λ row. fits_limits (project c.self.inside.places row) ≡ true) (parts_of c.self.inside.kinds (project c.self.inside.places c.args.row.now)) c.args.row.now
          c.self.inside.rows.entries (ap (λ t. fits_limits (row_key t c.args.row.now)) c.self.view_is ∙ c.requires) c.self.invariant.fit);
    }

pub returns : goal.returns
returns c =
    let own = c.self.inside in
    ap (table_of own.name own.places own.kinds)
    (ap values_of (one_more c) ∙ with_one own.kinds own.places c.args.row.now own.rows.entries c.self.invariant.keyed c.self.invariant.ascending)
    ∙ ap (λ t. with_come t (Some c.args.row.now)) c.self.view_is
