use Rattle.std.proofs.Common.{ap, subst, sym, ◌∙◌}
use Rattle.std.specs.Map.{values_of}
use Rattle.vs_schema.specs.Named.{AreNamed}
use Rattle.vs_schema.specs.Rules.{with_table}
use Rattle.vs_schema.proofs.TableLemmas.{named_with, values_with}
use Rattle.vs_schema.proofs.tables_by_name.TablesByName.put.Goals as goal

pub invariant_of-self-2 : goal.invariant_of-self-2
invariant_of-self-2 c = subst AreNamed (sym c.in_ok-insert.ensures.entries) (named_with c.self.inside.tables.entries c.in_ok-copy.field-0 c.args.table c.in_ok-copy.ensures c.self.invariant)

pub returns : goal.returns
returns c =
    ap values_of c.in_ok-insert.ensures.entries
    ∙ values_with c.self.inside.tables.entries c.in_ok-copy.field-0 c.args.table c.in_ok-copy.ensures c.self.invariant c.insert.ensures.was_ordered
    ∙ ap (λ tables. with_table tables c.args.table) c.self.view_is
