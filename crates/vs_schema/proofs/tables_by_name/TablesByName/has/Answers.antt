use Rattle.std.proofs.Common.{ap, ◌∙◌}
use Rattle.std.specs.List.{list_any}
use Rattle.vs_schema.specs.Rules.{names_table}
use Rattle.vs_schema.proofs.TableLemmas.{found}
use Rattle.vs_schema.proofs.tables_by_name.TablesByName.has.Goals as goal

pub returns : goal.returns
returns c = c.contains_key.ensures ∙ found c.self.inside.tables.entries c.args.name.now c.self.invariant ∙ ap (list_any (names_table c.args.name.now)) c.self.view_is
