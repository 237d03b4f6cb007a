use Rattle.std.proofs.Common.{[], map}
use Rattle.std.specs.Option.{option_map_or}
use Rattle.vs_base.specs.Keys.{key_kinds}
use Rattle.vs_filter.specs.Rules.{meant_by, table_in}
use Rattle.vs_render.proofs.BoundLemmas.{ascending}
use Rattle.vs_render.proofs.laws.law_bounds.Goals as goal

pub returns : goal.returns
returns c = λ rules schema are. record {
  tables = ascending (map meant_by rules) schema are;
  keys = λ table is. c.law_keys.ensures.ordered (option_map_or key_kinds (table_in schema table) []);
}
