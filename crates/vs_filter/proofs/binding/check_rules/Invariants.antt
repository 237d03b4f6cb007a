use Rattle.std.proofs.Common.{◌≡◌, drop, map}
use Rattle.vs_filter.specs.Causes.{meant_as}
use Rattle.vs_filter.specs.Rules.{Meant, first_from, first_unbound, unbound_by}
use Rattle.vs_filter.proofs.binding.check_rules.Given as goal

abbrev pub invariant-loop-index : goal.invariant-loop-index
invariant-loop-index l = first_from (λ (r : Meant). unbound_by l.schema r.take) l.index (map meant_as (drop l.index l.rules)) ≡ first_unbound (map meant_as l.rules) l.schema
