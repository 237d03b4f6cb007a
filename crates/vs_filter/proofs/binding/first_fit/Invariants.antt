use Rattle.std.proofs.Common.{◌≡◌, drop, map}
use Rattle.std.specs.List.{find}
use Rattle.vs_filter.specs.Causes.{meant_as}
use Rattle.vs_filter.specs.Fits.{fits}
use Rattle.vs_filter.specs.Rules.{Meant}
use Rattle.vs_filter.proofs.binding.first_fit.Given as goal

abbrev pub invariant-loop-rule : goal.invariant-loop-rule
invariant-loop-rule l = find (λ (m : Meant). fits m.pattern l.name) (map meant_as (drop l.rule-index l.rules)) ≡ find (λ (m : Meant). fits m.pattern l.name) (map meant_as l.rules)
