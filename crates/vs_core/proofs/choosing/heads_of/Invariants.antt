use Rattle.std.proofs.Common.{◌≡◌, map}
use Rattle.vs_core.specs.Choices.{heads_below}
use Rattle.vs_core.proofs.choosing.heads_of.Given as goal

abbrev pub invariant-loop-lane : goal.invariant-loop-lane
invariant-loop-lane l = (l.numbers.items ≡ map (λ h. h.0) (heads_below l.lane l.held.items)) × (l.heads.items ≡ map (λ h. h.1) (heads_below l.lane l.held.items))
