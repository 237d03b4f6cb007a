use Rattle.std.proofs.Common.{◌≡◌, map, take}
use Rattle.vs_core.proofs.arriving.successor_names.Given as goal

abbrev pub invariant-loop-successor : goal.invariant-loop-successor
invariant-loop-successor l = l.names.items ≡ map (λ n. n.name) (take l.successor-index l.successors)
