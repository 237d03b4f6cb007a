use Rattle.std.proofs.Common.{◌≡◌, take}
use Rattle.vs_base.proofs.list.List.copy.Given as goal

-- what was copied so far are the first items
abbrev pub invariant-loop-item : goal.invariant-loop-item
invariant-loop-item g l = (l.copy ≡ take l.item-index l.item-items) × (l.item-items ≡ l.self)
