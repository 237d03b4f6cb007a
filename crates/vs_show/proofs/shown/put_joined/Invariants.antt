use Rattle.std.proofs.Common.{◌≡◌, ◌++◌, take}
use Rattle.std.specs.List.{flat_map}
use Rattle.vs_show.proofs.shown.put_joined.Given as goal

-- the texts so far were appended, each with the separator in front
abbrev pub invariant-loop-item : goal.invariant-loop-item
invariant-loop-item g l = l.out.items ≡ l.initial.out.items ++ flat_map (λ y. l.separator ++ g.T.Shown.text y) (take l.item-index l.others)
