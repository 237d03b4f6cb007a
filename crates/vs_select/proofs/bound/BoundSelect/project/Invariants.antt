use Rattle.std.proofs.Common.{◌≡◌, map, take}
use Rattle.vs_base.specs.Keys.{cell_at}
use Rattle.vs_select.proofs.bound.BoundSelect.project.Given as goal

abbrev pub invariant-loop-place : goal.invariant-loop-place
invariant-loop-place l = l.taken ≡ map (cell_at l.row) (take l.place-index l.place-items)
