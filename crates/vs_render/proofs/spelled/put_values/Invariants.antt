use Rattle.std.specs.List.{flat_map}
use Rattle.std.proofs.Common.{◌≡◌, ◌++◌, drop}
use Rattle.vs_base.specs.Keys.{project}
use Rattle.vs_base.specs.Rows.{cell_bytes}
use Rattle.vs_render.proofs.spelled.put_values.Given as goal

-- the bytes of the cells so far, and those of the others
abbrev pub invariant-loop-place : goal.invariant-loop-place
invariant-loop-place l = l.fn.out.items ++ flat_map cell_bytes (project l.places l.cells) ≡ l.out.items ++ flat_map cell_bytes (project (drop l.place-index l.places) l.cells)
