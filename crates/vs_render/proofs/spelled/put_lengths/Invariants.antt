use Rattle.std.proofs.Common.{◌≡◌, ◌++◌, drop, map}
use Rattle.vs_base.specs.Keys.{project}
use Rattle.vs_base.specs.Rows.{cell_length}
use Rattle.vs_proto.specs.Kinds.{packed_bytes}
use Rattle.vs_render.proofs.spelled.put_lengths.Given as goal

-- the lengths of the cells so far, and those of the others
abbrev pub invariant-loop-place : goal.invariant-loop-place
invariant-loop-place l = l.fn.out.items ++ packed_bytes (map cell_length (project l.places l.cells)) ≡ l.out.items ++ packed_bytes (map cell_length (project (drop l.place-index l.places) l.cells))
