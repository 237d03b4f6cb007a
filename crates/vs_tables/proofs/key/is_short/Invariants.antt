use Rattle.std.proofs.Common.{◌≡◌, drop, nat_le}
use Rattle.vs_base.specs.Cells.{row_size}
use Rattle.vs_base.specs.Keys.{project}
use Rattle.vs_tables.proofs.key.is_short.Given as goal

-- what is left has room for the cells that are left exactly where 3,072 bytes have room for all
abbrev pub invariant-loop-place : goal.invariant-loop-place
invariant-loop-place l = nat_le (row_size (project l.places l.row)) 3072 ≡ nat_le (row_size (project (drop l.place-index l.places) l.row)) l.left
