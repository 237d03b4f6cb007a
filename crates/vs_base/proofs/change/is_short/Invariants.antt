use Rattle.std.proofs.Common.{◌≡◌, drop, nat_le}
use Rattle.vs_base.specs.Cells.{row_size}
use Rattle.vs_base.proofs.change.is_short.Given as goal

-- what is left has room for the cells that are left exactly where 3,072 bytes have room for all
abbrev pub invariant-loop-cell : goal.invariant-loop-cell
invariant-loop-cell l = nat_le (row_size l.cells) 3072 ≡ nat_le (row_size (drop l.cell-index l.cells)) l.left
