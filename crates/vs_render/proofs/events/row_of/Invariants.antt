use Rattle.std.specs.List.{flat_map}
use Rattle.std.proofs.Common.{◌≡◌, ◌++◌, drop, map}
use Rattle.vs_base.specs.Rows.{cell_bytes, cell_length}
use Rattle.vs_render.proofs.events.row_of.Given as goal

-- the lengths and bytes of the cells so far, and those of the others
abbrev pub invariant-loop-cell : goal.invariant-loop-cell
invariant-loop-cell l =
    (map cell_length l.cells ≡ l.lengths.items ++ map cell_length (drop l.cell-index l.cells))
    × (flat_map cell_bytes l.cells ≡ l.values.items ++ flat_map cell_bytes (drop l.cell-index l.cells))
