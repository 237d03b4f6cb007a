use Rattle.std.proofs.Common.{◌≡◌, ◌++◌, drop}
use Rattle.vs_show.proofs.CellLemmas.{further_text}
use Rattle.vs_show.proofs.cell.put_cells.Given as goal

-- what was appended and the cells to come are all the cells
abbrev pub invariant-loop-length : goal.invariant-loop-length
invariant-loop-length l = l.out.items ++ further_text (drop l.length-index l.others) l.rest ≡ l.initial.out.items ++ further_text l.others l.initial.rest
