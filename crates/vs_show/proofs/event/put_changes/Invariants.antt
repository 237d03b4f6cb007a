use Rattle.std.proofs.Common.{◌≡◌, ◌++◌, take}
use Rattle.std.specs.List.{flat_map}
use Rattle.vs_show.specs.Lines.{change_line}
use Rattle.vs_show.proofs.event.put_changes.Given as goal

-- the lines of the changes so far were appended
abbrev pub invariant-loop-change : goal.invariant-loop-change
invariant-loop-change l = l.out.items ≡ l.fn.out.items ++ flat_map (change_line l.event l.table) (take l.change-index l.changes)
