use Rattle.std.specs.List.{filter_map}
use Rattle.std.proofs.Common.{drop}
use Rattle.vs_filter.specs.Picks.{pick_in}
use Rattle.vs_render.specs.Bodies.{columns_in}
use Rattle.vs_render.specs.Events.{head_of}
use Rattle.vs_render.specs.Rendering.{Stage}
use Rattle.vs_render.proofs.groups.put_changes.Given as goal

-- what was rendered of the changes before this one, and what is still to come, are the groups of all
abbrev pub invariant-loop-change : goal.invariant-loop-change
invariant-loop-change l =
    Stage (head_of l.fn.name l.fn.time) (columns_in l.fn.bound.tables)
    (filter_map (pick_in l.fn.bound.tables) l.fn.changes) (filter_map (pick_in l.fn.bound.tables) (drop l.change-index l.fn.changes))
    l.groups.told l.out.items l.groups.earlier.items l.groups.start l.groups.some
