use Rattle.std.proofs.Common.{◌≡◌, ◌-◌, ◌≤◌, length, All, Ok}
use Rattle.vs_gtid.specs.Block.{both, groups_at}
use Rattle.vs_gtid.specs.Positions.{IsInterval}
use Rattle.vs_gtid.proofs.block.read_groups.Given as goal

-- what was read and what the rest of the body says are what the whole says
abbrev pub invariant-loop-group : goal.invariant-loop-group
invariant-loop-group l = record {
  within : l.at ≤ length l.body;
  intervals : All IsInterval l.intervals.items;
  groups : both (Ok l.intervals.items) (groups_at (l.count - l.group) l.body l.at) ≡ both (Ok l.fn.intervals.items) (groups_at l.count l.body 8);
}
