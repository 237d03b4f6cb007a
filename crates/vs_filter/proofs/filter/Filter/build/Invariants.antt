use Rattle.std.proofs.Common.{◌≡◌, ◌≤◌, None, drop, map, take}
use Rattle.vs_outside.specs.Counts.{KeepsCounts}
use Rattle.vs_filter.specs.Causes.{HasNoPattern, meant_as}
use Rattle.vs_filter.specs.Rules.{fault_of, first_fault, first_from, meant_by}
use Rattle.vs_filter.proofs.filter.Filter.build.Given as goal

abbrev pub invariant-loop-index : goal.invariant-loop-index
invariant-loop-index g l = record {
  built : map meant_as l.built ≡ map meant_by (take l.index l.rules);
  left : first_from fault_of l.index (drop l.index l.rules) ≡ first_fault l.rules;
  front : first_fault (take l.index l.rules) ≡ None;
  later : g.T.Tablets.pattern_faults l.fn.tablets ≤ g.T.Tablets.pattern_faults l.tablets;
  quiet : HasNoPattern l.rules → g.T.Tablets.pattern_faults l.tablets ≡ g.T.Tablets.pattern_faults l.fn.tablets;
  cluster : g.T.Tablets.cluster l.tablets ≡ g.T.Tablets.cluster l.fn.tablets;
  opened : g.T.Tablets.opened l.tablets ≡ g.T.Tablets.opened l.fn.tablets;
  returned : KeepsCounts (g.T.Tablets.returned l.fn.tablets) (g.T.Tablets.returned l.tablets);
  faults : KeepsCounts (g.T.Tablets.faults l.fn.tablets) (g.T.Tablets.faults l.tablets);
  waits : KeepsCounts (g.T.Tablets.waits l.fn.tablets) (g.T.Tablets.waits l.tablets);
  open_faults : KeepsCounts (g.T.Tablets.open_faults l.fn.tablets) (g.T.Tablets.open_faults l.tablets);
  list_faults : g.T.Tablets.list_faults l.tablets ≡ g.T.Tablets.list_faults l.fn.tablets;
  folder : g.T.Tablets.folder l.tablets ≡ g.T.Tablets.folder l.fn.tablets;
  sound : g.T.Tablets.sound l.tablets ≡ g.T.Tablets.sound l.fn.tablets;
}
