use Rattle.std.proofs.Common.{◌≡◌, false, take}
use Rattle.std.specs.Prelude.{All}
use Rattle.vs_opening.specs.Asked.{AreAsked, asks_for_all}
use Rattle.vs_opening.specs.Outside.{OnlyLists}
use Rattle.vs_opening.proofs.names.ask_all.Given as goal

-- the entries so far ask for these, and of the tablets only the count of failed listings changed
abbrev pub invariant-loop-wanted : goal.invariant-loop-wanted
invariant-loop-wanted g l = record {
  asked : AreAsked (g.T.Tablets.cluster l.fn.tablets) (take l.wanted-index l.entries) l.named;
  quiet : All (λ w. asks_for_all w ≡ false) l.entries → g.T.Tablets.list_faults l.tablets ≡ g.T.Tablets.list_faults l.fn.tablets;
  only : OnlyLists g.T.Tablets.cluster g.T.Tablets.opened g.T.Tablets.returned g.T.Tablets.faults g.T.Tablets.waits g.T.Tablets.open_faults g.T.Tablets.list_faults g.T.Tablets.pattern_faults g.T.Tablets.folder g.T.Tablets.sound l.fn.tablets l.tablets;
}
