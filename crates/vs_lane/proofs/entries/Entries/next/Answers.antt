use Rattle.std.proofs.Common.{◌∙◌, refl}
use Rattle.vs_lane.proofs.Searches.{comes_from, later_same, later_then}
use Rattle.vs_lane.proofs.entries.Entries.next.Goals as goal

pub loop-init : goal.loop-init
loop-init g c = record { later = later_same _; read = refl; spent = refl; sound = c.requires }

pub loop-preserved : goal.loop-preserved
loop-preserved g c = record {
  later = later_then _ _ _ c.loop.invariant.later c.turn.ensures.later;
  read = c.in_default.ensures.comes.0 ∙ c.loop.invariant.read;
  spent = c.in_default.ensures.comes.1 ∙ c.loop.invariant.spent;
  sound = c.turn.ensures.sound;
}

pub returns-in-Some-clause-later : goal.returns-in-Some-clause-later
returns-in-Some-clause-later g c = later_then _ _ _ c.loop.invariant.later c.turn.ensures.later

pub returns-in-Some-clause-comes : goal.returns-in-Some-clause-comes
returns-in-Some-clause-comes g c = comes_from _ _ _ _ c.loop.invariant.later c.loop.invariant.read c.loop.invariant.spent c.in-Some.ensures.comes
