use Rattle.std.proofs.Common.{◌≡◌}
use Rattle.vs_lane.specs.Feeding.{IsLater, IsSound}
use Rattle.vs_lane.proofs.entries.Entries.next.Given as goal

-- nothing was read since
abbrev pub invariant-loop : goal.invariant-loop
invariant-loop g l = record {
  later : IsLater l.fn.self l.self;
  read : l.self.read ≡ l.fn.self.read;
  spent : l.self.spent ≡ l.fn.self.spent;
  sound : IsSound l.self;
}
