use Rattle.std.proofs.Common.{◌≡◌, ◌||◌, take}
use Rattle.std.specs.List.{list_all, list_any}
use Rattle.vs_gather.specs.Gathering.{waits}
use Rattle.vs_gtid.specs.Vectors.{names}
use Rattle.vs_core.specs.Machine.{is_at_end}
use Rattle.vs_core.proofs.gate.Gate.standing.Given as goal

abbrev pub invariant-loop-i : goal.invariant-loop-i
invariant-loop-i l = record {
  ended : l.all_ended ≡ list_all (is_at_end l.self) (take l.i (names l.self.vector));
  rest : l.all_rest ≡ list_all (λ n. is_at_end l.self n || waits l.self.kept n) (take l.i (names l.self.vector));
  wait : l.some_wait ≡ list_any (waits l.self.kept) (take l.i (names l.self.vector));
}
