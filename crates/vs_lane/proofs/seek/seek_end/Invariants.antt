use Rattle.vs_lane.proofs.Searches.{Seeking}
use Rattle.vs_lane.proofs.seek.seek_end.Given as goal

-- the position is behind the entries that were read since
abbrev pub invariant-loop : goal.invariant-loop
invariant-loop g l = Seeking l.fn.entries l.entries l.position
