use Rattle.vs_lane.proofs.Searches.{Skips}
use Rattle.vs_lane.proofs.seek.next_due.Given as goal

-- only entries of the position were read since
abbrev pub invariant-loop : goal.invariant-loop
invariant-loop g l = Skips l.start l.fn.entries l.entries
