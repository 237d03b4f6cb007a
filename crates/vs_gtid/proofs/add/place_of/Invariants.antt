use Rattle.std.proofs.Common.{◌≡◌, ◌<◌, ◌≤◌, length, get_or, false}
use Rattle.vs_gtid.specs.Joins.{stands_before}
use Rattle.vs_gtid.proofs.add.place_of.Given as goal

-- the interval at the place, where there is one, doesn't stand before the GTID
abbrev pub invariant-loop-at : goal.invariant-loop-at
invariant-loop-at l = (l.at ≤ length l.intervals) × (l.at < length l.intervals → stands_before (get_or l.intervals l.at l.single) l.single ≡ false)

abbrev pub decreases-loop-at : goal.decreases-loop-at
decreases-loop-at l = l.at
