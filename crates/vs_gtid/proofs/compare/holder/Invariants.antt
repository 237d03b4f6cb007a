use Rattle.std.proofs.Common.{◌≡◌, take, false}
use Rattle.vs_gtid.specs.Positions.{has}
use Rattle.vs_gtid.proofs.compare.holder.Given as goal

-- the intervals so far lack the GTID
abbrev pub invariant-loop-place : goal.invariant-loop-place
invariant-loop-place l = has (take l.place l.intervals) l.gtid ≡ false
