use Rattle.std.proofs.Common.{take}
use Rattle.vs_gtid.specs.Positions.{IsSubset}
use Rattle.vs_gtid.proofs.compare.missing_of.Given as goal

-- of the intervals so far nothing is missing
abbrev pub invariant-loop-interval : goal.invariant-loop-interval
invariant-loop-interval l = IsSubset (take l.interval-index l.intervals) l.other
