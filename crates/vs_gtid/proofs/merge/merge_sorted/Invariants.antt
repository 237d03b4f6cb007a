use Rattle.std.proofs.Common.{◌≡◌, ◌<◌, [], length, take, get_or}
use Rattle.vs_base.specs.declared.gtid.Gtid.{Gtid}
use Rattle.vs_gtid.specs.Positions.{has, IsCanonical}
use Rattle.vs_gtid.specs.Joins.{LastBeginsBy}
use Rattle.vs_gtid.proofs.merge.merge_sorted.Given as goal

-- the list so far is that of the intervals so far, and the next interval begins no earlier than its last
abbrev pub invariant-loop-interval : goal.invariant-loop-interval
invariant-loop-interval l = record {
  canonical : IsCanonical l.merged.items;
  members : (g : Gtid) → has l.merged.items g ≡ has (take l.interval-index l.intervals) g;
  last : l.interval-index < length l.intervals → LastBeginsBy l.merged.items (get_or l.intervals l.interval-index (record { uuid = []; first = 0; last = 0 }));
}
