use Rattle.std.proofs.Common.{[]}
use Rattle.vs_gtid.specs.declared.interval.Interval.{Interval}
use Rattle.vs_gtid.specs.Positions.{has}
use Rattle.vs_gtid.proofs.MissingLemmas.{IsInterval-at, first_missing, IsSubset_more}
use Rattle.vs_gtid.proofs.compare.missing_of.Goals as goal

abbrev unread : Interval
unread = record { uuid = []; first = 0; last = 0 }

pub loop-interval-init : goal.loop-interval-init
unfolding has
loop-interval-init c = λ g h. cc

pub missing_in-requires-clause-interval : goal.missing_in-requires-clause-interval
missing_in-requires-clause-interval c = IsInterval-at c.args.intervals.now c.loop-interval.interval-index unread c.requires.canonical c.loop-interval-test.true

pub returns-in-Some : goal.returns-in-Some
returns-in-Some c =
    let e = c.in-Some.ensures in
    first_missing c.args.intervals.now c.args.other.now c.loop-interval.interval-index unread c.in-Some.gtid c.requires.canonical c.loop-interval-test.true
    c.loop-interval.invariant e.whole e.missing e.least

pub loop-interval-preserved : goal.loop-interval-preserved
loop-interval-preserved c =
    IsSubset_more c.args.intervals.now c.args.other.now c.loop-interval.interval-index unread c.loop-interval-test.true c.loop-interval.invariant c.in_default.ensures.whole
