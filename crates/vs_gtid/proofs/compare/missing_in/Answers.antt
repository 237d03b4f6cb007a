use Rattle.std.proofs.Common.{refl, [], arith}
use Rattle.vs_gtid.specs.declared.interval.Interval.{Interval}
use Rattle.vs_base.specs.declared.gtid.Gtid.{Gtid}
use Rattle.vs_gtid.specs.Positions.{IsInterval}
use Rattle.vs_gtid.proofs.MissingLemmas.{held_on, not_held}
use Rattle.vs_gtid.proofs.Order.{within_parts}
use Rattle.vs_gtid.proofs.compare.missing_in.Goals as goal

abbrev unread : Interval
unread = record { uuid = []; first = 0; last = 0 }

-- the first GTID of an interval
abbrev start_of : (i : Interval) → IsInterval i → Gtid
start_of i v = record { uuid = i.uuid; number = i.first; first = v.first; last = omega (arith, v.ascends, v.last) }

pub returns-then-interval-last-clause-whole : goal.returns-then-interval-last-clause-whole
returns-then-interval-last-clause-whole c = λ x w.
    let m = within_parts x c.args.interval.now w in
    let e = c.in-Some.ensures in
    held_on c.args.other.now c.in-Some.place unread (start_of c.args.interval.now c.requires.interval) x e.1 (e.0 unread) m.0 m.1 (omega arith)

pub returns-clause-missing : goal.returns-clause-missing
returns-clause-missing c =
    let e = c.in-Some.ensures in
    not_held c.args.other.now c.in-Some.place unread (start_of c.args.interval.now c.requires.interval) _ c.requires.other e.1 (e.0 unread) refl refl

pub returns-clause-least : goal.returns-clause-least
returns-clause-least c = λ x w less.
    let m = within_parts x c.args.interval.now w in
    let e = c.in-Some.ensures in
    held_on c.args.other.now c.in-Some.place unread (start_of c.args.interval.now c.requires.interval) x e.1 (e.0 unread) m.0 m.1 (omega arith)
