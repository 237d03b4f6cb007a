use Rattle.std.proofs.Common.{◌+◌, [], get_or, sym, subst, ap, ◌∙◌}
use Rattle.vs_gtid.specs.declared.interval.Interval.{Interval}
use Rattle.vs_gtid.specs.Positions.{Position, IsCanonical, has, IsInterval}
use Rattle.vs_gtid.proofs.JoinLemmas.{IsCanonical-joined}
use Rattle.vs_gtid.proofs.MergeLemmas.{LastBeginsBy-next, has_joined_more}
use Rattle.vs_gtid.proofs.merge.merge_sorted.Goals as goal

abbrev unread : Interval
unread = record { uuid = []; first = 0; last = 0 }

pub loop-interval-preserved : goal.loop-interval-preserved
loop-interval-preserved c =
    let is = c.args.intervals.now in
    let i = c.loop-interval.interval-index in
    let p = c.loop-interval.merged.items in
    let l = c.loop-interval-test.true in
    let v : IsInterval (get_or is i unread) = c.requires.intervals i unread l in
    let inv = c.loop-interval.invariant in
    let e = c.in_ok-append.ensures in
    record {
      canonical = subst IsCanonical (sym e.joined) (IsCanonical-joined p (get_or is i unread) v inv.canonical);
      members = λ g. ap (λ (q : Position). has q g) e.joined ∙ has_joined_more is i unread p l v.ascends inv.members g;
      last = λ n. LastBeginsBy-next c.append.new.merged.items (get_or is i unread) (get_or is (i + 1) unread) e.last (c.requires.in_order i unread n);
    }
