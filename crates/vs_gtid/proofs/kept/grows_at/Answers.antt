use Rattle.std.proofs.Common.{◌≡◌, ◌+◌, ◌≤◌, Bool, true, false, not, [], get_or, refl, sym, ap, ◌∙◌, true≢false, arith}
use Rattle.std.proofs.lemmas.Slice.Eq.{bytes_eq-Decides}
use Rattle.vs_gtid.specs.declared.interval.Interval.{Interval}
use Rattle.vs_gtid.specs.Joins.{stands_before}
use Rattle.vs_gtid.proofs.KeptLemmas.{grows}
use Rattle.vs_gtid.proofs.kept.grows_at.Goals as goal

abbrev unread : Interval
unread = record { uuid = []; first = 0; last = 0 }

not_false : (b : Bool) → not b ≡ false → b ≡ true
not_false true e = refl
not_false false e = absurd (true≢false e)

pub returns-then-at-intervals-2 : goal.returns-then-at-intervals-2
returns-then-at-intervals-2 c = λ t.
    let one : 1 ≤ c.args.gtid.now.number = c.args.gtid.now.first in
    let next = c.if-gtid-interval.false in
    let two = c.if-interval.false in
    let whole = c.if-at-intervals-2.true in
    grows c.args.intervals.now c.args.at c.args.gtid.now unread c.requires c.if-at-intervals.false
    ((bytes_eq-Decides _ _).0 (not_false _ (sym c.ne.ensures ∙ c.if-ne.false)))
    two (omega arith) (λ h. absurd (omega arith))

pub returns-else-at-intervals-2 : goal.returns-else-at-intervals-2
returns-else-at-intervals-2 c = λ t.
    let one : 1 ≤ c.args.gtid.now.number = c.args.gtid.now.first in
    let next = c.if-gtid-interval.false in
    let two = c.if-interval.false in
    grows c.args.intervals.now c.args.at c.args.gtid.now unread c.requires c.if-at-intervals.false
    ((bytes_eq-Decides _ _).0 (not_false _ (sym c.ne.ensures ∙ c.if-ne.false)))
    two (omega arith)
    (λ h. ap (λ (x : Interval). stands_before x (get_or c.args.intervals.now (c.args.at + 1) unread)) (sym c.alone.ensures.value) ∙ (sym c.stands_before.ensures ∙ t))
