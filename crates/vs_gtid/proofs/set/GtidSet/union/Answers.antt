use Rattle.std.proofs.Common.{◌≡◌, ◌∙◌, ◌++◌, List, All, ap, sym, subst}
use Rattle.vs_gtid.specs.declared.interval.Interval.{Interval}
use Rattle.vs_gtid.specs.Positions.{IsInterval}
use Rattle.vs_gtid.proofs.JoinLemmas.{AreIntervals-both}
use Rattle.vs_gtid.proofs.set.GtidSet.union.Goals as goal

pub merge-requires : goal.merge-requires
merge-requires c =
    let p = c.self.inside.intervals.items in
    let q = c.other.inside.intervals.items in
    let e : c.in_ok-chained.field-0.items ≡ p ++ q =
    c.in_ok-chained.ensures
    ∙ (ap (λ (x : List Interval). x ++ c.as_slice-right.result.now) c.as_slice-left.ensures.value ∙ ap (λ (x : List Interval). p ++ x) c.as_slice-right.ensures.value)
    in
    subst (λ (is : List Interval). All IsInterval is) (sym e) (AreIntervals-both p q c.self.invariant.canonical c.other.invariant.canonical)
