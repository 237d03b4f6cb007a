use Rattle.std.proofs.Common.{◌≡◌, ◌<◌, ◌+◌, ◌∙◌, List, length, get_or, All, inr, sym, ap, subst, arith}
use Rattle.std.proofs.lemmas.List.Sorted.{All-permutation}
use Rattle.vs_gtid.specs.declared.interval.Interval.{Interval}
use Rattle.vs_gtid.specs.Positions.{Position, IsInterval, SameSet}
use Rattle.vs_gtid.specs.Joins.{AreInOrder, limited, merged}
use Rattle.vs_gtid.proofs.MergeLemmas.{in_order, merged_in_order, limited_few, limited_many}
use Rattle.vs_gtid.proofs.merge.merge.Goals as goal
use Rattle.vs_gtid.proofs.merge.merge.Goals.{In_ok-merged}

pub merge_sorted-requires-clause-intervals : goal.merge_sorted-requires-clause-intervals
merge_sorted-requires-clause-intervals c =
    let v = All-permutation IsInterval c.args.intervals.items c.sort_unstable.new.self.items c.sort_unstable.ensures.permutation c.requires in
    subst (λ (is : List Interval). All IsInterval is) (sym c.as_slice.ensures.value) v

pub merge_sorted-requires-clause-in_order : goal.merge_sorted-requires-clause-in_order
merge_sorted-requires-clause-in_order c =
    let is = c.sort_unstable.new.self.items in
    let h : AreInOrder is = λ k d l. in_order (get_or is k d) (get_or is (k + 1) d) (c.sort_unstable.ensures.sorted k d (omega arith) l) in
    subst AreInOrder (sym c.as_slice.ensures.value) h

whole : (c : In_ok-merged) → c.in_ok-merged.merged.items ≡ merged c.args.intervals.items
whole c =
    let h = c.in_ok-merged.ensures in
    merged_in_order c.args.intervals.items c.sort_unstable.new.self.items c.in_ok-merged.merged.items c.requires c.sort_unstable.ensures.permutation h.canonical
    (subst (λ (is : List Interval). SameSet c.in_ok-merged.merged.items is) c.as_slice.ensures.value h.members)

pub returns-then-len-gt1024-clause-merged : goal.returns-then-len-gt1024-clause-merged
returns-then-len-gt1024-clause-merged c =
    let e = whole ((goal.at.returns-then-len-gt1024-clause-merged c).In_ok-merged) in
    inr (sym (limited_many (merged c.args.intervals.items) (subst (λ (p : Position). 1024 < length p) e (omega arith))))

pub returns-clause-merged : goal.returns-clause-merged
returns-clause-merged c =
    let e = whole ((goal.at.returns-clause-merged c).In_ok-merged) in
    inr (sym (ap limited (sym e) ∙ limited_few c.in_ok-merged.merged.items (omega arith)))
