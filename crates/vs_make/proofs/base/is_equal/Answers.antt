use Rattle.std.proofs.Common.{refl}
use Rattle.std.specs.Cmp.{both_ways}
use Rattle.vs_base.specs.declared.Gtid.{Gtid}
use Rattle.vs_gtid.specs.Positions.{SameSet, has}
use Rattle.vs_gtid.proofs.EqualSets.{canonical_unique}
use Rattle.vs_make.proofs.base.is_equal.Goals as goal

pub returns-then-is_subset : goal.returns-then-is_subset
returns-then-is_subset c = λ yes.
    let p = c.args.a.now in
    let q = c.args.b.now in
    let forth = c.if-is_subset.ensures.subset.0 refl in
    let back = c.is_subset-then-is_subset.ensures.subset.0 yes in
    let same : SameSet p q = λ (g : Gtid). both_ways (has p g) (has q g) (forth g) (back g) in
    canonical_unique p q c.if-is_subset.ensures.left.canonical c.if-is_subset.ensures.right.canonical same
