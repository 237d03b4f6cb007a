use Rattle.std.proofs.Common.{arith, rules}
use Rattle.std.proofs.lemmas.List.Sorted.{IsPartitionPoint-from_clause}
use Rattle.vs_gtid.specs.Joins.{stands_before}
use Rattle.vs_gtid.proofs.AddLemmas.{place_is}
use Rattle.vs_gtid.proofs.SearchLemmas.{are_parted}
use Rattle.vs_gtid.proofs.search.place_in.Goals as goal

pub returns-clause-place : goal.returns-clause-place
returns-clause-place c =
    let p = c.args.intervals.now in
    let k = c.args.single.now in
    let point = IsPartitionPoint-from_clause (λ i. stands_before i k) _ _ c.partition_point.ensures.partitioned (are_parted p k c.requires) (λ a r q x. search rules) in
    place_is p k c.partition_point.result k c.requires c.partition_point.ensures.bound
    (λ n e. point.0 n k (omega arith) (omega arith))
    (λ h. point.1 c.partition_point.result k (omega arith) h)
