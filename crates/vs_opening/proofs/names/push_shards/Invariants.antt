use Rattle.std.proofs.Common.{◌≡◌, List, ◌++◌, take}
use Rattle.std.specs.List.{AllZip}
use Rattle.vs_opening.specs.declared.named.Named.{Named}
use Rattle.vs_opening.specs.Asked.{IsNamedBy}
use Rattle.vs_opening.proofs.names.push_shards.Given as goal

-- the shards so far are named, behind those that were named before
abbrev pub invariant-loop-shard : goal.invariant-loop-shard
invariant-loop-shard l = record {
  part : List Named;
  more : l.named ≡ l.fn.named ++ part;
  named_by : AllZip (IsNamedBy l.wanted) (take l.shard-index l.shards) part;
}
