use Rattle.std.proofs.Common.{◌≡◌, true, take}
use Rattle.vs_base.specs.Names.{names_differ}
use Rattle.vs_opening.specs.Asked.{shards_named}
use Rattle.vs_opening.proofs.repeated.first_repeated.Given as goal

-- the names so far differ
abbrev pub invariant-loop-index : goal.invariant-loop-index
invariant-loop-index l = record { differ : names_differ (shards_named (take l.index l.named)) ≡ true }
