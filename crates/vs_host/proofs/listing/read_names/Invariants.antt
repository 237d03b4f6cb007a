use Rattle.std.proofs.Common.{All, IsTrue}
use Rattle.vs_outside.specs.Names.{is_shard_text}
use Rattle.vs_host.proofs.listing.read_names.Given as goal

abbrev pub invariant-loop-entry : goal.invariant-loop-entry
invariant-loop-entry g l = record {
  lawful : All (λ name. IsTrue (is_shard_text name)) l.names.keys;
}
