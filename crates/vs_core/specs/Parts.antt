-- The parts of a vector's message.
use Rattle.std.specs.Prelude.{◌&&◌, Bool, nat_eq}
use Rattle.std.specs.Cmp.Lexicographic.{pointwise}
use Rattle.vs_base.specs.declared.ShardName.{ShardName}
use Rattle.vs_proto.specs.declared.vgtid.ShardGtid.{ShardGtid}

-- the part is this shard's
abbrev pub is_part_of : ShardName → ShardGtid → Bool
is_part_of s part = pointwise nat_eq part.keyspace s.keyspace && pointwise nat_eq part.shard s.shard
