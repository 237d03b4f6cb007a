-- The order of names.
use Rattle.std.specs.Ordering.{nat_cmp, ordering_then}
use Rattle.std.specs.Cmp.Lexicographic.{slice_cmp}
use Rattle.std.specs.declared.cmp.Ordering.{Ordering}
use Rattle.vs_base.specs.declared.shard_name.ShardName.{ShardName}
use Rattle.vs_gtid.specs.Positions.{Position}
use Rattle.vs_gtid.specs.declared.journal.Successor.{Successor}
use Rattle.vs_journal.specs.Judgement.{PlainName, plain_name}

-- by keyspaces, and then by shards
abbrev pub name_cmp : ShardName → ShardName → Ordering
name_cmp a b = ordering_then (slice_cmp nat_cmp a.keyspace b.keyspace) (slice_cmp nat_cmp a.shard b.shard)

-- a successor as what stands at its name
abbrev pub entry_of : Successor → ShardName × Position
entry_of s = (s.name, s.position)

-- without what the type of its name keeps
abbrev pub plain_entry : ShardName × Position → PlainName × Position
plain_entry e = (plain_name e.0, e.1)
