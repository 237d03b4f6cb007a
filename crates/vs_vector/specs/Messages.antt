-- Rows, shards and vectors as messages carry them.
use Rattle.std.specs.Prelude.{List, [], ◌∷◌, map, Some}
use Rattle.std.specs.List.{flat_map}
use Rattle.vs_base.specs.declared.ShardName.{ShardName}
use Rattle.vs_base.specs.declared.LastKey.{LastKey}
use Rattle.vs_base.specs.declared.Cell.{Cell}
use Rattle.vs_base.specs.Rows.{cell_length, cell_bytes}
use Rattle.vs_gtid.specs.Text.{position_text}
use Rattle.vs_gtid.specs.Vectors.{Place, Vector}
use Rattle.vs_gtid.specs.Vectors.Place.{Fresh, Copying, Streaming}
use Rattle.vs_proto.specs.declared.row.Row.{Row}
use Rattle.vs_proto.specs.declared.vgtid.ShardGtid.{ShardGtid}
use Rattle.vs_proto.specs.declared.vgtid.TableKey.{TableKey}
use Rattle.vs_proto.specs.declared.vgtid.VGtid.{VGtid}

-- a row: the lengths of its cells, and their bytes
abbrev pub row_of : List Cell → Row
row_of cells = record { lengths = map cell_length cells; values = flat_map cell_bytes cells }

abbrev pub last_key_of : LastKey → TableKey
last_key_of last = record { table_name = last.table; key = Some (row_of last.key) }

-- a shard of a vector, with its position and its last key
abbrev pub shard_gtid_of : ShardName → Place → ShardGtid
shard_gtid_of s Fresh = record { keyspace = s.keyspace; shard = s.shard; gtid = []; table_p_ks = [] }
shard_gtid_of s (Copying p last) = record { keyspace = s.keyspace; shard = s.shard; gtid = position_text p; table_p_ks = last_key_of last ∷ [] }
shard_gtid_of s (Streaming p) = record { keyspace = s.keyspace; shard = s.shard; gtid = position_text p; table_p_ks = [] }

abbrev pub shard_gtids_of : Vector → List ShardGtid
shard_gtids_of v = map (λ slot. shard_gtid_of slot.0 slot.1) v

abbrev pub vgtid_of : Vector → VGtid
vgtid_of v = record { shard_gtids = shard_gtids_of v }
