-- The messages: a slot for each field, by its number.
use Rattle.std.specs.Prelude.{Bool, false, not, ◌||◌, [], ◌∷◌, length, None, pos, refl}
use Rattle.vs_proto.specs.Cells.{cells_fill}
use Rattle.vs_proto.specs.Kinds.{text, texts, bytes, int64, uint64, enumeration, flag, sint64s}
use Rattle.vs_proto.specs.Shapes.{Shape, slot, lens, plain, one, many}
use Rattle.vs_proto.specs.declared.column.Field.{Field}
use Rattle.vs_proto.specs.declared.column.FieldEvent.{FieldEvent}
use Rattle.vs_proto.specs.declared.row.Row.{Row}
use Rattle.vs_proto.specs.declared.row.RowChange.{RowChange}
use Rattle.vs_proto.specs.declared.row.RowEvent.{RowEvent}
use Rattle.vs_proto.specs.declared.vgtid.TableKey.{TableKey}
use Rattle.vs_proto.specs.declared.vgtid.ShardGtid.{ShardGtid}
use Rattle.vs_proto.specs.declared.vgtid.VGtid.{VGtid}
use Rattle.vs_proto.specs.declared.journal.KeyspaceShard.{KeyspaceShard}
use Rattle.vs_proto.specs.declared.journal.Journal.{Journal}
use Rattle.vs_proto.specs.declared.event.VEvent.{VEvent}
use Rattle.vs_proto.specs.declared.event.VStreamResponse.{VStreamResponse}
use Rattle.vs_proto.specs.declared.request.Rule.{Rule}
use Rattle.vs_proto.specs.declared.request.Filter.{Filter}
use Rattle.vs_proto.specs.declared.request.Flags.{Flags}
use Rattle.vs_proto.specs.declared.request.VStreamRequest.{VStreamRequest}

unfoldable pub field : Bool → Shape Field
field strict = plain (record { name = []; kind = pos 0 }) (
    slot 1 (text strict) (lens (λ m. m.name) (λ m x. record m { name = x }))
    ∷ slot 2 enumeration (lens (λ m. m.kind) (λ m x. record m { kind = x }))
    ∷ []
    ) refl refl

unfoldable pub field_event : Bool → Shape FieldEvent
field_event strict = plain (record { table_name = []; fields = [] }) (
    slot 1 (text strict) (lens (λ m. m.table_name) (λ m x. record m { table_name = x }))
    ∷ slot 2 (many (field strict)) (lens (λ m. m.fields) (λ m x. record m { fields = x }))
    ∷ []
    ) refl refl

unfoldable pub row : Bool → Shape Row
row strict = record {
  slots = slot 1 sint64s (lens (λ m. m.lengths) (λ m x. record m { lengths = x }))
      ∷ slot 2 bytes (lens (λ m. m.values) (λ m x. record m { values = x }))
      ∷ [];
  empty = record { lengths = []; values = [] };
  is_whole = λ r. not strict || cells_fill r.lengths (length r.values);
  in_order = refl;
  complete = refl;
}

unfoldable pub row_change : Bool → Shape RowChange
row_change strict = plain (record { before = None; after = None }) (
    slot 1 (one (row strict)) (lens (λ m. m.before) (λ m x. record m { before = x }))
    ∷ slot 2 (one (row strict)) (lens (λ m. m.after) (λ m x. record m { after = x }))
    ∷ []
    ) refl refl

unfoldable pub row_event : Bool → Shape RowEvent
row_event strict = plain (record { table_name = []; row_changes = [] }) (
    slot 1 (text strict) (lens (λ m. m.table_name) (λ m x. record m { table_name = x }))
    ∷ slot 2 (many (row_change strict)) (lens (λ m. m.row_changes) (λ m x. record m { row_changes = x }))
    ∷ []
    ) refl refl

unfoldable pub table_key : Bool → Shape TableKey
table_key strict = plain (record { table_name = []; key = None }) (
    slot 1 (text strict) (lens (λ m. m.table_name) (λ m x. record m { table_name = x }))
    ∷ slot 2 (one (row strict)) (lens (λ m. m.key) (λ m x. record m { key = x }))
    ∷ []
    ) refl refl

unfoldable pub shard_gtid : Bool → Shape ShardGtid
shard_gtid strict = plain (record { keyspace = []; shard = []; gtid = []; table_p_ks = [] }) (
    slot 1 (text strict) (lens (λ m. m.keyspace) (λ m x. record m { keyspace = x }))
    ∷ slot 2 (text strict) (lens (λ m. m.shard) (λ m x. record m { shard = x }))
    ∷ slot 3 (text strict) (lens (λ m. m.gtid) (λ m x. record m { gtid = x }))
    ∷ slot 4 (many (table_key strict)) (lens (λ m. m.table_p_ks) (λ m x. record m { table_p_ks = x }))
    ∷ []
    ) refl refl

unfoldable pub vgtid : Bool → Shape VGtid
vgtid strict = plain (record { shard_gtids = [] }) (
    slot 1 (many (shard_gtid strict)) (lens (λ m. m.shard_gtids) (λ m x. record m { shard_gtids = x }))
    ∷ []
    ) refl refl

unfoldable pub keyspace_shard : Bool → Shape KeyspaceShard
keyspace_shard strict = plain (record { keyspace = []; shard = [] }) (
    slot 1 (text strict) (lens (λ m. m.keyspace) (λ m x. record m { keyspace = x }))
    ∷ slot 2 (text strict) (lens (λ m. m.shard) (λ m x. record m { shard = x }))
    ∷ []
    ) refl refl

unfoldable pub journal : Bool → Shape Journal
journal strict = plain (record { id = pos 0; migration_type = pos 0; tables = []; local_position = []; shard_gtids = []; participants = [] }) (
    slot 1 int64 (lens (λ m. m.id) (λ m x. record m { id = x }))
    ∷ slot 2 enumeration (lens (λ m. m.migration_type) (λ m x. record m { migration_type = x }))
    ∷ slot 3 (texts strict) (lens (λ m. m.tables) (λ m x. record m { tables = x }))
    ∷ slot 4 (text strict) (lens (λ m. m.local_position) (λ m x. record m { local_position = x }))
    ∷ slot 5 (many (shard_gtid strict)) (lens (λ m. m.shard_gtids) (λ m x. record m { shard_gtids = x }))
    ∷ slot 6 (many (keyspace_shard strict)) (lens (λ m. m.participants) (λ m x. record m { participants = x }))
    ∷ []
    ) refl refl

unfoldable pub event : Bool → Shape VEvent
event strict = plain (record { kind = pos 0; timestamp = pos 0; gtid = []; statement = []; row_event = None; field_event = None; vgtid = None; journal = None; current_time = pos 0; keyspace = []; shard = [] }) (
    slot 1 enumeration (lens (λ m. m.kind) (λ m x. record m { kind = x }))
    ∷ slot 2 int64 (lens (λ m. m.timestamp) (λ m x. record m { timestamp = x }))
    ∷ slot 3 (text strict) (lens (λ m. m.gtid) (λ m x. record m { gtid = x }))
    ∷ slot 4 (text strict) (lens (λ m. m.statement) (λ m x. record m { statement = x }))
    ∷ slot 5 (one (row_event strict)) (lens (λ m. m.row_event) (λ m x. record m { row_event = x }))
    ∷ slot 6 (one (field_event strict)) (lens (λ m. m.field_event) (λ m x. record m { field_event = x }))
    ∷ slot 7 (one (vgtid strict)) (lens (λ m. m.vgtid) (λ m x. record m { vgtid = x }))
    ∷ slot 8 (one (journal strict)) (lens (λ m. m.journal) (λ m x. record m { journal = x }))
    ∷ slot 20 int64 (lens (λ m. m.current_time) (λ m x. record m { current_time = x }))
    ∷ slot 22 (text strict) (lens (λ m. m.keyspace) (λ m x. record m { keyspace = x }))
    ∷ slot 23 (text strict) (lens (λ m. m.shard) (λ m x. record m { shard = x }))
    ∷ []
    ) refl refl

unfoldable pub response : Bool → Shape VStreamResponse
response strict = plain (record { events = [] }) (
    slot 1 (many (event strict)) (lens (λ m. m.events) (λ m x. record m { events = x }))
    ∷ []
    ) refl refl

unfoldable pub rule : Bool → Shape Rule
rule strict = plain (record { pattern = []; filter = [] }) (
    slot 1 (text strict) (lens (λ m. m.pattern) (λ m x. record m { pattern = x }))
    ∷ slot 2 (text strict) (lens (λ m. m.filter) (λ m x. record m { filter = x }))
    ∷ []
    ) refl refl

unfoldable pub filter : Bool → Shape Filter
filter strict = plain (record { rules = [] }) (
    slot 1 (many (rule strict)) (lens (λ m. m.rules) (λ m x. record m { rules = x }))
    ∷ []
    ) refl refl

unfoldable pub flags : Bool → Shape Flags
flags strict = plain (record { max_skew = 0; heartbeat_interval = 0; stop_on_reshard = false; include_journals = false }) (
    slot 1 uint64 (lens (λ m. m.max_skew) (λ m x. record m { max_skew = x }))
    ∷ slot 2 uint64 (lens (λ m. m.heartbeat_interval) (λ m x. record m { heartbeat_interval = x }))
    ∷ slot 3 flag (lens (λ m. m.stop_on_reshard) (λ m x. record m { stop_on_reshard = x }))
    ∷ slot 4 flag (lens (λ m. m.include_journals) (λ m x. record m { include_journals = x }))
    ∷ []
    ) refl refl

unfoldable pub request : Bool → Shape VStreamRequest
request strict = plain (record { vgtid = None; filter = None; flags = None }) (
    slot 1 (one (vgtid strict)) (lens (λ m. m.vgtid) (λ m x. record m { vgtid = x }))
    ∷ slot 2 (one (filter strict)) (lens (λ m. m.filter) (λ m x. record m { filter = x }))
    ∷ slot 3 (one (flags strict)) (lens (λ m. m.flags) (λ m x. record m { flags = x }))
    ∷ []
    ) refl refl
