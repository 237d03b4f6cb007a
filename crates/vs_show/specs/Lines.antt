-- The line of each event, and the lines of a frame.
use Rattle.std.specs.Prelude.{ℕ, ◌==◌, if◌then◌else◌, ◌&&◌, List, [], ◌∷◌, ◌++◌, length, codes, decimal, Option, Some, None, ℤ, pos}
use Rattle.std.specs.List.{flat_map, join_by}
use Rattle.std.specs.Fmt.{signed_decimal}
use Rattle.vs_proto.specs.declared.column.Field.{Field}
use Rattle.vs_proto.specs.declared.column.FieldEvent.{FieldEvent}
use Rattle.vs_proto.specs.declared.event.VEvent.{VEvent}
use Rattle.vs_proto.specs.declared.event.VStreamResponse.{VStreamResponse}
use Rattle.vs_proto.specs.declared.journal.Journal.{Journal}
use Rattle.vs_proto.specs.declared.row.RowChange.{RowChange}
use Rattle.vs_proto.specs.declared.row.RowEvent.{RowEvent}
use Rattle.vs_proto.specs.declared.vgtid.ShardGtid.{ShardGtid}
use Rattle.vs_proto.specs.declared.vgtid.TableKey.{TableKey}
use Rattle.vs_proto.specs.declared.vgtid.VGtid.{VGtid}
use Rattle.vs_show.specs.Cells.{bytes_text, image_text}
use Rattle.vs_show.specs.Kinds.{kind_of}
use Rattle.vs_show.specs.declared.kind.Kind.{Kind}
use Rattle.vs_show.specs.declared.kind.Kind.TheVariants as kinds

abbrev pub line : List ℕ → List ℕ
line words = words ++ 10 ∷ []

-- the names of an event's shard: `keyspace/shard`
unfoldable pub shard_text : VEvent → List ℕ
shard_text e = e.keyspace ++ codes "/" ++ e.shard

-- ---- FIELD: the columns of a table, `name:type`

unfoldable pub field_text : Field → List ℕ
field_text f = f.name ++ codes ":" ++ signed_decimal f.kind

unfoldable pub fields_line : VEvent → List ℕ → List Field → List ℕ
fields_line e table fields = line (codes "FIELD " ++ shard_text e ++ codes " " ++ table ++ codes " " ++ join_by field_text (codes ",") fields)

-- an event's message that is absent counts as the message without fields, here and below
abbrev pub field_line : VEvent → Option FieldEvent → List ℕ
field_line e None = fields_line e [] []
field_line e (Some f) = fields_line e f.table_name f.fields

-- ---- ROW: a line for each change

unfoldable pub change_line : VEvent → List ℕ → RowChange → List ℕ
change_line e table c = line (codes "ROW " ++ shard_text e ++ codes " " ++ table ++ codes " " ++ image_text c.before ++ codes " -> " ++ image_text c.after)

abbrev pub row_lines : VEvent → Option RowEvent → List ℕ
row_lines e None = []
row_lines e (Some r) = flat_map (change_line e r.table_name) r.row_changes

-- ---- VGTID: the entries of a vector, `keyspace/shard@gtid`, each with `+table` and the last key of a copy

unfoldable pub key_text : TableKey → List ℕ
key_text k = codes "+" ++ k.table_name ++ image_text k.key

unfoldable pub entry_text : ShardGtid → List ℕ
entry_text s = s.keyspace ++ codes "/" ++ s.shard ++ codes "@" ++ s.gtid ++ flat_map key_text s.table_p_ks

unfoldable pub entries_line : List ShardGtid → List ℕ
entries_line entries = line (codes "VGTID " ++ join_by entry_text (codes ";") entries)

abbrev pub vector_line : Option VGtid → List ℕ
vector_line None = entries_line []
vector_line (Some v) = entries_line v.shard_gtids

-- ---- the others

unfoldable pub placed_line : List ℕ → VEvent → List ℕ
placed_line word e = line (word ++ codes " " ++ shard_text e)

unfoldable pub counted_line : List ℕ → ℤ → List ℕ
counted_line word n = line (word ++ codes " " ++ signed_decimal n)

unfoldable pub statement_line : VEvent → List ℕ
statement_line e = line (codes "DDL " ++ shard_text e ++ codes " " ++ bytes_text e.statement)

abbrev pub journal_line : Option Journal → List ℕ
journal_line None = counted_line (codes "JOURNAL") (pos 0)
journal_line (Some j) = counted_line (codes "JOURNAL") j.id

-- the names stand there where one of them isn't empty
unfoldable pub copied_line : VEvent → List ℕ
copied_line e = if length e.keyspace == 0 && length e.shard == 0 then line (codes "COPY_COMPLETED") else placed_line (codes "COPY_COMPLETED") e

-- ---- events and frames

abbrev pub kind_lines : Kind → VEvent → List ℕ
kind_lines kinds.Begin e = placed_line (codes "BEGIN") e
kind_lines kinds.Commit e = placed_line (codes "COMMIT") e
kind_lines kinds.Other e = placed_line (codes "OTHER") e
kind_lines kinds.Ddl e = statement_line e
kind_lines kinds.Field e = field_line e e.field_event
kind_lines kinds.Row e = row_lines e e.row_event
kind_lines kinds.Vgtid e = vector_line e.vgtid
kind_lines kinds.Journal e = journal_line e.journal
kind_lines kinds.CopyCompleted e = copied_line e
kind_lines kinds.Heartbeat e = counted_line (codes "HEARTBEAT") e.current_time
kind_lines kinds.Unnamed e = counted_line (codes "EVENT") e.kind

unfoldable pub event_lines : VEvent → List ℕ
event_lines e = kind_lines (kind_of e.kind) e

-- of the frame with this number
unfoldable pub frame_lines : ℕ → VStreamResponse → List ℕ
frame_lines n r = line (codes "#" ++ decimal n) ++ flat_map event_lines r.events
