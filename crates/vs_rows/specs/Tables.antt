-- What is known of the tables of a transaction: table maps, under the keyspace and the schema text of the log.
use Rattle.std.specs.Prelude.{ℕ, ◌&&◌, Bool, if◌then◌else◌, List, [], ◌∷◌, codes, map, Option, Some, None, Result, Ok, Err}
use Rattle.std.specs.List.{find, list_any}
use Rattle.std.specs.Ordering.{nat_cmp}
use Rattle.std.specs.BTreeMap.{insert_entry, is_at}
use Rattle.std.specs.Map.{lookup}
use Rattle.vs_base.specs.declared.table.Table.{Table}
use Rattle.vs_schema.specs.declared.schema.Schema.{Schema}
use Rattle.vs_schema.specs.Kinds.{same}
use Rattle.vs_schema.specs.Rules.{names_table}
use Rattle.vs_rows.specs.declared.refusal.RowRefusal.{RowRefusal}
use Rattle.vs_rows.specs.declared.refusal.RowRefusal.TheVariants.{BadBody, UnknownTable, Disagrees}
use Rattle.vs_rows.specs.declared.columns.TypedColumn.{TypedColumn}
use Rattle.vs_rows.specs.declared.columns.RowColumn.{RowColumn}
use Rattle.vs_rows.specs.declared.table.RowTable.{RowTable}
use Rattle.vs_rows.specs.declared.table.Mapped.{Mapped}
use Rattle.vs_rows.specs.declared.table.Mapped.TheVariants.{Passed, Counted, Journal}
use Rattle.vs_rows.specs.Layouts.{MapSaid, map_body}
use Rattle.vs_rows.specs.Columns.{typed_columns, row_columns, wanted, journal_columns}

-- the schema of a keyspace's tables: `vt_` and the keyspace
abbrev pub schema_of : List ℕ → List ℕ
schema_of keyspace = 118 ∷ (116 ∷ (95 ∷ keyspace))

-- resharding_journal
abbrev pub journal_name : List ℕ
journal_name = codes "resharding_journal"

-- the table of journals, in the schema `_vt`
abbrev pub is_journal : List ℕ → List ℕ → Bool
is_journal schema table = same schema (codes "_vt") && same table journal_name

-- a table whose columns are those of its table map, or not
abbrev pub agreeing : List ℕ → Option (List RowColumn) → Result RowTable RowRefusal
agreeing name None = Err (Disagrees name)
agreeing name (Some columns) = Ok (record { name = name; columns = columns })

abbrev pub known : (RowTable → Mapped) → Result RowTable RowRefusal → Result Mapped RowRefusal
known count (Ok table) = Ok (count table)
known count (Err refusal) = Err refusal

-- a table of the keyspace, which the schema text lists, or skips, or lacks
abbrev pub listed : Schema → List ℕ → List TypedColumn → Option Table → Result Mapped RowRefusal
listed schema name columns (Some table) = known Counted (agreeing name (row_columns (map wanted table.columns) columns))
listed schema name columns None = if list_any (λ skipped. same skipped name) schema.skipped then Ok Passed else Err (UnknownTable name)

-- a table of this schema, with these columns in the log
abbrev pub table_by : List ℕ → Schema → MapSaid → List TypedColumn → Result Mapped RowRefusal
table_by keyspace schema said columns =
    if same said.schema (schema_of keyspace) then listed schema said.table columns (find (names_table said.table) schema.tables)
    else if is_journal said.schema said.table then known Journal (agreeing said.table (row_columns journal_columns columns))
    else Ok Passed

abbrev pub with_id : ℕ → Result Mapped RowRefusal → Result (ℕ × Mapped) RowRefusal
with_id id (Ok mapped) = Ok (id, mapped)
with_id id (Err refusal) = Err refusal

abbrev pub map_typed : List ℕ → Schema → MapSaid → Option (List TypedColumn) → Result (ℕ × Mapped) RowRefusal
map_typed keyspace schema said None = Err BadBody
map_typed keyspace schema said (Some columns) = with_id said.id (table_by keyspace schema said columns)

abbrev pub map_by : List ℕ → Schema → Option MapSaid → Result (ℕ × Mapped) RowRefusal
map_by keyspace schema None = Err BadBody
map_by keyspace schema (Some said) = map_typed keyspace schema said (typed_columns said.types said.metadata)

-- The number of the table of a table map, and what is known of the table; or why it is refused.
unfoldable pub map_meant : List ℕ → Schema → List ℕ → Result (ℕ × Mapped) RowRefusal
map_meant keyspace schema body = map_by keyspace schema (map_body body)

-- What is known of tables by their numbers: a finite map, as a list of pairs.
abbrev pub Tables : Type 0
Tables = List (ℕ × Mapped)

abbrev pub table_at : Tables → ℕ → Option Mapped
table_at tables id = lookup (is_at (nat_cmp id)) tables

-- with one more; an earlier one of the number goes
abbrev pub with_table : Tables → ℕ → Mapped → Tables
with_table tables id mapped = insert_entry nat_cmp tables id mapped

abbrev pub with_known : Tables → Result (ℕ × Mapped) RowRefusal → Result Tables RowRefusal
with_known tables (Ok (id, mapped)) = Ok (with_table tables id mapped)
with_known tables (Err refusal) = Err refusal

-- The tables behind a further table map.
unfoldable pub with_map : List ℕ → Schema → Tables → List ℕ → Result Tables RowRefusal
with_map keyspace schema tables body = with_known tables (map_meant keyspace schema body)

-- the tables that stay where a table map is refused
abbrev pub or_same : Tables → Result Tables RowRefusal → Tables
or_same tables (Ok more) = more
or_same tables (Err refusal) = tables

-- The tables behind some table maps, of which those that are refused change nothing.
unfoldable pub tables_behind : List ℕ → Schema → Tables → List (List ℕ) → Tables
tables_behind keyspace schema tables [] = tables
tables_behind keyspace schema tables (body ∷ bodies) = tables_behind keyspace schema (or_same tables (with_map keyspace schema tables body)) bodies

abbrev pub done : {A : Type 0} → Result A RowRefusal → Result (Unit {0}) RowRefusal
done (Ok x) = Ok tt
done (Err refusal) = Err refusal
