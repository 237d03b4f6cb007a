-- The rows of a transaction that is written.
use Rattle.std.specs.Prelude.{◌≡◌, ◌⊎◌, ◌≤◌, ◌<◌, ◌^◌, ℕ, ◌+◌, List, [], ◌∷◌, ◌++◌, codes, length, Some, None, Ok}
use Rattle.std.specs.List.{find}
use Rattle.byteorder.specs.Endian.{little_bytes}
use Rattle.vs_base.specs.declared.cell.Cell.{Cell}
use Rattle.vs_base.specs.declared.change.Change.{Change}
use Rattle.vs_base.specs.declared.table.Table.{Table}
use Rattle.vs_base.specs.declared.Gtid.{Gtid}
use Rattle.vs_gtid.specs.declared.Entry.{Entry}
use Rattle.vs_gtid.specs.declared.Work.TheVariants.{Rows}
use Rattle.vs_gtid.specs.Positions.{Position}
use Rattle.vs_rows.specs.declared.outcome.RowsOf.TheVariants.{Changes}
use Rattle.vs_rows.specs.Rows.{rows_meant}
use Rattle.vs_rows.specs.Tables.{Tables, schema_of, with_map}
use Rattle.vs_schema.specs.declared.schema.Schema.{Schema}
use Rattle.vs_schema.specs.Rules.{names_table}
use Rattle.vs_make.specs.Events.{event_bytes, gtid_event, query_event}
use Rattle.vs_make.specs.Written.{HasRoom, IsLogOf}

-- a schema of this table alone
abbrev pub only : Table → Schema
only table = record { tables = table ∷ []; skipped = [] }

-- the insert of a row
abbrev pub inserted : List ℕ → List Cell → Change
inserted name row = record { table = name; before = None; after = Some row }

-- The bodies of a table map and of a rows event of this kind tell these changes of the table, in the log of a shard of the keyspace.
pub record TellsChanges (keyspace : List ℕ) (table : Table) (kind : ℕ) (map_body rows_body : List ℕ) (changes : List Change) : Type 0 where
  pub maps : Tables
  pub known : with_map keyspace (only table) [] map_body ≡ Ok maps
  pub told : rows_meant maps kind rows_body ≡ Ok (Changes changes)

-- the end of a transaction, with no number
unfoldable pub xid_event : ℕ → List ℕ
xid_event time = event_bytes time 16 (little_bytes 8 0)

unfoldable pub map_event : ℕ → List ℕ → List ℕ
map_event time body = event_bytes time 19 body

unfoldable pub rows_event : ℕ → ℕ → List ℕ → List ℕ
rows_event time kind body = event_bytes time kind body

abbrev pub begin_text : List ℕ
begin_text = codes "BEGIN"

-- a transaction of one table map and one rows event, behind its GTID
abbrev pub transaction_bytes : Gtid → List ℕ → ℕ → ℕ → List ℕ → List ℕ → List ℕ
transaction_bytes g schema time kind map_body rows_body =
    gtid_event time g ++ query_event time schema begin_text ++ map_event time map_body ++ rows_event time kind rows_body ++ xid_event time

-- a transaction was appended that tells these changes of the table, if its schema is that of a keyspace
abbrev pub WritesRows : List ℕ → List ℕ → Gtid → List ℕ → Table → ℕ → ℕ → List Change → Type 0
WritesRows before after g schema table time kind changes =
    (map_body rows_body : List ℕ) × (after ≡ before ++ transaction_bytes g schema time kind map_body rows_body)
    × ((keyspace : List ℕ) → schema ≡ schema_of keyspace → TellsChanges keyspace table kind map_body rows_body changes)

-- the schema text lists the table as it is
abbrev pub ListsTable : Schema → Table → Type 0
ListsTable tables table = find (names_table table.name) tables.tables ≡ Some table

-- A transaction that inserts or updates rows of a table that the log's schema text lists, written behind a whole log, is its next entry.
abbrev pub WritesTransactions : Type 0
WritesTransactions =
    (keyspace : List ℕ) (tables : Schema) (bytes after : List ℕ) (base : Position) (entries : List Entry) (g : Gtid) (table : Table) (time kind : ℕ) (changes : List Change) →
    IsLogOf keyspace tables bytes base entries → ListsTable tables table → (kind ≡ 30) ⊎ (kind ≡ 31) → WritesRows bytes after g (schema_of keyspace) table time kind changes →
    ((size : ℕ) → length after ≡ length bytes + size → HasRoom bytes base entries g size) → length keyspace ≤ 252 → time < 2 ^ 32 →
    IsLogOf keyspace tables after base (entries ++ record { gtid = g; time = time; work = Rows changes } ∷ [])
