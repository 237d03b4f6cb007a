-- A journal that is written into the table of journals.
use Rattle.std.specs.Prelude.{◌≡◌, ◌+◌, ◌<◌, ◌^◌, ℕ, false, List, [], ◌∷◌, ◌++◌, codes, length, Ok}
use Rattle.std.specs.Fmt.{signed_decimal}
use Rattle.vs_base.specs.declared.cell.Cell.{Cell}
use Rattle.vs_base.specs.declared.cell.Cell.TheVariants.{Bytes}
use Rattle.vs_base.specs.declared.change.Change.{Change}
use Rattle.vs_base.specs.declared.table.Table.{Table}
use Rattle.vs_base.specs.declared.table.ColumnKind.TheVariants.{BigInt, VarBinary, Blob}
use Rattle.vs_base.specs.declared.Gtid.{Gtid}
use Rattle.vs_gtid.specs.declared.Entry.{Entry}
use Rattle.vs_gtid.specs.declared.JournalValue.{JournalValue}
use Rattle.vs_gtid.specs.declared.Work.TheVariants as work
use Rattle.vs_gtid.specs.Positions.{Position}
use Rattle.vs_journal.specs.Judgement.{PlainJournal, journal_said, plain_journal}
use Rattle.vs_journal.specs.Texts.{journal_text}
use Rattle.vs_rows.specs.declared.outcome.RowsOf.TheVariants.{Journal}
use Rattle.vs_rows.specs.Rows.{rows_meant}
use Rattle.vs_rows.specs.Tables.{Tables, journal_name, schema_of, with_map}
use Rattle.vs_schema.specs.declared.schema.Schema.{Schema}
use Rattle.vs_make.specs.Rows.{inserted, transaction_bytes}
use Rattle.vs_make.specs.Written.{HasRoom, IsLogOf}

-- a schema without tables
abbrev pub none : Schema
none = record { tables = []; skipped = [] }

abbrev pub journal_table : Table
journal_table = record {
  name = journal_name;
  columns =
      record { name = codes "id"; kind = BigInt false }
      ∷ (record { name = codes "db_name"; kind = VarBinary 255 }
      ∷ (record { name = codes "val"; kind = Blob }
      ∷ []));
  key = [];
}

-- the id, `vt_` and the keyspace, and the text of the journal
abbrev pub journal_row : List ℕ → PlainJournal → List Cell
journal_row keyspace j = Bytes (signed_decimal j.id) ∷ (Bytes (schema_of keyspace) ∷ (Bytes (journal_text j) ∷ []))

-- The bodies of a table map and of an event of inserts tell this insert into the table of journals, in the log of a shard of the
-- keyspace, whatever tables its schema text lists.
pub record TellsJournal (keyspace map_body rows_body : List ℕ) (change : Change) : Type 0 where
  pub maps : Tables
  pub known : (tables : Schema) → with_map keyspace tables [] map_body ≡ Ok maps
  pub told : rows_meant maps 30 rows_body ≡ Ok (Journal (change ∷ []))

-- a transaction was appended that inserts the journal alone, for shards of the keyspace
abbrev pub WritesJournal : List ℕ → List ℕ → Gtid → List ℕ → PlainJournal → ℕ → Type 0
WritesJournal before after g keyspace j time =
    (map_body rows_body : List ℕ) × (after ≡ before ++ transaction_bytes g (codes "_vt") time 30 map_body rows_body)
    × TellsJournal keyspace map_body rows_body (inserted journal_name (journal_row keyspace j))

-- A transaction that inserts a journal that some text says, for shards of the keyspace, written behind a whole log, is its next entry: that journal.
abbrev pub WritesJournals : Type 0
WritesJournals =
    (keyspace : List ℕ) (tables : Schema) (bytes after : List ℕ) (base : Position) (entries : List Entry) (g : Gtid) (j : JournalValue) (text : List ℕ) (time : ℕ) →
    IsLogOf keyspace tables bytes base entries → journal_said text ≡ Ok (plain_journal j) → WritesJournal bytes after g keyspace (plain_journal j) time →
    ((size : ℕ) → length after ≡ length bytes + size → HasRoom bytes base entries g size) → time < 2 ^ 32 →
    IsLogOf keyspace tables after base (entries ++ record { gtid = g; time = time; work = work.Journal j } ∷ [])
