-- How the log of a shard is read: what the bodies of its events mean, under its keyspace and its schema text.
use Rattle.std.specs.Prelude.{ℕ, List, [], map, Result, Ok, Err}
use Rattle.vs_base.specs.declared.Why.{Why}
use Rattle.vs_base.specs.declared.Why.TheVariants as why
use Rattle.vs_base.specs.declared.Why.TheVariants.{BadEvent, TooManyIntervals}
use Rattle.vs_gtid.specs.declared.refusal.GtidRefusal.{GtidRefusal}
use Rattle.vs_gtid.specs.declared.refusal.GtidRefusal.TheVariants as refusal
use Rattle.vs_gtid.specs.Block.{block_of}
use Rattle.vs_gtid.specs.Positions.{Position}
use Rattle.vs_schema.specs.declared.schema.Schema.{Schema}
use Rattle.vs_rows.specs.declared.refusal.RowRefusal.{RowRefusal}
use Rattle.vs_rows.specs.declared.refusal.RowRefusal.TheVariants as row
use Rattle.vs_rows.specs.declared.outcome.RowsOf.{RowsOf}
use Rattle.vs_rows.specs.declared.outcome.RowsOf.TheVariants as told
use Rattle.vs_rows.specs.Tables.{Tables, with_map}
use Rattle.vs_rows.specs.Rows.{rows_meant}
use Rattle.vs_log.specs.States.{Counted}
use Rattle.vs_log.specs.States.Counted.{Changed, Journaled}
use Rattle.vs_entries.specs.JournalRows.{journal_texts, journals_meant}
use Rattle.vs_entries.specs.Queries.{statement_of}
use Rattle.vs_log.specs.Table.{Rules, ◌>>=◌}

-- the set that was read, or what the refusal of its body says of the event
abbrev pub base_of : Result Position GtidRefusal → Result Position Why
base_of (Ok set) = Ok set
base_of (Err refusal.TooManyIntervals) = Err TooManyIntervals
base_of (Err other) = Err (BadEvent 35)

-- what the refusal of a body says of its event, which is of this kind
abbrev pub why_of : ℕ → RowRefusal → Why
why_of kind (row.UnknownTableId id) = why.UnknownTableId id
why_of kind (row.UnknownTable table) = why.UnknownTable table
why_of kind (row.Disagrees table) = why.Disagrees table
why_of kind (row.NotFullImage table) = why.NotFullImage table
why_of kind (row.BadRow table) = why.BadRow table
why_of kind row.BadBody = BadEvent kind
why_of kind row.Memory = BadEvent kind

abbrev pub or_why : {A : Type 0} → ℕ → Result A RowRefusal → Result A Why
or_why kind (Ok x) = Ok x
or_why kind (Err refusal) = Err (why_of kind refusal)

-- what counts of a rows event: the changes of the keyspace's tables, and the keyspace's journals that are inserted
abbrev pub counted_of : List ℕ → RowsOf → Result (List Counted) Why
counted_of keyspace (told.Changes changes) = Ok (map Changed changes)
counted_of keyspace told.Passed = Ok []
counted_of keyspace (told.Journal changes) = journals_meant (journal_texts keyspace changes) >>= λ journals. Ok (map Journaled journals)

-- what counts of a rows event of this kind, whose body says this
abbrev pub counted_by : List ℕ → ℕ → Result RowsOf RowRefusal → Result (List Counted) Why
counted_by keyspace kind said = or_why kind said >>= counted_of keyspace

-- how the log of a shard of the keyspace is read, under this schema
abbrev pub rules_of : List ℕ → Schema → Rules Tables
rules_of keyspace schema = record {
  no_tables = [];
  statement = statement_of keyspace;
  block = λ body. base_of (block_of body);
  map = λ maps body. or_why 19 (with_map keyspace schema maps body);
  rows = λ maps kind body. counted_by keyspace kind (rows_meant maps kind body);
}
