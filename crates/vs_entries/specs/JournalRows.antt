-- The journals of the keyspace that rows of the table of journals insert: their texts, and what these say.
use Rattle.std.specs.Prelude.{◌≡◌, ℕ, if◌then◌else◌, List, [], ◌∷◌, length, Option, Some, None, Result, Ok, Err, refl}
use Rattle.vs_base.specs.declared.cell.Cell.{Cell}
use Rattle.vs_base.specs.declared.cell.Cell.TheVariants.{Bytes}
use Rattle.vs_base.specs.declared.change.Change.{Change}
use Rattle.vs_base.specs.declared.Why.{Why}
use Rattle.vs_base.specs.declared.Why.TheVariants as why
use Rattle.vs_gtid.specs.declared.journal.JournalValue.{JournalValue}
use Rattle.vs_schema.specs.Kinds.{same}
use Rattle.vs_rows.specs.Tables.{schema_of}
use Rattle.vs_journal.specs.Judgement.{PlainJournal, journal_said}
use Rattle.vs_journal.specs.declared.refusal.JournalRefusal.{JournalRefusal}
use Rattle.vs_journal.specs.declared.refusal.JournalRefusal.TheVariants as refusal
use Rattle.vs_journal.proofs.ValueLaws.{journals_are_values}
use Rattle.vs_log.specs.Table.{◌>>=◌}

-- ---- what a text says

-- what is wrong with a text of so many bytes that is refused so
abbrev pub journal_why : ℕ → JournalRefusal → Why
journal_why size (refusal.BadJournal at) = why.BadJournal at
journal_why size other = why.BadJournal size

-- what comes of a text that says this, and how it comes to say it
abbrev pub journal_by : (text : List ℕ) (result : Result PlainJournal JournalRefusal) → journal_said text ≡ result → Result JournalValue Why
journal_by text (Ok j) said = Ok (journals_are_values.some text j said).0
journal_by text (Err refused) said = Err (journal_why (length text) refused)

-- the journal that a text says, or what is wrong with it
unfoldable pub journal_meant : List ℕ → Result JournalValue Why
journal_meant text = journal_by text (journal_said text) refl

-- the journals that the texts say, or what is wrong with the first that says none
abbrev pub journals_meant : List (List ℕ) → Result (List JournalValue) Why
journals_meant [] = Ok []
journals_meant (text ∷ texts) = journal_meant text >>= λ j. journals_meant texts >>= λ js. Ok (j ∷ js)

-- ---- the rows

-- the text of a row of the table of journals, if it is of the keyspace: its db_name is `vt_` and the keyspace
abbrev pub text_in : List ℕ → List Cell → Option (List ℕ)
text_in keyspace (id ∷ (Bytes name ∷ (Bytes text ∷ more))) = if same name (schema_of keyspace) then Some text else None
text_in keyspace cells = None

-- the text that a change inserts; a delete and an update insert none
abbrev pub inserted : List ℕ → Option (List Cell) → Option (List Cell) → Option (List ℕ)
inserted keyspace None (Some row) = text_in keyspace row
inserted keyspace before after = None

abbrev pub journal_text : List ℕ → Change → Option (List ℕ)
journal_text keyspace change = inserted keyspace change.before change.after

abbrev pub with_text : Option (List ℕ) → List (List ℕ) → List (List ℕ)
with_text None texts = texts
with_text (Some text) texts = text ∷ texts

-- the texts of the keyspace's journals that the changes insert, in order
abbrev pub journal_texts : List ℕ → List Change → List (List ℕ)
journal_texts keyspace [] = []
journal_texts keyspace (c ∷ changes) = with_text (journal_text keyspace c) (journal_texts keyspace changes)
