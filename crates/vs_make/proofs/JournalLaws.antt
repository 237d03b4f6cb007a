-- A journal that is written behind a whole log is its next entry.
use Rattle.std.proofs.Common.{◌≡◌, ◌∙◌, ℕ, List, [], ◌∷◌, Some, None, Ok, map, refl, ap, inl, arith, cond}
use Rattle.std.specs.Prelude.{codes}
use Rattle.std.proofs.lemmas.Slice.Eq.{bytes_eq-Decides}
use Rattle.vs_entries.specs.JournalRows.{journal_meant, journal_text, journals_meant, with_text}
use Rattle.vs_entries.specs.Rules.{counted_by, counted_of}
use Rattle.vs_entries.proofs.JournalValues.{meant_as_read}
use Rattle.vs_gtid.specs.declared.JournalValue.{JournalValue}
use Rattle.vs_gtid.specs.declared.Work.TheVariants as work
use Rattle.vs_journal.specs.Judgement.{journal_said, plain_journal}
use Rattle.vs_journal.specs.Texts as texts
use Rattle.vs_journal.proofs.WrittenLaws.{written_is_read}
use Rattle.vs_log.specs.States.Counted.{Journaled}
use Rattle.vs_log.specs.Table.{◌>>=◌}
use Rattle.vs_rows.specs.Tables.{journal_name, schema_of}
use Rattle.vs_rows.specs.declared.outcome.RowsOf.TheVariants as told
use Rattle.vs_make.specs.Journals.{WritesJournals, journal_row}
use Rattle.vs_make.specs.Rows.{inserted}
use Rattle.vs_make.proofs.RowLaws.{transaction_written}

-- the row inserts its text, for a shard of its own keyspace
text_inserted : (keyspace : List ℕ) (j : JournalValue) → journal_text keyspace (inserted journal_name (journal_row keyspace (plain_journal j))) ≡ Some (texts.journal_text (plain_journal j))
text_inserted keyspace j = ap (λ b. cond b (Some (texts.journal_text (plain_journal j))) None) ((bytes_eq-Decides (schema_of keyspace) (schema_of keyspace)).1 refl)

text_meant : (j : JournalValue) (text : List ℕ) → journal_said text ≡ Ok (plain_journal j) → journal_meant (texts.journal_text (plain_journal j)) ≡ Ok j
text_meant j text said = meant_as_read (texts.journal_text (plain_journal j)) j (written_is_read text (plain_journal j) said)

row_counted : (keyspace : List ℕ) (j : JournalValue) (text : List ℕ) → journal_said text ≡ Ok (plain_journal j) → counted_of keyspace (told.Journal (inserted journal_name (journal_row keyspace (plain_journal j)) ∷ [])) ≡ Ok (Journaled j ∷ [])
row_counted keyspace j text said =
    ap (λ o. journals_meant (with_text o []) >>= λ js. Ok (map Journaled js)) (text_inserted keyspace j)
    ∙ ap (λ m. (m >>= λ i. Ok (i ∷ [])) >>= λ js. Ok (map Journaled js)) (text_meant j text said)

pub writes_journals : WritesJournals
writes_journals keyspace tables bytes after base entries g j text time log said written room early =
    let tells = written.3 in
    transaction_written keyspace tables bytes after base entries g (codes "_vt") time 30 written.0 written.1 tells.maps (Journaled j ∷ []) (work.Journal j) log (inl refl) written.2 (omega arith) refl
    (tells.known tables) (ap (counted_by keyspace 30) tells.told ∙ row_counted keyspace j text said) refl room early
