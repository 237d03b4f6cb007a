-- A text means the journal that is read of it.
use Rattle.std.proofs.Common.{◌≡◌, ℕ, List, Result, Ok, Err, length, refl, ap, ◌∙◌}
use Rattle.vs_gtid.specs.declared.journal.JournalValue.{JournalValue}
use Rattle.vs_journal.specs.Judgement.{PlainJournal, journal_said, plain_journal}
use Rattle.vs_journal.specs.Refusals.{IsRefusal}
use Rattle.vs_journal.specs.declared.refusal.JournalRefusal.{JournalRefusal}
use Rattle.vs_journal.specs.declared.refusal.JournalRefusal.TheVariants as refusal
use Rattle.vs_journal.proofs.ValueLaws.{journals_are_values}
use Rattle.vs_entries.specs.Reading.{Answers, journal_refusal_of}
use Rattle.vs_entries.specs.JournalRows.{journal_by, journal_meant, journal_why}

by_value : (text : List ℕ) (value : JournalValue) (r : Result PlainJournal JournalRefusal) (said : journal_said text ≡ r) → r ≡ Ok (plain_journal value) → journal_by text r said ≡ Ok value
by_value text value (Ok j) said e =
    let same : j ≡ plain_journal value = cc in
    let made = journals_are_values.some text j said in
    ap Ok (journals_are_values.alone made.0 value (made.1 ∙ same))
by_value text value (Err refused) said e = absurd (cc)

-- a text means the journal that was read of it
pub meant_as_read : (text : List ℕ) (j : JournalValue) → journal_said text ≡ Ok (plain_journal j) → journal_meant text ≡ Ok j
unfolding journal_meant
meant_as_read text j said = by_value text j (journal_said text) refl said

by_refusal : (text : List ℕ) (e : JournalRefusal) (r : Result PlainJournal JournalRefusal) (said : journal_said text ≡ r) → r ≡ Err e → journal_by text r said ≡ Err (journal_why (length text) e)
by_refusal text e (Ok j) said is = absurd (cc)
by_refusal text e (Err refused) said is = (let same : refused ≡ e = cc in ap (λ f. Err (journal_why (length text) f)) same)

meant_as_said : (text : List ℕ) (e : JournalRefusal) → journal_said text ≡ Err e → journal_meant text ≡ Err (journal_why (length text) e)
unfolding journal_meant
meant_as_said text e said = by_refusal text e (journal_said text) refl said

-- a text that is refused means no journal
pub meant_as_refused : (text : List ℕ) (e : JournalRefusal) → IsRefusal (journal_said text) e → Answers {A = JournalValue} (Err (journal_refusal_of (length text) e)) (journal_meant text)
meant_as_refused text (refusal.BadJournal at) said = meant_as_said text (refusal.BadJournal at) said
meant_as_refused text refusal.RepeatedParticipant said = meant_as_said text refusal.RepeatedParticipant said
meant_as_refused text refusal.RepeatedSuccessor said = meant_as_said text refusal.RepeatedSuccessor said
meant_as_refused text refusal.TooManyNames said = meant_as_said text refusal.TooManyNames said
meant_as_refused text refusal.Memory said = tt
