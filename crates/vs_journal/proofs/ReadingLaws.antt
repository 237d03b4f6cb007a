-- What is read of a text is what the productions and the relation on names say of it.
use Rattle.std.proofs.Common.{◌≡◌, ℕ, List, Result, Ok, Err, length, refl, ap, sym, subst, inl, inr}
use Rattle.vs_gtid.specs.declared.journal.JournalValue.{JournalValue}
use Rattle.vs_journal.specs.Grammar.{parsed_journal}
use Rattle.vs_journal.specs.Judgement.{PlainJournal, in_form, journal_said}
use Rattle.vs_journal.specs.Names.{IsJudgement, IsReading, IsSaid}
use Rattle.vs_journal.specs.Refusals.{IsJudged, IsUnparsed}
use Rattle.vs_journal.specs.declared.parsed.ParsedJournal.{ParsedJournal}
use Rattle.vs_journal.specs.declared.refusal.JournalRefusal.{JournalRefusal}
use Rattle.vs_journal.specs.declared.refusal.JournalRefusal.TheVariants.{BadJournal, RepeatedParticipant, RepeatedSuccessor, TooManyNames, Memory}
use Rattle.vs_journal.proofs.NameLaws.{judgements_are_names}
use Rattle.vs_journal.proofs.TextLaws.{journals_are_productions}

said_is : (text : List ℕ) → IsSaid text (journal_said text)
unfolding IsSaid
said_is text = go (parsed_journal text) refl
  where
    go : (r : Result ParsedJournal ℕ) → parsed_journal text ≡ r → IsSaid text (journal_said text)
    go (Ok j) e =
        let judged : IsJudgement (length text) j (journal_said text) = subst (IsJudgement (length text) j) (sym (ap (in_form (length text)) e)) (judgements_are_names.is (length text) j) in
        inl (j, journals_are_productions.some text j e, judged)
    go (Err at) e = inr (at, journals_are_productions.place text at e, ap (in_form (length text)) e)

said_so : (text : List ℕ) (r : Result PlainJournal JournalRefusal) → journal_said text ≡ r → IsSaid text r
said_so text r e = subst (IsSaid text) e (said_is text)

pub reading_is : (text : List ℕ) (r : Result JournalValue JournalRefusal) → IsJudged (journal_said text) r → IsReading text r
reading_is text (Ok j) h = said_so text _ h
reading_is text (Err (BadJournal at)) h = said_so text _ h
reading_is text (Err RepeatedParticipant) h = said_so text _ h
reading_is text (Err RepeatedSuccessor) h = said_so text _ h
reading_is text (Err TooManyNames) h = said_so text _ h
reading_is text (Err Memory) h = tt

-- what is read of a text in form
pub judged_reading : (text : List ℕ) (j : ParsedJournal) (r : Result JournalValue JournalRefusal) → parsed_journal text ≡ Ok j → IsJudged (in_form (length text) (Ok j)) r → IsReading text r
judged_reading text j r e h = reading_is text r (subst (λ p. IsJudged (in_form (length text) p) r) (sym e) h)

-- and of one that isn't
pub unparsed_reading : (text : List ℕ) (e : JournalRefusal) → IsUnparsed (parsed_journal text) e → IsReading text (Err e)
unparsed_reading text (BadJournal at) h = said_so text _ (ap (in_form (length text)) h)
unparsed_reading text RepeatedParticipant h = absurd h
unparsed_reading text RepeatedSuccessor h = absurd h
unparsed_reading text TooManyNames h = absurd h
unparsed_reading text Memory h = tt
