-- What is written of journals is read again.
use Rattle.std.specs.Prelude.{◌≡◌, ℕ, List, Ok}
use Rattle.vs_journal.specs.Judgement.{PlainJournal, journal_said}
use Rattle.vs_journal.specs.Texts.{journal_text}

-- the text that is written of a journal that some text says, says that journal
abbrev pub WrittenIsRead : Type 0
WrittenIsRead = (text : List ℕ) (j : PlainJournal) → journal_said text ≡ Ok j → journal_said (journal_text j) ≡ Ok j
