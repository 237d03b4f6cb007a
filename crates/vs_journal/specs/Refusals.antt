-- When a text is refused.
use Rattle.std.specs.Prelude.{◌≡◌, ℕ, Bool, true, false, Result, Ok, Err}
use Rattle.vs_gtid.specs.declared.journal.JournalValue.{JournalValue}
use Rattle.vs_gtid.specs.declared.refusal.GtidRefusal.{GtidRefusal}
use Rattle.vs_gtid.specs.declared.refusal.GtidRefusal.TheVariants as gtid_refusal
use Rattle.vs_journal.specs.Judgement.{PlainJournal, plain_journal}
use Rattle.vs_journal.specs.declared.parsed.ParsedJournal.{ParsedJournal}
use Rattle.vs_journal.specs.declared.refusal.JournalRefusal.{JournalRefusal}
use Rattle.vs_journal.specs.declared.refusal.JournalRefusal.TheVariants.{BadJournal, RepeatedParticipant, RepeatedSuccessor, TooManyNames, Memory}

-- what a refusal says of what is read; want of memory says nothing
abbrev pub IsRefusal : Result PlainJournal JournalRefusal → JournalRefusal → Type 0
IsRefusal said (BadJournal at) = said ≡ Err (BadJournal at)
IsRefusal said RepeatedParticipant = said ≡ Err RepeatedParticipant
IsRefusal said RepeatedSuccessor = said ≡ Err RepeatedSuccessor
IsRefusal said TooManyNames = said ≡ Err TooManyNames
IsRefusal said Memory = Unit {0}

-- the journal that is made is the one that is said, or the refusal says why none is
abbrev pub IsJudged : Result PlainJournal JournalRefusal → Result JournalValue JournalRefusal → Type 0
IsJudged said (Ok j) = said ≡ Ok (plain_journal j)
IsJudged said (Err e) = IsRefusal said e

-- what a refusal says of a text's form
abbrev pub IsUnparsed : Result ParsedJournal ℕ → JournalRefusal → Type 0
IsUnparsed parsed (BadJournal at) = parsed ≡ Err at
IsUnparsed parsed RepeatedParticipant = ⊥
IsUnparsed parsed RepeatedSuccessor = ⊥
IsUnparsed parsed TooManyNames = ⊥
IsUnparsed parsed Memory = Unit {0}

-- whether a set wasn't read for want of memory
abbrev pub is_want_of_memory : GtidRefusal → Bool
is_want_of_memory gtid_refusal.Memory = true
is_want_of_memory other = false
