-- What each journal keeps.
use Rattle.std.specs.Prelude.{◌≡◌, ◌≤◌, ℕ, List, length, map, Some, Ok}
use Rattle.std.specs.List.{slice_get}
use Rattle.vs_base.specs.declared.shard_name.ShardName.{ShardName}
use Rattle.vs_gtid.specs.declared.journal.JournalValue.{JournalValue}
use Rattle.vs_journal.specs.Judgement.{PlainJournal, journal_said, plain_journal}

abbrev pub participant_names : JournalValue → List ShardName
participant_names j = j.participants

abbrev pub successor_names : JournalValue → List ShardName
successor_names j = map (λ s. s.name) j.successors

-- no name stands at two places
abbrev pub StandOnce : List ShardName → Type 0
StandOnce names = (name : ShardName) (i k : ℕ) → slice_get names i ≡ Some name → slice_get names k ≡ Some name → i ≡ k

-- there are at most 64 participants, and as many successors
abbrev pub HasFewNames : JournalValue → Type 0
HasFewNames j = (length j.participants ≤ 64) × (length j.successors ≤ 64)

-- A journal that a text says is that of a value; and no two values have one journal.
pub record JournalsAreValues : Type 0 where
  pub some : (text : List ℕ) (j : PlainJournal) → journal_said text ≡ Ok j → (value : JournalValue) × (plain_journal value ≡ j)
  pub alone : (a b : JournalValue) → plain_journal a ≡ plain_journal b → a ≡ b
