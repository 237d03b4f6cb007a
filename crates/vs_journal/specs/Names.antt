-- The judgement of a text in form, as a relation: the names of a journal are those that its text says, ascending, each once.
use Rattle.std.specs.Prelude.{◌≡◌, ◌≢◌, ◌≤◌, ◌⊎◌, ℕ, ℤ, Bool, true, false, List, [], ◌∷◌, length, map, Result, Ok, Err}
use Rattle.std.specs.List.{AllPairs}
use Rattle.std.specs.List.Sorted.{IsPermutation, IsStrictlySortedBy}
use Rattle.std.specs.declared.cmp.Ordering.{Ordering}
use Rattle.vs_gtid.specs.Positions.{Position}
use Rattle.vs_gtid.specs.Readings.{ReadsSet}
use Rattle.vs_gtid.specs.declared.journal.JournalValue.{JournalValue}
use Rattle.vs_outside.specs.Names.{is_keyspace_text, is_shard_text}
use Rattle.vs_journal.specs.Judgement.{PlainJournal, PlainName, judged_journal, plain_cmp, plain_journal}
use Rattle.vs_journal.specs.Productions.{IsJournalText, IsNoJournalFrom}
use Rattle.vs_journal.specs.declared.parsed.Member.{Member}
use Rattle.vs_journal.specs.declared.parsed.ParsedJournal.{ParsedJournal}
use Rattle.vs_journal.specs.declared.refusal.JournalRefusal.{JournalRefusal}
use Rattle.vs_journal.specs.declared.refusal.JournalRefusal.TheVariants.{BadJournal, RepeatedParticipant, RepeatedSuccessor, TooManyNames, Memory}

-- ---- what members say

-- each of the first list has its own of the second, in order
abbrev pub AreEach : {A B : Type 0} → (A → B → Type 0) → List A → List B → Type 0
AreEach R [] [] = Unit {0}
AreEach R [] (y ∷ ys) = ⊥
AreEach R (x ∷ xs) [] = ⊥
AreEach R (x ∷ xs) (y ∷ ys) = R x y × AreEach R xs ys

-- the member's name, which is lawful
abbrev pub IsNameOf : Member → PlainName → Type 0
IsNameOf m n = (n ≡ (m.keyspace, m.shard)) × (is_keyspace_text m.keyspace ≡ true) × (is_shard_text m.shard ≡ true)

-- its name, and its position, which isn't left out
abbrev pub IsSuccessorOf : Member → PlainName × Position → Type 0
IsSuccessorOf m s = IsNameOf m s.0 × (m.gtid ≢ []) × ReadsSet m.gtid (Ok s.1)

-- the names and positions that the members say, some of each
pub record AreNamed (j : ParsedJournal) (participants : List PlainName) (successors : List (PlainName × Position)) : Type 0 where
  pub some : participants ≢ []
  pub some_successors : successors ≢ []
  pub are : AreEach IsNameOf j.participants participants
  pub are_successors : AreEach IsSuccessorOf j.successors successors

-- ---- order

abbrev pub StandApart : List PlainName → Type 0
StandApart names = AllPairs (λ a b. a ≢ b) names

abbrev pub names_of : List (PlainName × Position) → List PlainName
names_of successors = map (λ s. s.0) successors

abbrev pub successor_cmp : PlainName × Position → PlainName × Position → Ordering
successor_cmp a b = plain_cmp a.0 b.0

-- the same elements, ascending, so that none comes twice
pub record AreInOrder {X : Type 0} (cmp : X → X → Ordering) (said ordered : List X) : Type 0 where
  pub same : IsPermutation said ordered
  pub ascend : IsStrictlySortedBy cmp ordered

-- ---- judgement

abbrev pub AreFew : List PlainName → List (PlainName × Position) → Type 0
AreFew participants successors = (length participants ≤ 64) × (length successors ≤ 64)

-- What comes of names and positions: their journal, or why there is none. A repeated participant comes before a repeated successor, and that before too many.
abbrev pub IsJudgedSo : ℤ → List PlainName → List (PlainName × Position) → Result PlainJournal JournalRefusal → Type 0
IsJudgedSo id participants successors (Ok j) = (j.id ≡ id) × (j.shards ≡ true) × AreInOrder plain_cmp participants j.participants × AreInOrder successor_cmp successors j.successors × AreFew participants successors
IsJudgedSo id participants successors (Err RepeatedParticipant) = ¬ StandApart participants
IsJudgedSo id participants successors (Err RepeatedSuccessor) = StandApart participants × (¬ StandApart (names_of successors))
IsJudgedSo id participants successors (Err TooManyNames) = StandApart participants × StandApart (names_of successors) × (¬ AreFew participants successors)
IsJudgedSo id participants successors (Err (BadJournal at)) = ⊥
IsJudgedSo id participants successors (Err Memory) = ⊥

-- a journal of tables has no names, whatever its text says of them
abbrev pub tables_journal : ℤ → PlainJournal
tables_journal id = record { id = id; shards = false; participants = []; successors = [] }

-- what comes of a text in form of so many bytes
unfoldable pub IsJudgement : ℕ → ParsedJournal → Result PlainJournal JournalRefusal → Type 0
IsJudgement size j result =
    ((j.shards ≡ false) × (result ≡ Ok (tables_journal j.id)))
    ⊎ (((j.shards ≡ true) × ((participants : List PlainName) (successors : List (PlainName × Position)) → ¬ AreNamed j participants successors) × (result ≡ Err (BadJournal size)))
    ⊎ ((participants : List PlainName) × (successors : List (PlainName × Position)) × (j.shards ≡ true) × AreNamed j participants successors × IsJudgedSo j.id participants successors result))

-- the function that judges keeps to the relation, and nothing else does
pub record JudgementsAreNames : Type 0 where
  pub is : (size : ℕ) (j : ParsedJournal) → IsJudgement size j (judged_journal size j)
  pub alone : (size : ℕ) (j : ParsedJournal) (result : Result PlainJournal JournalRefusal) → IsJudgement size j result → judged_journal size j ≡ result

-- ---- whole texts

-- what a text says, by the productions and this relation
unfoldable pub IsSaid : List ℕ → Result PlainJournal JournalRefusal → Type 0
IsSaid text result =
    ((j : ParsedJournal) × IsJournalText text j × IsJudgement (length text) j result)
    ⊎ ((at : ℕ) × IsNoJournalFrom text at × (result ≡ Err (BadJournal at)))

-- what is read of a text; want of memory says nothing of it
abbrev pub IsReading : List ℕ → Result JournalValue JournalRefusal → Type 0
IsReading text (Ok j) = IsSaid text (Ok (plain_journal j))
IsReading text (Err (BadJournal at)) = IsSaid text (Err (BadJournal at))
IsReading text (Err RepeatedParticipant) = IsSaid text (Err RepeatedParticipant)
IsReading text (Err RepeatedSuccessor) = IsSaid text (Err RepeatedSuccessor)
IsReading text (Err TooManyNames) = IsSaid text (Err TooManyNames)
IsReading text (Err Memory) = Unit {0}
