-- The pieces that the lane of a shard may give, and what each of them is in the stream.
use Rattle.std.specs.Prelude.{◌≡◌, Bool, false, not, ℕ, List, [], ◌∷◌, ◌++◌, map, Option, Some, None, IfSome}
use Rattle.std.specs.List.{list_any, AllByRecursion}
use Rattle.std.specs.Option.{option_map_or}
use Rattle.vs_base.specs.declared.ShardName.{ShardName}
use Rattle.vs_base.specs.declared.LastKey.{LastKey}
use Rattle.vs_gtid.specs.declared.JournalValue.{JournalValue}
use Rattle.vs_gtid.specs.declared.Entry.{Entry}
use Rattle.vs_model.specs.Names.{Position, IsSubset, SameSet}
use Rattle.vs_model.specs.Logs.{Image, Log, journal_of, stop, IsPositionAfter}
use Rattle.vs_gtid.specs.Vectors.{Vector, Place, IsCanonicalPlace, place_of, names, is_copy}
use Rattle.vs_gtid.specs.Vectors.Place.{Fresh, Copying, Streaming}
use Rattle.vs_model.specs.Frames.{Frame}
use Rattle.vs_model.specs.Frames.Frame.{Tx, Chunk, CopyDone, AllCopied}
use Rattle.vs_model.specs.Copy.{Bound, IsChunk, IsCopyDone, IsCopiedTx}
use Rattle.vs_model.specs.Legal.{NoParticipantStands}
use Rattle.vs_model.specs.Steps.{AreFirstDue}

-- what a lane gives: a transaction, some rows of a copy with the place after them, or the end of a copy
pub data Piece : Type 0 where
  Transaction : (told : Entry) → Piece
  CopiedRows : (table : List ℕ) (rows : List Image) (time : ℕ) (position : Position) (last : LastKey) → Piece
  CopyEnd : (time : ℕ) (position : Position) → Piece

-- the place of a shard after a piece of its lane
abbrev pub PlaceAfter : Place → Piece → Place → Type 0
PlaceAfter Fresh (Transaction told) new = ⊥
PlaceAfter (Copying p l) (Transaction told) new = (q : Position) × IsPositionAfter p (told ∷ []) q × (new ≡ Copying q l)
PlaceAfter (Streaming p) (Transaction told) new = (q : Position) × IsPositionAfter p (told ∷ []) q × (new ≡ Streaming q)
PlaceAfter old (CopiedRows table rows time q l) new = new ≡ Copying q l
PlaceAfter old (CopyEnd time q) new = new ≡ Streaming q

-- the piece goes on with a copy from its place, and leads it to another one
abbrev pub IsOfCopy : Bound → ShardName → Log → Place → Piece → Place → Type 0
IsOfCopy bound s log (Copying p l) (Transaction told) new = IsCopiedTx bound s log p l told (Some new)
IsOfCopy bound s log old (CopiedRows table rows time q l) new = IsChunk bound s log old table rows time (Some new) × (new ≡ Copying q l)
IsOfCopy bound s log old (CopyEnd time q) new = IsCopyDone bound s log old time (Some new) × (new ≡ Streaming q)
IsOfCopy bound s log old piece new = ⊥

-- Pieces from a position: the transactions of the first entries that are due there; and where a journal ends them, all of them, and it is the journal ahead.
pub record AreStreamed (bound : Bound) (s : ShardName) (log : Log) (p : Position) (pieces : List Piece) (last : Option JournalValue) : Type 0 where
  pub told : List Entry
  pub are : pieces ≡ map Transaction told
  pub due_ones : AreFirstDue bound s log p told
  pub own : IfSome last (λ j. (due_ones.rest ≡ []) × (stop s log p ≡ Some j))

-- What a lane may give from a place, and the journal that ends it: what goes on with its copy, and behind the end of the copy what streams.
abbrev pub AreGiven : Bound → ShardName → Log → List Piece → Option JournalValue → Place → Type 0
AreGiven bound s log pieces last (Streaming p) = AreStreamed bound s log p pieces last
AreGiven bound s log [] last place = last ≡ None
AreGiven bound s log (piece ∷ pieces) last place =
    (new : Place) × IsCanonicalPlace new × IsOfCopy bound s log place piece new × AreGiven bound s log pieces last new

-- the base of the log lies in the place, which for a copy is the empty set
abbrev pub HasBase : Log → Place → Type 0
HasBase log Fresh = SameSet log.base []
HasBase log (Copying p l) = SameSet log.base []
HasBase log (Streaming p) = IsSubset log.base p

abbrev pub copies_in : Vector → ShardName → Bool
copies_in v s = option_map_or is_copy (place_of v s) false

abbrev pub some_copies : Vector → Bool
some_copies v = list_any (copies_in v) (names v)

-- the end of all copies is due after the end of a copy, where no shard copies
abbrev pub ends_copies : Piece → Vector → Bool
ends_copies (Transaction told) v = false
ends_copies (CopiedRows table rows time q l) v = false
ends_copies (CopyEnd time q) v = not (some_copies v)

-- the frame of a piece, with the vector after it
abbrev pub frame_of : ShardName → Piece → Vector → Frame
frame_of s (Transaction told) v = Tx s told v
frame_of s (CopiedRows table rows time q l) v = Chunk s table rows time v
frame_of s (CopyEnd time q) v = CopyDone s time v

-- where the piece is a journal of other shards, none of these stands in the vector
abbrev pub IsNoStranger : ShardName → Vector → Piece → Type 0
IsNoStranger s v (Transaction told) = IfSome (journal_of told.work) (NoParticipantStands s v)
IsNoStranger s v (CopiedRows table rows time q l) = Unit {0}
IsNoStranger s v (CopyEnd time q) = Unit {0}

-- the end of all copies was sent, and no end of a copy after it
abbrev pub IsNoCopyDone : Frame → Type 0
IsNoCopyDone (CopyDone s time v) = ⊥
IsNoCopyDone f = Unit {0}

abbrev pub HasAllCopied : List Frame → Type 0
HasAllCopied fs = (before : List Frame) × (behind : List Frame) × (fs ≡ before ++ AllCopied ∷ behind) × AllByRecursion IsNoCopyDone behind
