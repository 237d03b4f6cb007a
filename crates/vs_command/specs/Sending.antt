-- The frames of a shard's entries, from a position on, and what was written of them.
use Rattle.std.specs.Prelude.{◌≡◌, ◌≢◌, ◌<◌, ℕ, length, not, List, [], ◌∷◌, ◌++◌, Some, Result, Ok, Err, OnOk}
use Rattle.std.specs.List.{filter}
use Rattle.vs_base.specs.Limits.{most_intervals}
use Rattle.vs_base.specs.declared.ShardName.{ShardName}
use Rattle.vs_base.specs.declared.Gtid.{Gtid}
use Rattle.vs_gtid.specs.declared.Entry.{Entry}
use Rattle.vs_gtid.specs.Positions.{Position, has, IsCanonical}
use Rattle.vs_gtid.specs.Joins.{added}
use Rattle.vs_outside.specs.Told.{IsPrefixOf}
use Rattle.vs_log.specs.Laws.{FitAlong}
use Rattle.vs_gtid.specs.Vectors.{Vector}
use Rattle.vs_gtid.specs.Vectors.Place.{Streaming}
use Rattle.vs_filter.specs.Picks.{bound_in}
use Rattle.vs_filter.specs.declared.bound.Picked.{Picked}
use Rattle.vs_model.specs.Copy.{picked}
use Rattle.vs_model.specs.Frames.{Frame}
use Rattle.vs_render.specs.Bodies.{entry_body, frame_with}
use Rattle.vs_render.specs.Events.{head_of}
use Rattle.vs_model.specs.Frames.Frame.{Tx}
use Rattle.vs_command.specs.declared.sending.SendEnd.{SendEnd}
use Rattle.vs_command.specs.declared.sending.SendEnd.TheVariants.{Memory, LinkFault, PositionTooLarge, TooLarge}
use Rattle.vs_command.specs.Sizes.{IsNextOversized, IsOversizedAt, first_oversized, sendable_front}

-- the vector of the one shard
abbrev pub vector_at : ShardName → Position → Vector
vector_at s p = (s, Streaming p) ∷ []

-- the entries that a position lacks
abbrev pub lacking : Position → List Entry → List Entry
lacking p entries = filter (λ e. not (has p e.gtid)) entries

-- the position with the GTIDs of the entries
abbrev pub position_after : Position → List Entry → Position
position_after p [] = p
position_after p (e ∷ es) = position_after (added p e.gtid) es

-- the frame of the next entry, as the picked tables have it, with the vector after it
abbrev pub next_frame : List Picked → ShardName → Position → Entry → Frame
next_frame tables s p e = Tx s (picked (bound_in tables []) e) (vector_at s (added p e.gtid))

-- a frame for each entry
abbrev pub entry_frames : List Picked → ShardName → Position → List Entry → List Frame
entry_frames tables s p [] = []
entry_frames tables s p (e ∷ es) = next_frame tables s p e ∷ entry_frames tables s (added p e.gtid) es

-- the bytes of the next frame: the body of the entry, with the vector after it
unfoldable pub entry_bytes : List Picked → ShardName → Position → Entry → List ℕ
entry_bytes tables s p e = frame_with (head_of s e.time) (vector_at s (added p e.gtid)) (entry_body tables s e)

-- the bytes of the frames of entries, one after the other
abbrev pub entries_bytes : List Picked → ShardName → Position → List Entry → List ℕ
entries_bytes tables s p [] = []
entries_bytes tables s p (e ∷ es) = entry_bytes tables s p e ++ entries_bytes tables s (added p e.gtid) es

-- the position after each entry is spelled in the one way
abbrev pub IsCanonicalAlong : Position → List Entry → Type 0
IsCanonicalAlong p [] = Unit {0}
IsCanonicalAlong p (e ∷ es) = IsCanonical (added p e.gtid) × IsCanonicalAlong (added p e.gtid) es

-- what was written as a frame of these bytes was to be sent, which adds the GTID to the position
abbrev pub IsSentAs : List ℕ → Position → Gtid → Result (Unit {0}) SendEnd → List ℕ → Type 0
IsSentAs bytes p g (Ok x) w = (w ≡ bytes) × IsCanonical (added p g)
IsSentAs bytes p g (Err LinkFault) w = IsPrefixOf w bytes × IsCanonical (added p g)
IsSentAs bytes p g (Err Memory) w = w ≡ []
IsSentAs bytes p g (Err PositionTooLarge) w = (w ≡ []) × (most_intervals < length (added p g))
IsSentAs bytes p g (Err (TooLarge at size)) w = ⊥

-- what was written as the frame of an entry was to be sent
abbrev pub IsSent : List Picked → ShardName → Position → Entry → Result (Unit {0}) SendEnd → List ℕ → Type 0
IsSent tables s p e result w = IsSentAs (entry_bytes tables s p e) p e.gtid result w

-- the position with the next GTID has over 1,024 intervals
abbrev pub IsNextTooLarge : Position → List Entry → Type 0
IsNextTooLarge p [] = ⊥
IsNextTooLarge p (e ∷ rest) = most_intervals < length (added p e.gtid)

-- one of the entries makes a position of over 1,024 intervals, behind those before it
abbrev pub IsTooLargeAlong : Position → List Entry → Type 0
IsTooLargeAlong p entries = (sent rest : List Entry) × (entries ≡ sent ++ rest) × IsNextTooLarge (position_after p sent) rest

-- the first entry that can't be sent stands at this place and is so large, and those before it make no position that is too large
abbrev pub StopsAtOversized : (Gtid → ℕ → Type 0) → List Picked → ShardName → Position → List Entry → ℕ → ℕ → Type 0
StopsAtOversized stands tables s p entries at bytes =
    (e : Entry) × (first_oversized tables s entries ≡ Some e) × IsOversizedAt stands tables s e at bytes × FitAlong p (sendable_front tables s entries)

-- What was written as the frames of entries were to be sent: those of the first entries, and where the link failed a beginning of them.
-- `stands` says where the GTID events of the entries stand.
pub record AreSent (stands : Gtid → ℕ → Type 0) (tables : List Picked) (s : ShardName) (p : Position) (entries : List Entry) (result : Result (Unit {0}) SendEnd) (w : List ℕ) : Type 0 where
  pub sent : List Entry
  pub rest : List Entry
  pub are : entries ≡ sent ++ rest
  pub canonical : IsCanonicalAlong p sent
  pub prefix : IsPrefixOf w (entries_bytes tables s p sent)
  pub whole : result ≢ Err LinkFault → w ≡ entries_bytes tables s p sent
  pub all : OnOk result (rest ≡ [])
  pub large : result ≡ Err PositionTooLarge → IsNextTooLarge (position_after p sent) rest
  pub oversized : (at bytes : ℕ) → result ≡ Err (TooLarge at bytes) → IsNextOversized stands tables s rest at bytes
