-- Runs of the core, the newest event first; what was taken of each lane; and what the law says of a run.
use Rattle.std.specs.Prelude.{◌≡◌, ℕ, Bool, false, List, [], ◌∷◌, ◌++◌, Some, length, nat_eq, if◌then◌else◌}
use Rattle.std.specs.List.{AllZip}
use Rattle.vs_base.specs.declared.ShardName.{ShardName}
use Rattle.vs_gtid.specs.Vectors.{Vector, Place, Copies, place_of}
use Rattle.vs_model.specs.Logs.{Cluster}
use Rattle.vs_model.specs.Copy.{Filter}
use Rattle.vs_model.specs.Frames.{Frame, last_vector}
use Rattle.vs_model.specs.Frames.Frame.{Tx as TxFrame, Chunk as ChunkFrame, CopyDone as CopyDoneFrame, Switch as SwitchFrame, Halt as HaltFrame, AllCopied as AllCopiedFrame, Beat as BeatFrame}
use Rattle.vs_model.specs.Legal.{Legal, NoneCopies}
use Rattle.vs_model.specs.Core.{HasAllCopied}
use Rattle.vs_request.specs.declared.request.Flags.{Flags}
use Rattle.vs_render.specs.Posted.{ArePosted, BodySpelling}
use Rattle.vs_render.specs.declared.piece.Piece.{Piece}
use Rattle.vs_core.specs.Machine.{CoreState, CoreEvent, Sent, Goes, initial}
use Rattle.vs_core.specs.Machine.CoreEvent.{Begin, Take, Turn, Beat}
use Rattle.vs_core.specs.Machine.Sent.{SentBody, SentCopyDone, SentSwitch, SentHalt, SentAllCopied, SentBeat}

-- a run from a vector: its events, the newest first, and all that it sent
pub data StreamRun (v0 : Vector) (flags : Flags) (until_end : Bool) : List CoreEvent → List Sent → CoreState → Type 0 where
  starts : StreamRun v0 flags until_end [] [] (initial v0 flags until_end)
  goes_on : {events : List CoreEvent} {sent more : List Sent} {s new : CoreState} {e : CoreEvent} →
      StreamRun v0 flags until_end events sent s → Goes s e more new → StreamRun v0 flags until_end (e ∷ events) (sent ++ more) new

abbrev pub takes_of : ℕ → CoreEvent → List Piece
takes_of k (Begin name) = []
takes_of k (Take lane piece) = if nat_eq lane k then piece ∷ [] else []
takes_of k Turn = []
takes_of k (Beat now) = []

-- what was taken of a lane
abbrev pub pieces_taken : ℕ → List CoreEvent → List Piece
pieces_taken k [] = []
pieces_taken k (e ∷ events) = pieces_taken k events ++ takes_of k e

-- each lane of the run posted what its log lets it, from the vector's entry at its beginning
abbrev pub ArePostedFrom : BodySpelling → Cluster → Filter → (more : ℕ → List Piece) → {v0 : Vector} {flags : Flags} {until_end : Bool} {events : List CoreEvent} {sent : List Sent} {s : CoreState} →
    StreamRun v0 flags until_end events sent s → Type 0
ArePostedFrom spells cluster rules more starts = Unit {0}
ArePostedFrom spells cluster rules more (goes_on {s = s} {e = Begin name} run step) =
    ((place : Place) → place_of s.vector name ≡ Some place → ArePosted spells cluster rules name place (more (length s.names))) × ArePostedFrom spells cluster rules more run
ArePostedFrom spells cluster rules more (goes_on {e = Take k piece} run step) = ArePostedFrom spells cluster rules more run
ArePostedFrom spells cluster rules more (goes_on {e = Turn} run step) = ArePostedFrom spells cluster rules more run
ArePostedFrom spells cluster rules more (goes_on {e = Beat now} run step) = ArePostedFrom spells cluster rules more run

-- what was sent is the frame
abbrev pub IsSentFrame : BodySpelling → Sent → Frame → Type 0
IsSentFrame spells (SentBody s time body v) (TxFrame t e w) = (s ≡ t) × (v ≡ w) × (e.time ≡ time) × (spells.entry s e ≡ body)
IsSentFrame spells (SentBody s time body v) (ChunkFrame t table rows at w) = (s ≡ t) × (v ≡ w) × (at ≡ time) × (spells.rows s table rows time ≡ body)
IsSentFrame spells (SentCopyDone s time v) (CopyDoneFrame t at w) = (s ≡ t) × (at ≡ time) × (v ≡ w)
IsSentFrame spells (SentSwitch j v) (SwitchFrame k w) = (j ≡ k) × (v ≡ w)
IsSentFrame spells (SentHalt j v) (HaltFrame k w) = (j ≡ k) × (v ≡ w)
IsSentFrame spells SentAllCopied AllCopiedFrame = Unit {0}
IsSentFrame spells (SentBeat now) (BeatFrame at) = now ≡ at
IsSentFrame spells sent f = ⊥

-- What a run sent: legal frames, of which the core's vector is the last one; and where a shard copied and none does any more, the end of
-- all copies stands behind the last end of a copy, unless it is due.
pub record IsLegalStream (spells : BodySpelling) (cluster : Cluster) (rules : Filter) (v0 : Vector) (sent : List Sent) (s : CoreState) : Type 0 where
  pub frames : List Frame
  pub sent_as : AllZip (IsSentFrame spells) sent frames
  pub legal : Legal cluster rules v0 frames
  pub last : last_vector v0 frames ≡ s.vector
  pub all_copied : (name : ShardName) (place : Place) → Copies v0 name place → NoneCopies s.vector → s.all_copied ≡ false → HasAllCopied frames
