-- What a turn's answer tells, and what it owes.
use Rattle.std.specs.Prelude.{◌≡◌, ◌⊎◌, ℕ, Bool, List, [], ◌∷◌, ◌++◌, Option, Some, None, Result, Ok, Err, if◌then◌else◌}
use Rattle.vs_gather.specs.Gathering.{AreWaiting}
use Rattle.vs_render.specs.declared.room.Room.{Room}
use Rattle.vs_render.specs.declared.piece.Piece.{Piece}
use Rattle.vs_core.specs.declared.turn.Turn.{Turn}
use Rattle.vs_core.specs.declared.turn.Turn.TheVariants as turn
use Rattle.vs_core.specs.declared.handled.Handled.{Handled}
use Rattle.vs_core.specs.declared.handled.Handled.TheVariants as handled
use Rattle.vs_core.specs.declared.refusal.CoreRefusal.{CoreRefusal}
use Rattle.vs_core.specs.declared.refusal.CoreRefusal.TheVariants.{Memory}
use Rattle.vs_core.specs.Choices.{held_of}
use Rattle.vs_core.specs.Rooms.{IsPieceRoom}
use Rattle.vs_core.specs.Machine.{CoreState, TurnTold, Turned, chosen_lane}
use Rattle.vs_core.specs.Machine.Turned.{Went, Refused}
use Rattle.vs_core.specs.Machine.TurnTold.{Frame, Switched, Halted, AllCopied, Arrives, Ended, Idled, Restart, Nothing, Done, Stuck}
use Rattle.vs_core.specs.Spelling.{stream_bytes}

-- the answer tells this, but for its room
abbrev pub TellsTurn : Turn → TurnTold → Type 0
TellsTurn (turn.Frame lane room) (Frame k) = lane ≡ k
TellsTurn (turn.Switched lane room retired started) (Switched k leaving coming) = (lane ≡ k) × (retired.items ≡ leaving) × (started.items ≡ coming)
TellsTurn (turn.Halted lane room id) (Halted k journal) = (lane ≡ k) × (id ≡ journal)
TellsTurn turn.AllCopied AllCopied = Unit {0}
TellsTurn (turn.Arrived lane room) (Arrives k) = lane ≡ k
TellsTurn (turn.Ended lane room) (Ended k) = lane ≡ k
TellsTurn (turn.Idled lane room) (Idled k) = lane ≡ k
TellsTurn (turn.Restart lane name room) (Restart k shard) = (lane ≡ k) × (name ≡ shard)
TellsTurn turn.Nothing Nothing = Unit {0}
TellsTurn turn.Done Done = Unit {0}
TellsTurn (turn.Stuck ids) (Stuck kept) = AreWaiting ids.items kept
TellsTurn t told = ⊥

-- the turn went so: this is the core now, and behind the bytes before stand those of what was sent
abbrev pub WentSo : Bool → Turned → CoreState → Turn → List ℕ → List ℕ → Type 0
WentSo journals (Went new sent told) now t before behind = (now ≡ new) × TellsTurn t told × (behind ≡ before ++ stream_bytes journals sent)
WentSo journals (Refused e) now t before behind = ⊥

-- The turn is made, and its frame written; or nothing changes, for the reason that there is, or for want of memory.
abbrev pub IsTurned : Turned → CoreState → CoreState → List ℕ → List ℕ → Result Turn CoreRefusal → Type 0
IsTurned turned old new before behind (Ok t) = WentSo old.flags.include_journals turned new t before behind
IsTurned turned old new before behind (Err e) = (new ≡ old) × (behind ≡ before) × ((e ≡ Memory) ⊎ (turned ≡ Refused e))

-- ---- rooms

-- the answer hands back the room of the piece
abbrev pub BringsRoom : Piece → Turn → Type 0
BringsRoom p (turn.Frame lane room) = IsPieceRoom p room
BringsRoom p (turn.Switched lane room retired started) = IsPieceRoom p room
BringsRoom p (turn.Halted lane room id) = IsPieceRoom p room
BringsRoom p (turn.Arrived lane room) = IsPieceRoom p room
BringsRoom p (turn.Ended lane room) = IsPieceRoom p room
BringsRoom p (turn.Idled lane room) = IsPieceRoom p room
BringsRoom p (turn.Restart lane name room) = IsPieceRoom p room
BringsRoom p turn.AllCopied = ⊥
BringsRoom p turn.Nothing = ⊥
BringsRoom p turn.Done = ⊥
BringsRoom p (turn.Stuck ids) = ⊥

abbrev pub first_piece : List Piece → Option Piece
first_piece [] = None
first_piece (p ∷ pieces) = Some p

abbrev pub lane_piece : CoreState → Option ℕ → Option Piece
lane_piece s None = None
lane_piece s (Some k) = first_piece (held_of k s.held)

-- the piece that a turn handles
abbrev pub next_piece : CoreState → Option Piece
next_piece s = if s.all_copied then None else lane_piece s (chosen_lane s)

abbrev pub RoomIsBack : Option Piece → Turn → Type 0
RoomIsBack None t = Unit {0}
RoomIsBack (Some p) t = BringsRoom p t

-- ---- a piece's turn, before its room is taken

-- the answer of what was done for a piece of the lane, with the piece's room
abbrev pub turn_with : ℕ → Handled → Room → Turn
turn_with lane handled.Frame room = turn.Frame lane room
turn_with lane (handled.Switched retired started) room = turn.Switched lane room retired started
turn_with lane (handled.Halted id) room = turn.Halted lane room id
turn_with lane handled.Arrived room = turn.Arrived lane room
turn_with lane handled.Ended room = turn.Ended lane room
turn_with lane handled.Idled room = turn.Idled lane room
turn_with lane (handled.Restart name) room = turn.Restart lane name room

abbrev pub HandledSo : Bool → Turned → CoreState → ℕ → Handled → List ℕ → List ℕ → Type 0
HandledSo journals (Went new sent told) now lane h before behind =
    (now ≡ new) × ((room : Room) → TellsTurn (turn_with lane h room) told) × (behind ≡ before ++ stream_bytes journals sent)
HandledSo journals (Refused e) now lane h before behind = ⊥

-- the same as of a turn, of what is done for a piece of the lane
abbrev pub IsHandled : ℕ → Turned → CoreState → CoreState → List ℕ → List ℕ → Result Handled CoreRefusal → Type 0
IsHandled lane turned old new before behind (Ok h) = HandledSo old.flags.include_journals turned new lane h before behind
IsHandled lane turned old new before behind (Err e) = (new ≡ old) × (behind ≡ before) × ((e ≡ Memory) ⊎ (turned ≡ Refused e))

-- a turn that changes nothing and sends nothing
abbrev pub IsRested : Turned → CoreState → Result Turn CoreRefusal → Type 0
IsRested turned s (Ok t) = (told : TurnTold) × (turned ≡ Went s [] told) × TellsTurn t told × ((p : Option Piece) → p ≡ None → RoomIsBack p t)
IsRested turned s (Err e) = e ≡ Memory
