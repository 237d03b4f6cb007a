-- The rooms of pieces, which are handed back.
use Rattle.std.specs.Prelude.{◌≡◌, ℕ, List, [], ◌∷◌, Option, Some, None, drop}
use Rattle.vs_render.specs.Bodies.{HeldBody, body_bytes, buffer_of}
use Rattle.vs_render.specs.declared.room.Room.{Room}
use Rattle.vs_render.specs.declared.piece.Piece.{Piece}
use Rattle.vs_render.specs.declared.piece.Piece.TheVariants as piece

-- the room of a body
abbrev pub IsRoomOf : HeldBody → Room → Type 0
IsRoomOf body room = (room.buf ≡ buffer_of body.size (body_bytes body.body)) × (room.rest.items ≡ drop body.size (body_bytes body.body))

-- the room that a piece was written in
abbrev pub IsPieceRoom : Piece → Room → Type 0
IsPieceRoom (piece.Tx g time body) room = IsRoomOf body room
IsPieceRoom (piece.Foreign g time j body) room = IsRoomOf body room
IsPieceRoom (piece.Chunk q l time body) room = IsRoomOf body room
IsPieceRoom (piece.CopyDone q time r) room = room ≡ r
IsPieceRoom (piece.Idle r) room = room ≡ r
IsPieceRoom (piece.End cause r) room = room ≡ r

-- the front of what was held is let go, and its lane and its room are given; none where nothing is held
abbrev pub GivesRoom : List (ℕ × Piece) → List (ℕ × Piece) → Option (ℕ × Room) → Type 0
GivesRoom old new None = (old ≡ []) × (new ≡ [])
GivesRoom old new (Some given) = (p : Piece) × (old ≡ (given.0, p) ∷ new) × IsPieceRoom p given.1
