-- What is said of lists of pieces.
use Rattle.std.specs.Prelude.{◌≡◌, ℕ, Bool, true, false, List, [], ◌∷◌}
use Rattle.vs_schema.specs.declared.schema.Schema.{Schema}
use Rattle.vs_filter.specs.declared.bound.Bound.{Bound}
use Rattle.vs_filter.specs.Picks.{bound_in}
use Rattle.vs_model.specs.Copy as copy
use Rattle.vs_render.specs.Bodies.{columns_in}
use Rattle.vs_render.specs.Posted.{BodySpelling, spelled_by}
use Rattle.vs_render.specs.declared.piece.Piece.{Piece}
use Rattle.vs_render.specs.declared.piece.Piece.TheVariants.{Tx, Foreign, Chunk, CopyDone, Idle, End}
use Rattle.vs_render.specs.declared.piece.EndCause.{EndCause}

-- what a filter that was bound to a schema means
abbrev pub meant_in : Bound → Schema → copy.Bound
meant_in bound schema = bound_in bound.tables schema.tables

-- what bodies spell under it
abbrev pub spelled_in : Bound → BodySpelling
spelled_in bound = spelled_by (λ s. columns_in bound.tables)

abbrev pub is_end : Piece → Bool
is_end (End cause room) = true
is_end piece = false

-- an End is the last of the pieces; the first says whether there is one
abbrev pub EndIsLast : Bool → List Piece → Type 0
EndIsLast ended [] = ended ≡ false
EndIsLast ended (End cause room ∷ ps) = (ended ≡ true) × (ps ≡ [])
EndIsLast ended (Tx gtid time body ∷ ps) = EndIsLast ended ps
EndIsLast ended (Foreign gtid time journal body ∷ ps) = EndIsLast ended ps
EndIsLast ended (Chunk position last time body ∷ ps) = EndIsLast ended ps
EndIsLast ended (CopyDone position time room ∷ ps) = EndIsLast ended ps
EndIsLast ended (Idle room ∷ ps) = EndIsLast ended ps

-- P holds of the cause of the pieces' End, where there is one
abbrev pub OnEnd : (EndCause → Type 0) → List Piece → Type 0
OnEnd P [] = Unit {0}
OnEnd P (End cause room ∷ ps) = P cause
OnEnd P (Tx gtid time body ∷ ps) = OnEnd P ps
OnEnd P (Foreign gtid time journal body ∷ ps) = OnEnd P ps
OnEnd P (Chunk position last time body ∷ ps) = OnEnd P ps
OnEnd P (CopyDone position time room ∷ ps) = OnEnd P ps
OnEnd P (Idle room ∷ ps) = OnEnd P ps

-- the size of the buffer that the piece carries
abbrev pub buffer_size : Piece → ℕ
buffer_size (Tx gtid time body) = body.size
buffer_size (Foreign gtid time journal body) = body.size
buffer_size (Chunk position last time body) = body.size
buffer_size (CopyDone position time room) = room.buf.size
buffer_size (Idle room) = room.buf.size
buffer_size (End cause room) = room.buf.size
