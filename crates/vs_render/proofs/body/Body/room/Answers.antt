use Rattle.std.proofs.Common.{ap, ◌∙◌, sym, List, ℕ, ◌++◌, ◌∷◌, [], take, drop}
use Rattle.vs_pool.specs.Buffers.{Buffer}
use Rattle.vs_render.specs.Bodies.{HeldBody, body_bytes, buffer_of}
use Rattle.vs_render.proofs.RoomLemmas.{body_is}
use Rattle.vs_render.proofs.body.Body.room.Goals as goal

pub returns-clause-buf : goal.returns-clause-buf
returns-clause-buf c =
    ap (buffer c.self.inside.room.buf.size) (c.self.invariant.1 ∙ ap (λ (bs : List ℕ). take c.self.inside.room.buf.size bs) (sym (body_is (c.self.inside.earlier.items ++ c.self.inside.last ∷ []) (c.self.inside.room.buf.bytes ++ c.self.inside.room.rest.items))))
    ∙ ap (λ (h : HeldBody). buffer_of h.size (body_bytes h.body)) c.self.view_is
  where
    buffer : ℕ → List ℕ → Buffer
    buffer size bytes = record { size = size; bytes = bytes }

pub returns-clause-rest : goal.returns-clause-rest
returns-clause-rest c =
    c.self.invariant.2 ∙ ap (λ (bs : List ℕ). drop c.self.inside.room.buf.size bs) (sym (body_is (c.self.inside.earlier.items ++ c.self.inside.last ∷ []) (c.self.inside.room.buf.bytes ++ c.self.inside.room.rest.items))) ∙ ap (λ (h : HeldBody). drop h.size (body_bytes h.body)) c.self.view_is
