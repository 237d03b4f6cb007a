-- A frame is what is spelled of its events, with the vector put in.
use Rattle.std.proofs.Common.{◌≡◌, List, [], ◌∷◌, ◌++◌, map, ap, sym, ◌∙◌}
use Rattle.vs_base.specs.Frames.{framed}
use Rattle.vs_gtid.specs.Vectors.{Vector}
use Rattle.vs_proto.specs.Frames as proto
use Rattle.vs_render.specs.Bodies.{frame_with, rendered}
use Rattle.vs_render.specs.Events.{EventHead, Saying, VectorAfter, Commits, chunk_said, closing_said, event_of, head_of}
use Rattle.vs_render.specs.Frames.{fronts_said}
use Rattle.vs_render.specs.Groups.{at_last}
use Rattle.vs_render.specs.Spelling.{said_bytes}
use Rattle.vs_render.proofs.BodyLemmas.{said_append}
use Rattle.vs_lane.specs.Spelled.{EntriesMakeFrames, RowsMakeFrames}

spelled : (h : EventHead) (v : Vector) (closing : Saying) (fronts : List (List Saying)) →
    frame_with h v (rendered h fronts closing) ≡ proto.frame_bytes (map (map (event_of h)) (at_last (VectorAfter v ∷ (closing ∷ [])) fronts))
spelled h v closing [] = ap (λ b. framed b ++ []) (sym (said_append h (VectorAfter v ∷ []) (closing ∷ [])))
spelled h v closing (said ∷ []) =
    ap (λ b. framed b ++ [])
    (sym (said_append h said (VectorAfter v ∷ (closing ∷ [])) ∙ ap (λ b. said_bytes h said ++ b) (said_append h (VectorAfter v ∷ []) (closing ∷ []))))
spelled h v closing (said ∷ next ∷ fronts) = ap (λ b. framed (said_bytes h said) ++ b) (spelled h v closing (next ∷ fronts))

pub entries_spelled : EntriesMakeFrames
entries_spelled t s e v = spelled (head_of s e.time) v (closing_said e.work) (fronts_said (head_of s e.time) (t.fields s) e.work)

pub rows_spelled : RowsMakeFrames
rows_spelled t s table rows time v = spelled (head_of s time) v Commits (chunk_said (t.fields s) table rows ∷ [])
