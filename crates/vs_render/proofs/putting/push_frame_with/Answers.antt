use Rattle.std.proofs.Common.{arith, ◌≡◌, ◌++◌, ◌+◌, ◌≤◌, [], ◌∷◌, ap, ◌∙◌, length, ℕ, List}
use Rattle.std.specs.List.{flat_map}
use Rattle.vs_base.specs.Frames.{framed}
use Rattle.vs_proto.specs.Frames.{events_bytes}
use Rattle.vs_render.specs.Groups.{at_last}
use Rattle.vs_render.specs.Events.{head_of, vector_event}
use Rattle.vs_render.specs.Bodies.{HeldBody, total_length}
use Rattle.vs_render.proofs.RoomLemmas.{put_together, total_last}
use Rattle.vs_render.proofs.putting.push_frame_with.Goals as goal

pub push_earlier-requires : goal.push_earlier-requires
push_earlier-requires c =
    let all : total_length (c.body.inside.earlier.items ++ c.body.inside.last ∷ []) ≤ length (c.body.inside.room.buf.bytes ++ c.body.inside.room.rest.items) = c.body.invariant.0 in
    let parts : total_length (c.body.inside.earlier.items ++ c.body.inside.last ∷ []) ≡ total_length c.body.inside.earlier.items + c.body.inside.last = total_last c.body.inside.earlier.items c.body.inside.last in
    let same : total_length c.as_slice.result.now ≡ total_length c.body.inside.earlier.items = ap total_length c.as_slice.ensures.value in
    let fits : total_length c.as_slice.result.now ≤ length (c.body.inside.room.buf.bytes ++ c.body.inside.room.rest.items) = omega arith in
    record { within = fits }

pub push_last-requires : goal.push_last-requires
push_last-requires c =
    let all : total_length (c.body.inside.earlier.items ++ c.body.inside.last ∷ []) ≤ length (c.body.inside.room.buf.bytes ++ c.body.inside.room.rest.items) = c.body.invariant.0 in
    let parts : total_length (c.body.inside.earlier.items ++ c.body.inside.last ∷ []) ≡ total_length c.body.inside.earlier.items + c.body.inside.last = total_last c.body.inside.earlier.items c.body.inside.last in
    let same : total_length c.as_slice.result.now ≡ total_length c.body.inside.earlier.items = ap total_length c.as_slice.ensures.value in
    let there : c.in_ok-place.place ≡ total_length c.as_slice.result.now = c.in_ok-place.ensures.place in
    let fits : c.in_ok-place.place + c.body.inside.last ≤ length (c.body.inside.room.buf.bytes ++ c.body.inside.room.rest.items) = omega arith in
    record { within = fits }

pub returns-clause-ok : goal.returns-clause-ok
returns-clause-ok c =
    put_together c.args.out.now.items c.push_earlier.new.out.items c.push_last.new.out.items (c.body.inside.room.buf.bytes ++ c.body.inside.room.rest.items) c.body.inside.earlier.items c.as_slice.result.now c.body.inside.last c.in_ok-place.place
    (events_bytes (vector_event (head_of c.args.name.now c.args.time) c.args.vgtid.now ∷ [])) c.as_slice-2.result.now
    c.as_slice.ensures.value c.in_ok-place.ensures.place c.in_ok-place.ensures.ok
    (c.as_slice-2.ensures.value ∙ c.in_ok-put_vector.ensures ∙ ap (λ (xs : List ℕ). xs ++ events_bytes (vector_event (head_of c.args.name.now c.args.time) c.args.vgtid.now ∷ [])) c.new-vector.ensures.items) c.in_ok-push_last.ensures.ok
    ∙ ap (λ (h : HeldBody). c.args.out.now.items ++ flat_map framed (at_last (events_bytes (vector_event (head_of c.args.name.now c.args.time) c.args.vgtid.now ∷ []) ++ h.body.closing) h.body.fronts)) c.body.view_is
