use Rattle.std.proofs.Common.{rules, ◌≡◌, ◌++◌, List, ℕ, length, ap, ◌∙◌, append_assoc}
use Rattle.vs_proto.specs.Shapes.{spelling}
use Rattle.vs_proto.specs.Tables.{vgtid}
use Rattle.std.specs.Prelude.{true}
use Rattle.vs_proto.specs.declared.event_kind.TheConstants.{VGTID}
use Rattle.vs_render.specs.Events.{head_of}
use Rattle.vs_render.specs.Spelling.{event_start}
use Rattle.vs_render.proofs.EventLemmas.{vector_put}
use Rattle.vs_render.proofs.spelling.put_vector.Goals as goal

pub returns : goal.returns
returns c =
    let inside : c.len-inside.result ≡ length c.put_start.new.out.items = search rules in
    vector_put (head_of c.args.name.now c.args.time) c.args.vgtid.now c.close_event.new.out.items c.args.out.now.items
    (c.in_ok-close_event.ensures c.args.out.now.items (spelling (vgtid true) c.args.vgtid.now) VGTID
    (c.in_ok-write_vgtid.ensures.ok ∙ ap (λ (bs : List ℕ). bs ++ spelling (vgtid true) c.args.vgtid.now) c.in_ok-put_start.ensures ∙ append_assoc c.args.out.now.items (event_start (head_of c.args.name.now c.args.time) VGTID) (spelling (vgtid true) c.args.vgtid.now))
    (search rules) (inside ∙ ap (λ (bs : List ℕ). length bs) c.in_ok-put_start.ensures))
