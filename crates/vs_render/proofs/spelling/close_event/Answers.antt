use Rattle.std.proofs.Common.{List, ℕ, refl}
use Rattle.vs_wire.specs.Fields.{field_bytes, sized}
use Rattle.vs_render.specs.Events.{head_of}
use Rattle.vs_render.proofs.EventLemmas.{closed_put}
use Rattle.vs_render.proofs.spelling.close_event.Goals as goal

pub returns : goal.returns
returns c = λ front message kind is at within.
    closed_put (head_of c.args.name.now c.args.time) kind front message (field_bytes c.args.field (sized message)) c.args.out.now.items c.enclose.new.out.items c.put_end.new.out.items c.enclose-2.new.out.items c.args.start c.args.inside (λ (bs : List ℕ). field_bytes c.args.field (sized bs)) refl
    is at within c.in_ok-enclose.ensures c.in_ok-put_end.ensures c.in_ok-enclose-2.ensures
