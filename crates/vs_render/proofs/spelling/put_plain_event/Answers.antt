use Rattle.std.proofs.Common.{rules, pos}
use Rattle.vs_render.specs.Events.{head_of}
use Rattle.vs_render.proofs.EventLemmas.{plain_put}
use Rattle.vs_render.proofs.spelling.put_plain_event.Goals as goal

pub returns : goal.returns
returns c =
    plain_put (head_of c.args.name.now c.args.time) (pos c.args.kind) c.args.out.now.items c.put_start.new.out.items c.put_end.new.out.items c.enclose.new.out.items c.len-start.result
    (search rules) c.in_ok-put_start.ensures c.in_ok-put_end.ensures c.in_ok-enclose.ensures
