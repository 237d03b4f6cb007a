use Rattle.vs_proto.specs.Shapes.{spelling}
use Rattle.vs_proto.proofs.SpellingLemmas.{headed}
use Rattle.vs_proto.proofs.nested.put_sized.Goals as goal

pub returns : goal.returns
returns g c = rw (headed c.args.field (spelling g.M.Message.shape c.args.message.now) c.args.out.now c.put_message.new.out c.len-before.result c.in_ok-put_message.ensures c.len-before.ensures) at c.put_head.ensures
