use Rattle.vs_proto.proofs.SpellingLemmas.{headed}
use Rattle.vs_proto.proofs.head.put_bytes.Goals as goal

pub returns : goal.returns
returns c = rw (headed c.args.field c.args.bytes.now c.args.out.now c.put.new.self c.len-before.result c.in_ok-put.ensures c.len-before.ensures) at c.put_head.ensures
