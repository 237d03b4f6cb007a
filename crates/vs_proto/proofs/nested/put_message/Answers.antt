use Rattle.vs_proto.proofs.SpellingLemmas.{spelling_before}
use Rattle.vs_proto.proofs.nested.put_message.Goals as goal

pub returns : goal.returns
returns g c = rw (spelling_before g.M.Message.shape c.args.message.now c.args.out.now) at c.put.ensures
