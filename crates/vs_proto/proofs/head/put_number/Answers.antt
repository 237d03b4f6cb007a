use Rattle.vs_proto.proofs.SpellingLemmas.{number_before}
use Rattle.vs_proto.proofs.head.put_number.Goals as goal

pub returns : goal.returns
returns c = rw (c.in_ok-put_varint.ensures, number_before c.args.field c.args.n c.args.out.now) at c.put_varint-2.ensures
