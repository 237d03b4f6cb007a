use Rattle.std.proofs.Common.{sym}
use Rattle.vs_proto.specs.Kinds.{packed_bytes}
use Rattle.vs_proto.proofs.SpellingLemmas.{headed, packed_values}
use Rattle.vs_proto.proofs.packed.put_sint64s.Goals as goal

pub returns : goal.returns
returns c =
    rw (sym c.as_slice-numbers.ensures, packed_values c.args.field c.as_slice-numbers.result.now c.if-is_empty.ensures)
    (rw (headed c.args.field (packed_bytes c.as_slice-numbers.result.now) c.args.out.now c.put_numbers.new.out c.len-before.result c.in_ok-put_numbers.ensures c.len-before.ensures) at c.put_head.ensures)
