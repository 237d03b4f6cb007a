use Rattle.std.proofs.Common.{arith, length, ap}
use Rattle.vs_wire.proofs.VarintLemmas.{varint-last, varint-more, varint-len}
use Rattle.vs_wire.proofs.varint.varint_len.Goals as goal

pub overflow_add-len : goal.overflow_add-len
overflow_add-len c = omega (arith, varint-len c.args.n (omega arith), c.loop-rest.invariant)

pub loop-rest-preserved : goal.loop-rest-preserved
loop-rest-preserved c = omega (arith, ap length (varint-more c.loop-rest.rest (omega arith) (omega arith)))

pub returns : goal.returns
returns c = omega (arith, ap length (varint-last c.loop-rest.rest (omega arith)))
