use Rattle.std.proofs.Common.{arith}
use Rattle.vs_wire.proofs.VarintLemmas.{varint-last, varint-more}
use Rattle.vs_proto.proofs.head.+put_varint.Goals as goal

pub returns-then-n-lt128 : goal.returns-then-n-lt128
returns-then-n-lt128 t c = rw (varint-last c.args.n c.if-n-lt128.true) c.push.ensures

pub returns : goal.returns
returns t c =
    let high = c.if-n-lt128.false in
    let small = c.ranges.n.fits in
    rw (varint-more c.args.n (omega arith) (omega arith)) (rw c.in_ok-put_varint.ensures at c.push-2.ensures)
