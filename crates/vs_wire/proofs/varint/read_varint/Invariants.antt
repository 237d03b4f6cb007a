use Rattle.vs_wire.proofs.GroupLemmas.{IsReadTo}
use Rattle.vs_wire.proofs.varint.read_varint.Given as goal

-- the groups so far are read, and each of them said that another follows
abbrev pub invariant-loop-i : goal.invariant-loop-i
invariant-loop-i l = IsReadTo l.bytes l.i l.low l.weight
