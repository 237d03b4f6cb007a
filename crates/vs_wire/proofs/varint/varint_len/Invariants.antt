use Rattle.std.proofs.Common.{◌+◌, ◌≡◌, length}
use Rattle.vs_wire.specs.Varint.{varint}
use Rattle.vs_wire.proofs.varint.varint_len.Given as goal

-- the groups so far, and those of the rest, are the number's
abbrev pub invariant-loop-rest : goal.invariant-loop-rest
invariant-loop-rest l = l.len + length (varint l.rest) ≡ length (varint l.n) + 1

abbrev pub decreases-loop-rest : goal.decreases-loop-rest
decreases-loop-rest l = l.rest
