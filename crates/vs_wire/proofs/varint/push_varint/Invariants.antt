use Rattle.std.proofs.Common.{◌≡◌, ◌++◌, ℕ, List}
use Rattle.vs_wire.specs.Varint.{varint}
use Rattle.vs_wire.proofs.varint.push_varint.Given as goal

-- what was pushed, and the spelling of the rest, are the spelling of the number
abbrev pub invariant-loop-rest : goal.invariant-loop-rest
invariant-loop-rest l =
    (s : List ℕ) × (l.out.items ≡ l.fn.out.items ++ s) × (s ++ varint l.rest ≡ varint l.n)

abbrev pub decreases-loop-rest : goal.decreases-loop-rest
decreases-loop-rest l = l.rest
