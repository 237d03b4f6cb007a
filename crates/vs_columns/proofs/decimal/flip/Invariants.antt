use Rattle.std.proofs.Common.{◌≡◌, ◌≤◌, ◌<◌, ◌-◌, ℕ, get_or}
use Rattle.vs_columns.proofs.decimal.flip.Given as goal

-- the bytes so far are flipped, and the others stand as they stood
abbrev pub invariant-loop-byte : goal.invariant-loop-byte
invariant-loop-byte l =
    ((k : ℕ) → k < l.byte-index → get_or l.bytes k 0 ≡ 255 - get_or l.fn.bytes k 0)
    × ((k : ℕ) → l.byte-index ≤ k → get_or l.bytes k 0 ≡ get_or l.fn.bytes k 0)
