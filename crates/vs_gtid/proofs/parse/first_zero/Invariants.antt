use Rattle.std.proofs.Common.{◌≡◌, drop}
use Rattle.vs_gtid.specs.Readings.{first_place, zero_at}
use Rattle.vs_gtid.proofs.parse.first_zero.Given as goal

-- what comes first in the rest comes first in all
abbrev pub invariant-loop-span : goal.invariant-loop-span
invariant-loop-span l = first_place zero_at (drop l.span-index l.spans) ≡ first_place zero_at l.spans
