use Rattle.std.proofs.Common.{◌≡◌, drop}
use Rattle.vs_gtid.specs.Readings.{first_place, over_at}
use Rattle.vs_gtid.proofs.parse.first_over.Given as goal

-- what comes first in the rest comes first in all
abbrev pub invariant-loop-span : goal.invariant-loop-span
invariant-loop-span l = first_place over_at (drop l.span-index l.spans) ≡ first_place over_at l.spans
