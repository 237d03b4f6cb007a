-- How many bytes less than an event has.
use Rattle.std.proofs.Common.{◌≤◌, ◌<◌, ◌+◌, ◌-◌, ◌++◌, ℕ, List, length, drop, length-append, length-drop, arith}
use Rattle.std.specs.Prelude.{◌⊎◌}
use Rattle.vs_log.specs.Events.{IsPart, limit}
use Rattle.vs_entries.specs.Laws.{BoundsParts}

part_below : (bytes : List ℕ) (at : ℕ) → IsPart (drop at bytes) → length bytes - at < limit
part_below bytes at (◌⊎◌.inl cut) = omega (arith, cut, length-drop at bytes)
part_below bytes at (◌⊎◌.inr p) = omega (arith, p.0, p.1, length-drop at bytes)

part_fed : (bytes piece : List ℕ) (at later : ℕ) → IsPart (drop at bytes) → at ≤ later → length piece ≤ 65536 → length (bytes ++ piece) - later < limit + 65536
part_fed bytes piece at later p h l = omega (arith, part_below bytes at p, h, l, length-append bytes piece)

pub bounds_parts : BoundsParts
bounds_parts = record { below = part_below; fed = part_fed }
