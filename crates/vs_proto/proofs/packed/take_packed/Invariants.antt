use Rattle.std.proofs.Common.{◌≡◌, ◌+◌, ◌-◌, ◌≤◌, length, drop}
use Rattle.vs_wire.specs.Fields.{sized}
use Rattle.vs_proto.specs.Kinds.{numbers_in, take_packed, with_numbers}
use Rattle.vs_proto.proofs.packed.take_packed.Given as goal

-- The numbers still to come, behind those that were taken, give the whole. No more were taken than there were bytes.
abbrev pub invariant-loop-at : goal.invariant-loop-at
invariant-loop-at l =
    record {
      within : l.at ≤ length l.bytes;
      begun : length l.fn.slot ≤ length l.slot;
      few : length l.slot ≤ length l.fn.slot + l.at;
      same : with_numbers l.slot (numbers_in (length l.bytes + length l.fn.slot - length l.slot) l.at (drop l.at l.bytes)) ≡ take_packed l.fn.slot (sized l.bytes);
    }

abbrev pub decreases-loop-at : goal.decreases-loop-at
decreases-loop-at l = length l.bytes - l.at
