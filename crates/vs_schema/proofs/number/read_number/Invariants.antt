use Rattle.std.proofs.Common.{◌≡◌, ◌≤◌, drop}
use Rattle.vs_schema.specs.Kinds.{number_from}
use Rattle.vs_schema.proofs.number.read_number.Given as goal

-- the number so far, up to the limit, and the digits that are left
abbrev pub invariant-loop-digit : goal.invariant-loop-digit
invariant-loop-digit l = record {
  small : l.number ≤ l.limit;
  same : number_from l.number (drop l.digit-index l.text) ≡ number_from 0 l.text;
}
