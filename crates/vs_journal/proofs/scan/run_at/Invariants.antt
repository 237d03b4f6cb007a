use Rattle.std.proofs.Common.{◌≡◌, ◌≤◌, ◌+◌, ◌-◌, length, drop}
use Rattle.std.specs.List.{prefix_len}
use Rattle.vs_journal.specs.Tokens.{is_identifier_byte}
use Rattle.vs_journal.proofs.scan.run_at.Given as goal

-- the bytes so far pass, so what is left decides
abbrev pub invariant-loop-count : goal.invariant-loop-count
invariant-loop-count l = record {
  within : l.count ≤ length l.text;
  same : prefix_len is_identifier_byte l.text ≡ l.count + prefix_len is_identifier_byte (drop l.count l.text);
}

abbrev pub decreases-loop-count : goal.decreases-loop-count
decreases-loop-count l = length l.text - l.count
