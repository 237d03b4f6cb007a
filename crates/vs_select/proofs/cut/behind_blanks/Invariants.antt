use Rattle.std.proofs.Common.{◌≡◌, ◌≤◌, ◌+◌, ◌-◌, length, drop}
use Rattle.std.specs.List.{prefix_len}
use Rattle.vs_select.specs.Parts.{is_blank}
use Rattle.vs_select.proofs.cut.behind_blanks.Given as goal

-- the bytes so far pass, so what is left decides
abbrev pub invariant-loop-count : goal.invariant-loop-count
invariant-loop-count l = record {
  within : l.count ≤ length l.text;
  same : prefix_len is_blank l.text ≡ l.count + prefix_len is_blank (drop l.count l.text);
}

abbrev pub decreases-loop-count : goal.decreases-loop-count
decreases-loop-count l = length l.text - l.count
