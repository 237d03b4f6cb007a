use Rattle.std.proofs.Common.{◌≡◌, ◌≤◌, ℕ, length}
use Rattle.vs_select.specs.Grammar.{select_of}
use Rattle.vs_select.proofs.ReadLemmas.{meant_from}
use Rattle.vs_select.proofs.select.Select.read.Given as goal

-- what the text means follows from the state and what is left
abbrev pub invariant-loop-state : goal.invariant-loop-state
invariant-loop-state l = record {
  within : length l.left ≤ length l.text;
  same : (n : ℕ) × (length l.left ≤ n) × (meant_from l.state n (length l.text) l.left ≡ select_of l.text);
}

abbrev pub decreases-loop-state : goal.decreases-loop-state
decreases-loop-state l = length l.left
