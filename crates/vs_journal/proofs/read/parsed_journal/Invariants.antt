use Rattle.std.proofs.Common.{◌≡◌, ◌≤◌, ℕ, length}
use Rattle.vs_journal.specs.Grammar.{parsed_journal}
use Rattle.vs_journal.proofs.ReadLemmas.{meant_from}
use Rattle.vs_journal.proofs.read.parsed_journal.Given as goal

-- what the text means follows from the state and what is left
abbrev pub invariant-loop-state : goal.invariant-loop-state
invariant-loop-state l = record {
  within : length l.left ≤ length l.text;
  same : (n : ℕ) × (length l.left ≤ n) × (meant_from l.state n (length l.text) l.left ≡ parsed_journal l.text);
}

abbrev pub decreases-loop-state : goal.decreases-loop-state
decreases-loop-state l = length l.left
