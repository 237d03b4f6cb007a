use Rattle.std.proofs.Common.{◌≡◌, length, false}
use Rattle.vs_select.specs.Parts.{up_to_quote}
use Rattle.vs_select.proofs.QuoteLemmas.{with_front}
use Rattle.vs_select.proofs.cut.up_to_quote.Given as goal

abbrev pub invariant-loop-left : goal.invariant-loop-left
invariant-loop-left l = with_front l.bytes.items (up_to_quote false l.left) ≡ up_to_quote false l.fn.text

abbrev pub decreases-loop-left : goal.decreases-loop-left
decreases-loop-left l = length l.left
