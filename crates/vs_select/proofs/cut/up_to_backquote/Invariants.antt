use Rattle.std.proofs.Common.{◌≡◌, length}
use Rattle.vs_select.specs.Parts.{up_to_backquote}
use Rattle.vs_select.proofs.QuoteLemmas.{with_front}
use Rattle.vs_select.proofs.cut.up_to_backquote.Given as goal

abbrev pub invariant-loop-left : goal.invariant-loop-left
invariant-loop-left l = with_front l.name.items (up_to_backquote l.left) ≡ up_to_backquote l.fn.text

abbrev pub decreases-loop-left : goal.decreases-loop-left
decreases-loop-left l = length l.left
