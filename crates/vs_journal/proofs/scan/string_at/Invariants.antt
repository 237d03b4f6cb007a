use Rattle.std.proofs.Common.{◌≡◌, length, zero}
use Rattle.vs_journal.specs.Tokens.{string_from}
use Rattle.vs_journal.proofs.ScanLemmas.{with_front}
use Rattle.vs_journal.proofs.scan.string_at.Given as goal

abbrev pub invariant-loop-left : goal.invariant-loop-left
invariant-loop-left l = with_front l.bytes.items (string_from l.quote zero l.left) ≡ string_from l.quote zero l.fn.text

abbrev pub decreases-loop-left : goal.decreases-loop-left
decreases-loop-left l = length l.left
