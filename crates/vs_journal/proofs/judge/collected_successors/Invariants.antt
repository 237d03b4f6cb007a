use Rattle.std.proofs.Common.{◌≡◌, map}
use Rattle.vs_journal.specs.NameOrder.{entry_of}
use Rattle.vs_journal.proofs.judge.collected_successors.Given as goal

abbrev pub invariant-loop-name : goal.invariant-loop-name
invariant-loop-name l = map entry_of l.listed.items ≡ l.yielded
