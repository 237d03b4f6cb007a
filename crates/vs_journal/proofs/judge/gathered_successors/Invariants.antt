use Rattle.std.proofs.Common.{◌≡◌, [], map}
use Rattle.std.specs.Vec.Iter.{into_iter_items}
use Rattle.vs_journal.specs.Judgement.{gathered_entries}
use Rattle.vs_journal.specs.NameOrder.{entry_of, name_cmp}
use Rattle.vs_journal.proofs.judge.gathered_successors.Given as goal

-- what is left decides
abbrev pub invariant-loop-successor : goal.invariant-loop-successor
invariant-loop-successor l = gathered_entries name_cmp l.gathered.entries (map entry_of (into_iter_items l.successor-iterator)) ≡ gathered_entries name_cmp [] (map entry_of l.fn.successors.items)
