use Rattle.std.proofs.Common.{◌≡◌, ◌++◌, drop, map}
use Rattle.std.specs.List.{flat_map}
use Rattle.vs_journal.specs.Judgement.{plain_successor}
use Rattle.vs_journal.specs.Texts.{successor_text}
use Rattle.vs_journal.proofs.write.put_successors.Given as goal

abbrev pub invariant-loop-successor : goal.invariant-loop-successor
invariant-loop-successor l = l.text.items ++ flat_map successor_text (map plain_successor (drop l.successor-index l.successors)) ≡ l.fn.text.items ++ flat_map successor_text (map plain_successor l.successors)
