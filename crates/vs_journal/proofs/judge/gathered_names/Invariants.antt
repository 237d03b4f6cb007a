use Rattle.std.proofs.Common.{◌≡◌, []}
use Rattle.std.specs.Vec.Iter.{into_iter_items}
use Rattle.vs_journal.specs.Judgement.{gathered_keys}
use Rattle.vs_journal.specs.NameOrder.{name_cmp}
use Rattle.vs_journal.proofs.judge.gathered_names.Given as goal

-- what is left decides
abbrev pub invariant-loop-name : goal.invariant-loop-name
invariant-loop-name l = gathered_keys name_cmp l.gathered.keys (into_iter_items l.name-iterator) ≡ gathered_keys name_cmp [] l.fn.names.items
