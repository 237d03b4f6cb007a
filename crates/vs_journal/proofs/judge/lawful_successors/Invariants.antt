use Rattle.vs_journal.specs.Judgement.{lawful_successor, plain_successor}
use Rattle.vs_journal.proofs.JudgeLemmas.{IsMadeUpTo}
use Rattle.vs_journal.proofs.judge.lawful_successors.Given as goal

abbrev pub invariant-loop-member : goal.invariant-loop-member
invariant-loop-member l = IsMadeUpTo lawful_successor plain_successor l.members l.member-index l.successors.items
