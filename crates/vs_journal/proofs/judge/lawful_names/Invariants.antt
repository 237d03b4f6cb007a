use Rattle.vs_journal.specs.Judgement.{lawful_name, plain_name}
use Rattle.vs_journal.proofs.JudgeLemmas.{IsMadeUpTo}
use Rattle.vs_journal.proofs.judge.lawful_names.Given as goal

abbrev pub invariant-loop-member : goal.invariant-loop-member
invariant-loop-member l = IsMadeUpTo lawful_name plain_name l.members l.member-index l.names.items
