use Rattle.vs_core.proofs.gate.Gate.own_journal.Goals as goal

pub returns-then-not-branch : goal.returns-then-not-branch
returns-then-not-branch c = λ room. c.wait_at.ensures room c.args.out.now.items
