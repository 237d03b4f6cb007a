use Rattle.vs_journal.proofs.JudgeLemmas.{successors_differ}
use Rattle.vs_journal.proofs.judge.listed_successors.Goals as goal

pub returns-clause-differ : goal.returns-clause-differ
returns-clause-differ c = successors_differ c.in_ok-listed.listed c.args.successors.entries c.in_ok-listed.ensures c.requires
