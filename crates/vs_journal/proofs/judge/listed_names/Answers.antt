use Rattle.std.proofs.Common.{◌≡◌, ap, arith, rules, ◌∙◌}
use Rattle.std.proofs.lemmas.Grind.{common_steps}
use Rattle.vs_base.specs.Names.{names_differ}
use Rattle.vs_journal.proofs.JudgeLemmas.{differ_in_order}
use Rattle.vs_journal.proofs.judge.listed_names.Goals as goal

pub returns-clause-differ : goal.returns-clause-differ
returns-clause-differ c =
    let same : c.from_vec.result ≡ c.args.names.keys = first_of (search rules, grind (arith, common_steps)) in
    ap names_differ same ∙ differ_in_order c.args.names.keys c.into_iter.ensures.into_iter_gives.4
