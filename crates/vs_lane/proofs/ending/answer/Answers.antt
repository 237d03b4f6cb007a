use Rattle.std.proofs.Common.{inl, inr, rules, refl}
use Rattle.vs_lane.proofs.Stepping.{says_in, says_out}
use Rattle.vs_lane.proofs.ending.answer.Goals as goal

pub returns-then-not-tells_log-clause-says : goal.returns-then-not-tells_log-clause-says
returns-then-not-tells_log-clause-says g c = says_out c.args.name.now c.args.bound.now c.args.start.now c.args.until_end c.args.entries.now c.args.came _ (search rules) c.piece_said.ensures.piece

pub returns-in-Some-clause-says : goal.returns-in-Some-clause-says
returns-in-Some-clause-says g c = says_in c.args.name.now c.args.bound.now c.args.start.now c.args.until_end c.args.entries.now c.args.came _ (search rules) (inr (c.in-Some.missing, refl, c.in-Some.ensures.missing))

pub returns-in-None-clause-says : goal.returns-in-None-clause-says
returns-in-None-clause-says g c = says_in c.args.name.now c.args.bound.now c.args.start.now c.args.until_end c.args.entries.now c.args.came _ (search rules) (inl (c.in-None.ensures.missing, c.piece_said-in-None.ensures.piece))
