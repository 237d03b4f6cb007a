use Rattle.std.proofs.Common.{◌∙◌}
use Rattle.vs_outside.proofs.FeedLemmas.{opened_and_returned}
use Rattle.vs_opening.proofs.OutsideLemmas.{kept_fresh}
use Rattle.vs_opening.proofs.open.open_shard.Goals as goal

pub returns-clause-gives_back : goal.returns-clause-gives_back
returns-clause-gives_back g c =
    let opened = rw c.in-Ok-Some.field-0-is at c.in-Ok-Some.ensures.opened in
    opened_and_returned (g.T.Tablets.opened c.args.tablets.now) (g.T.Tablets.opened c.give_back.new.self)
    (g.T.Tablets.returned c.args.tablets.now) (g.T.Tablets.returned c.open_log.new.self) (g.T.Tablets.returned c.give_back.new.self) c.args.name.now
    (c.give_back.ensures.opened ∙ opened) c.open_log.ensures.returned c.give_back.ensures.returned c.give_back.ensures.other_returned

pub returns-clause-faults : goal.returns-clause-faults
returns-clause-faults g c =
    let fresh = rw c.in-Ok-Some.field-0-is at c.in-Ok-Some.ensures.fresh in
    kept_fresh (g.T.Tablets.faults c.args.tablets.now) (g.T.Tablets.faults c.open_log.new.self) (g.T.Tablets.faults c.give_back.new.self) c.args.name.now _
    fresh.0 c.open_log.ensures.faults c.give_back.ensures.faults c.give_back.ensures.faults_later c.give_back.ensures.other_faults

pub returns-clause-waits : goal.returns-clause-waits
returns-clause-waits g c =
    let fresh = rw c.in-Ok-Some.field-0-is at c.in-Ok-Some.ensures.fresh in
    kept_fresh (g.T.Tablets.waits c.args.tablets.now) (g.T.Tablets.waits c.open_log.new.self) (g.T.Tablets.waits c.give_back.new.self) c.args.name.now _
    fresh.1 c.open_log.ensures.waits c.give_back.ensures.waits c.give_back.ensures.waits_later c.give_back.ensures.other_waits
