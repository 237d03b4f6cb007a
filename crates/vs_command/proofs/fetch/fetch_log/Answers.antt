use Rattle.std.proofs.Common.{map}
use Rattle.vs_filter.specs.Causes.{meant_as}
use Rattle.vs_command.proofs.FetchLemmas.{fetched_of}
use Rattle.vs_command.proofs.OutsideLemmas.{back_returned}
use Rattle.vs_command.proofs.fetch.fetch_log.Goals as goal

pub returns-in-Ok-read-clause-log : goal.returns-in-Ok-read-clause-log
returns-in-Ok-read-clause-log g c =
    let opened = rw c.in-Ok-Some.field-0-is at c.in-Ok-Some.ensures.log in
    fetched_of (g.T.Tablets.cluster c.args.tablets.now) c.args.name.now (map meant_as c.args.filter.now.rules) _ _ _ c.as_bytes.result.now c.in-Ok.binding.schema c.in-Ok-read.log c.in-Ok.binding.bound.tables opened
    c.as_bytes.ensures c.in-Ok.ensures.reads c.in-Ok.ensures.binds c.in-Ok.ensures.picks (rw c.as_bytes-2.ensures at c.in-Ok-read.ensures.log)

pub returns-in-Err-clause-gives_back : goal.returns-in-Err-clause-gives_back
returns-in-Err-clause-gives_back g c =
    let opened = rw c.in-Ok-Some.field-0-is at c.in-Ok-Some.ensures.opened in
    back_returned (g.T.Tablets.opened c.args.tablets.now) (g.T.Tablets.opened c.open_log.new.self) (g.T.Tablets.opened c.give_back.new.self)
    (g.T.Tablets.returned c.args.tablets.now) (g.T.Tablets.returned c.open_log.new.self) (g.T.Tablets.returned c.give_back.new.self) c.args.name.now
    opened c.open_log.ensures.returned c.give_back.ensures.opened c.give_back.ensures.returned c.give_back.ensures.other_returned

pub returns-in-Ok-read-clause-gives_back : goal.returns-in-Ok-read-clause-gives_back
returns-in-Ok-read-clause-gives_back g c =
    let opened = rw c.in-Ok-Some.field-0-is at c.in-Ok-Some.ensures.opened in
    back_returned (g.T.Tablets.opened c.args.tablets.now) (g.T.Tablets.opened c.open_log.new.self) (g.T.Tablets.opened c.give_back-2.new.self)
    (g.T.Tablets.returned c.args.tablets.now) (g.T.Tablets.returned c.open_log.new.self) (g.T.Tablets.returned c.give_back-2.new.self) c.args.name.now
    opened c.open_log.ensures.returned c.give_back-2.ensures.opened c.give_back-2.ensures.returned c.give_back-2.ensures.other_returned

pub returns-in-Err-Memory-read-clause-gives_back : goal.returns-in-Err-Memory-read-clause-gives_back
returns-in-Err-Memory-read-clause-gives_back g c =
    let opened = rw c.in-Ok-Some.field-0-is at c.in-Ok-Some.ensures.opened in
    back_returned (g.T.Tablets.opened c.args.tablets.now) (g.T.Tablets.opened c.open_log.new.self) (g.T.Tablets.opened c.give_back-2.new.self)
    (g.T.Tablets.returned c.args.tablets.now) (g.T.Tablets.returned c.open_log.new.self) (g.T.Tablets.returned c.give_back-2.new.self) c.args.name.now
    opened c.open_log.ensures.returned c.give_back-2.ensures.opened c.give_back-2.ensures.returned c.give_back-2.ensures.other_returned

pub returns-clause-gives_back : goal.returns-clause-gives_back
returns-clause-gives_back g c =
    let opened = rw c.in-Ok-Some.field-0-is at c.in-Ok-Some.ensures.opened in
    back_returned (g.T.Tablets.opened c.args.tablets.now) (g.T.Tablets.opened c.open_log.new.self) (g.T.Tablets.opened c.give_back-2.new.self)
    (g.T.Tablets.returned c.args.tablets.now) (g.T.Tablets.returned c.open_log.new.self) (g.T.Tablets.returned c.give_back-2.new.self) c.args.name.now
    opened c.open_log.ensures.returned c.give_back-2.ensures.opened c.give_back-2.ensures.returned c.give_back-2.ensures.other_returned
