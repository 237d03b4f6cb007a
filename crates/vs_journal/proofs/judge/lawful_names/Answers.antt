use Rattle.std.proofs.Common.{arith}
use Rattle.vs_journal.specs.Judgement.{lawful_name, plain_name}
use Rattle.vs_journal.proofs.JudgeLemmas.{made_all, made_none, made_one_more}
use Rattle.vs_journal.proofs.judge.lawful_names.Goals as goal

pub returns-in-None : goal.returns-in-None
returns-in-None c =
    made_none lawful_name plain_name c.args.members.now c.loop-member.member-index c.member-item.result c.loop-member.names.items _
    c.loop-member-test.true c.member-item.is c.in_ok-name.ensures c.in-None.is c.loop-member.invariant

pub loop-member-preserved : goal.loop-member-preserved
loop-member-preserved c =
    made_one_more lawful_name plain_name c.args.members.now c.loop-member.member-index c.member-item.result c.loop-member.names.items c.push.new.self.items c.in-Some.name _
    c.loop-member-test.true c.member-item.is c.in_ok-name.ensures c.in-Some.is c.in_ok-push-in-Some.ensures.items c.loop-member.invariant

pub returns : goal.returns
returns c = made_all lawful_name plain_name c.args.members.now c.loop-member.member-index c.loop-member.names.items (omega arith) c.loop-member.invariant
