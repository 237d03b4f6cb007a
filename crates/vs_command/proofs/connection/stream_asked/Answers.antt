use Rattle.std.proofs.Common.{◌≡◌, ℕ, List, None, ap, subst, sym, ◌∙◌}
use Rattle.vs_filter.specs.Rules.{first_fault}
use Rattle.vs_outside.proofs.ToldLemmas.{Writes-none}
use Rattle.vs_command.specs.Streaming.{IsBeforeStream}
use Rattle.vs_command.proofs.AnswerLemmas.{filtered_refused, filtered_told}
use Rattle.vs_command.proofs.AskedLemmas.{binding_rules, refusal_before, refusal_feed, refusal_link, refusal_open, refused_due, refused_kind, refused_rules, refused_said, taken_due}
use Rattle.vs_command.proofs.OutsideLemmas.{back_kept, keeps_built, keeps_pointed}
use Rattle.vs_command.proofs.connection.stream_asked.Goals as goal

pub returns-in-Ok-clause-answers : goal.returns-in-Ok-clause-answers
returns-in-Ok-clause-answers g c =
    let lawful : first_fault c.args.asked.rules ≡ None = ap first_fault (sym c.as_slice.ensures) ∙ c.in-Ok.ensures.lawful in
    filtered_told (g.T.Tablets.cluster c.args.tablets.now) (g.T.Tablets.cluster c.build.new.tablets) c.args.asked.name c.args.asked.start c.args.asked.rules
    (g.T.Tablets.waits c.args.tablets.now c.args.asked.name) (g.T.Tablets.waits c.build.new.tablets c.args.asked.name) (g.T.Tablets.waits c.stream_shard.new.tablets c.args.asked.name) c.stream_shard.result _ _
    c.build.ensures.cluster (c.build.ensures.waits c.args.asked.name) lawful c.stream_shard.ensures.answers

pub returns-in-Err-clause-answers : goal.returns-in-Err-clause-answers
returns-in-Err-clause-answers g c =
    filtered_refused (g.T.Tablets.cluster c.args.tablets.now) c.args.asked.name c.args.asked.start c.args.asked.rules _ c.refused.result _
    (subst IsBeforeStream (sym c.refused.ensures) (refusal_before c.in-Err.refusal))

pub returns-in-Ok-clause-due : goal.returns-in-Ok-clause-due
returns-in-Ok-clause-due g c =
    let lawful : first_fault c.args.asked.rules ≡ None = ap first_fault (sym c.as_slice.ensures) ∙ c.in-Ok.ensures.lawful in
    taken_due (g.T.Tablets.cluster c.args.tablets.now) (g.T.Tablets.cluster c.build.new.tablets) c.args.asked.name c.args.asked.start c.args.asked.rules c.stream_shard.result
    c.build.ensures.cluster lawful c.stream_shard.ensures.due

pub returns-in-Err-clause-due : goal.returns-in-Err-clause-due
returns-in-Err-clause-due g c =
    refused_due (g.T.Tablets.cluster c.args.tablets.now) c.args.asked.name c.args.asked.start c.as_slice.result.now c.args.asked.rules
    (g.T.Tablets.pattern_faults c.args.tablets.now) (g.T.Tablets.pattern_faults c.build.new.tablets) c.in-Err.refusal c.refused.result c.as_slice.ensures c.refused.ensures c.in-Err.ensures.refused

pub returns-in-Err-clause-kind : goal.returns-in-Err-clause-kind
returns-in-Err-clause-kind g c =
    refused_kind c.as_slice.result.now (g.T.Tablets.pattern_faults c.args.tablets.now) (g.T.Tablets.pattern_faults c.build.new.tablets) c.in-Err.refusal c.refused.result c.refused.ensures c.in-Err.ensures.refused

pub returns-in-Ok-clause-rules : goal.returns-in-Ok-clause-rules
returns-in-Ok-clause-rules g c fault is =
    binding_rules c.args.asked.rules (g.T.Tablets.pattern_faults c.args.tablets.now) (g.T.Tablets.pattern_faults c.stream_shard.new.tablets) fault (c.stream_shard.ensures.rules fault is)

pub returns-in-Err-clause-rules : goal.returns-in-Err-clause-rules
returns-in-Err-clause-rules g c fault is =
    refused_rules c.as_slice.result.now c.args.asked.rules (g.T.Tablets.pattern_faults c.args.tablets.now) (g.T.Tablets.pattern_faults c.build.new.tablets) c.in-Err.refusal c.refused.result fault
    c.as_slice.ensures c.refused.ensures c.in-Err.ensures.refused is

pub returns-in-Err-clause-said : goal.returns-in-Err-clause-said
returns-in-Err-clause-said g c =
    refused_said c.as_slice.result.now c.args.asked.rules (g.T.Tablets.pattern_faults c.args.tablets.now) (g.T.Tablets.pattern_faults c.build.new.tablets) c.in-Err.refusal c.refused.result
    c.as_slice.ensures c.refused.ensures c.in-Err.ensures.refused

pub returns-in-Err-clause-sent : goal.returns-in-Err-clause-sent
returns-in-Err-clause-sent g c = Writes-none (λ (written : List ℕ). Unit {0}) (g.O.Sink.sent c.args.output.now) tt
