use Rattle.std.proofs.Common.{◌≡◌, Err, None, ap, map, refl, subst}
use Rattle.std.specs.Prelude.{◌⊎◌, IfSome}
use Rattle.vs_outside.proofs.ToldLemmas.{Writes-weaken}
use Rattle.vs_filter.specs.Causes.{meant_as}
use Rattle.vs_filter.specs.Rules.{meant_by}
use Rattle.vs_outside.specs.Clusters.{find_shard}
use Rattle.vs_command.specs.Stages.{HasBinding}
use Rattle.vs_command.specs.declared.status.Status.TheVariants.{BadSchema, Request}
use Rattle.vs_command.specs.Fetched.{IsPlaced, read_as}
use Rattle.vs_command.specs.Streaming.{IsStreamedFrom}
use Rattle.vs_command.proofs.AnswerLemmas.{Writes-streamed, Writes-unread, told_always, told_so}
use Rattle.vs_command.proofs.AskedLemmas.{binding_kind, due_bad_schema, due_meant, due_streamed, due_unbound, due_unknown, unread_unbound}
use Rattle.vs_command.proofs.connection.stream_shard.Goals as goal

pub returns-in-Ok-Some-clause-answers : goal.returns-in-Ok-Some-clause-answers
returns-in-Ok-Some-clause-answers g c =
    let fetched = rw c.in-Ok-Some.field-0-is at c.in-Ok-Some.ensures.log in
    let marked = rw c.in-Ok-Some.field-0-is at c.in-Ok-Some.ensures.marked in
    Writes-streamed c.laws.ensures (g.T.Tablets.cluster c.args.tablets.now) c.args.asked.name c.args.asked.start c.args.asked.rules (map meant_as c.args.filter.now.rules) c.in-Ok-Some.shard.log c.in-Ok-Some.shard.bound.tables _ _ fetched.0 fetched.1 _ _
    c.requires fetched.2 fetched.3 marked c.stream_log.ensures.wrote

pub returns-in-Ok-None-clause-answers : goal.returns-in-Ok-None-clause-answers
returns-in-Ok-None-clause-answers g c =
    let absent = rw c.in-Ok-None.field-0-is at c.in-Ok-None.ensures.log in
    Writes-unread (g.T.Tablets.cluster c.args.tablets.now) c.args.asked.name c.args.asked.start c.args.asked.rules _ _ _ (told_so _ _ (g.T.Tablets.cluster c.args.tablets.now) (λ k p. (refl, p)) absent)

pub returns-in-Err-Memory-clause-answers : goal.returns-in-Err-Memory-clause-answers
returns-in-Err-Memory-clause-answers g c =
    Writes-unread (g.T.Tablets.cluster c.args.tablets.now) c.args.asked.name c.args.asked.start c.args.asked.rules _ _ _ (told_always _ (g.T.Tablets.cluster c.args.tablets.now) (λ _. tt))

pub returns-in-Err-BadSchema-clause-answers : goal.returns-in-Err-BadSchema-clause-answers
returns-in-Err-BadSchema-clause-answers g c =
    let bad = c.in-Err-BadSchema.ensures.bad_schema c.in-Err-BadSchema.line (ap (λ e. Err e) c.in-Err-BadSchema.field-0-is) in
    rw c.in-Err-BadSchema.line-is (Writes-unread (g.T.Tablets.cluster c.args.tablets.now) c.args.asked.name c.args.asked.start c.args.asked.rules _ (BadSchema c.args.asked.name c.in-Err-BadSchema.line) _
    (told_so _ _ (g.T.Tablets.cluster c.args.tablets.now) (λ k p. (refl, p)) bad))

pub returns-in-Err-OpenFault-clause-answers : goal.returns-in-Err-OpenFault-clause-answers
returns-in-Err-OpenFault-clause-answers g c =
    Writes-unread (g.T.Tablets.cluster c.args.tablets.now) c.args.asked.name c.args.asked.start c.args.asked.rules _ _ _ (told_always _ (g.T.Tablets.cluster c.args.tablets.now) (λ _. refl))

pub returns-clause-answers : goal.returns-clause-answers
returns-clause-answers g c =
    Writes-unread (g.T.Tablets.cluster c.args.tablets.now) c.args.asked.name c.args.asked.start c.args.asked.rules _ _ _ (told_always _ (g.T.Tablets.cluster c.args.tablets.now) (λ _. refl))

pub returns-in-Ok-Some-clause-due : goal.returns-in-Ok-Some-clause-due
returns-in-Ok-Some-clause-due g c =
    let fetched = rw c.in-Ok-Some.field-0-is at c.in-Ok-Some.ensures.log in
    due_meant (g.T.Tablets.cluster c.args.tablets.now) c.args.asked.name c.args.asked.start (map meant_as c.args.filter.now.rules) (map meant_by c.args.asked.rules) c.stream_log.result c.requires
    (due_streamed (g.T.Tablets.cluster c.args.tablets.now) c.args.asked.name c.args.asked.start (map meant_as c.args.filter.now.rules) c.stream_log.result fetched.0 fetched.1 c.in-Ok-Some.shard.log c.in-Ok-Some.shard.bound.tables
    fetched.2 fetched.3 c.stream_log.ensures.due)

pub returns-in-Ok-None-clause-due : goal.returns-in-Ok-None-clause-due
returns-in-Ok-None-clause-due g c =
    let absent = rw c.in-Ok-None.field-0-is at c.in-Ok-None.ensures.log in
    due_unknown (g.T.Tablets.cluster c.args.tablets.now) c.args.asked.name c.args.asked.start (map meant_by c.args.asked.rules) absent

pub returns-in-Err-Memory-clause-due : goal.returns-in-Err-Memory-clause-due
returns-in-Err-Memory-clause-due g c = told_always _ (g.T.Tablets.cluster c.args.tablets.now) (λ _. ◌⊎◌.inl tt)

pub returns-in-Err-BadSchema-clause-due : goal.returns-in-Err-BadSchema-clause-due
returns-in-Err-BadSchema-clause-due g c =
    let bad = c.in-Err-BadSchema.ensures.bad_schema c.in-Err-BadSchema.line (ap (λ e. Err e) c.in-Err-BadSchema.field-0-is) in
    rw c.in-Err-BadSchema.line-is (due_bad_schema (g.T.Tablets.cluster c.args.tablets.now) c.args.asked.name c.args.asked.start (map meant_by c.args.asked.rules) c.in-Err-BadSchema.line bad)

pub returns-in-Err-OpenFault-clause-due : goal.returns-in-Err-OpenFault-clause-due
returns-in-Err-OpenFault-clause-due g c = told_always _ (g.T.Tablets.cluster c.args.tablets.now) (λ _. ◌⊎◌.inl refl)

pub returns-clause-due : goal.returns-clause-due
returns-clause-due g c =
    let opened = subst (λ m. IfSome (g.T.Tablets.cluster c.args.tablets.now) (λ k. HasBinding (find_shard k c.args.asked.name) m)) c.requires
    (c.in-Err-FeedFault.ensures.feed_opened (ap (λ e. Err e) c.in-Err-FeedFault.field-0-is)) in
    told_so _ _ (g.T.Tablets.cluster c.args.tablets.now) (λ k p. ◌⊎◌.inl (refl, p)) opened

pub returns-in-Ok-Some-clause-sent : goal.returns-in-Ok-Some-clause-sent
returns-in-Ok-Some-clause-sent g c =
    Writes-weaken (λ w. IsStreamedFrom (IsPlaced c.in-Ok-Some.shard.log.entries) c.in-Ok-Some.shard.bound.tables c.args.asked.name (read_as c.in-Ok-Some.shard.log) c.args.asked.start (c.in-Ok-Some.shard.log.mark ≡ None) c.stream_log.result w)
    (λ w. Unit {0}) (g.O.Sink.sent c.args.output.now) (g.O.Sink.sent c.stream_log.new.output) (λ w streamed. tt) c.stream_log.ensures.wrote

pub returns-in-Err-Refused-clause-answers : goal.returns-in-Err-Refused-clause-answers
returns-in-Err-Refused-clause-answers g c =
    let not = c.in-Err-Refused.ensures.refused c.in-Err-Refused.fault (ap (λ e. Err e) c.in-Err-Refused.field-0-is) in
    rw c.in-Err-Refused.fault-is (Writes-unread (g.T.Tablets.cluster c.args.tablets.now) c.args.asked.name c.args.asked.start c.args.asked.rules _ (Request c.in-Err-Refused.fault) _
    (unread_unbound (g.T.Tablets.cluster c.args.tablets.now) c.args.asked.name (map meant_as c.args.filter.now.rules) (map meant_by c.args.asked.rules) c.in-Err-Refused.fault c.requires not))

pub returns-in-Err-Refused-clause-due : goal.returns-in-Err-Refused-clause-due
returns-in-Err-Refused-clause-due g c =
    let not = c.in-Err-Refused.ensures.refused c.in-Err-Refused.fault (ap (λ e. Err e) c.in-Err-Refused.field-0-is) in
    rw c.in-Err-Refused.fault-is (due_meant (g.T.Tablets.cluster c.args.tablets.now) c.args.asked.name c.args.asked.start (map meant_as c.args.filter.now.rules) (map meant_by c.args.asked.rules) (Request c.in-Err-Refused.fault) c.requires
    (due_unbound (g.T.Tablets.cluster c.args.tablets.now) c.args.asked.name c.args.asked.start (map meant_as c.args.filter.now.rules) c.in-Err-Refused.fault not))

pub returns-in-Err-Refused-clause-kind : goal.returns-in-Err-Refused-clause-kind
returns-in-Err-Refused-clause-kind g c =
    rw c.in-Err-Refused.fault-is (binding_kind c.in-Err-Refused.fault (c.in-Err-Refused.ensures.binding c.in-Err-Refused.fault (ap (λ e. Err e) c.in-Err-Refused.field-0-is)))
