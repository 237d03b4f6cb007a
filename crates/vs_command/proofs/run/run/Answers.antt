use Rattle.std.proofs.Common.{◌≡◌, ◌≤◌, subst}
use Rattle.std.specs.Prelude.{◌⊎◌, IfSome}
use Rattle.vs_command.specs.Causes.{IsDue, IsOutside, IsOwed, IsUnbound}
use Rattle.vs_command.specs.Stages.{IsBrought, stage}
use Rattle.vs_command.specs.declared.status.RequestFault.TheVariants.{Unbound}
use Rattle.vs_command.specs.declared.status.Status.TheVariants.{BadSchema, Done, Request, UnknownShard, Purged, BadLog, PositionTooLarge, Stopped}
use Rattle.vs_command.proofs.AnswerLemmas.{headline_told}
use Rattle.vs_command.proofs.AskedLemmas.{binding_comes, unbound_came}
use Rattle.vs_command.proofs.OutsideLemmas.{keeps_pointed, unasked_then}
use Rattle.vs_command.proofs.run.run.Goals as goal

pub returns-clause-headline : goal.returns-clause-headline
returns-clause-headline g c =
    headline_told (g.T.Tablets.cluster c.args.tablets.now) (g.T.Tablets.cluster c.point.new.self) (g.I.Source.left c.args.input.now)
    (g.T.Tablets.waits c.args.tablets.now) (g.T.Tablets.waits c.point.new.self) (g.T.Tablets.waits c.connection.new.tablets) _ _ _
    c.point.ensures.cluster c.point.ensures.waits c.connection.ensures.headline

pub returns-clause-unknown_when : goal.returns-clause-unknown_when
returns-clause-unknown_when g c folder name words =
    subst (λ t. IfSome t (λ k. IfSome (g.I.Source.left c.args.input.now) (λ input. IsOwed k input (UnknownShard name) → IsOutside c.connection.result ⊎ (c.connection.result ≡ (UnknownShard name)))))
    c.point.ensures.cluster (c.connection.ensures.only (UnknownShard name))

pub returns-clause-bad_schema_when : goal.returns-clause-bad_schema_when
returns-clause-bad_schema_when g c folder name line words =
    subst (λ t. IfSome t (λ k. IfSome (g.I.Source.left c.args.input.now) (λ input. IsOwed k input (BadSchema name line) → IsOutside c.connection.result ⊎ (c.connection.result ≡ (BadSchema name line)))))
    c.point.ensures.cluster (c.connection.ensures.only (BadSchema name line))

pub returns-clause-purged_when : goal.returns-clause-purged_when
returns-clause-purged_when g c folder name missing words =
    subst (λ t. IfSome t (λ k. IfSome (g.I.Source.left c.args.input.now) (λ input. IsOwed k input (Purged name missing) → IsOutside c.connection.result ⊎ (c.connection.result ≡ (Purged name missing)))))
    c.point.ensures.cluster (c.connection.ensures.only (Purged name missing))

pub returns-clause-bad_log_when : goal.returns-clause-bad_log_when
returns-clause-bad_log_when g c folder name offset why words =
    subst (λ t. IfSome t (λ k. IfSome (g.I.Source.left c.args.input.now) (λ input. IsOwed k input (BadLog name offset why) → IsOutside c.connection.result ⊎ (c.connection.result ≡ (BadLog name offset why)))))
    c.point.ensures.cluster (c.connection.ensures.only (BadLog name offset why))

pub returns-clause-too_large_when : goal.returns-clause-too_large_when
returns-clause-too_large_when g c folder name words =
    subst (λ t. IfSome t (λ k. IfSome (g.I.Source.left c.args.input.now) (λ input. IsOwed k input (PositionTooLarge name) → IsOutside c.connection.result ⊎ (c.connection.result ≡ (PositionTooLarge name)))))
    c.point.ensures.cluster (c.connection.ensures.only (PositionTooLarge name))

pub returns-clause-stopped_when : goal.returns-clause-stopped_when
returns-clause-stopped_when g c folder name id words =
    subst (λ t. IfSome t (λ k. IfSome (g.I.Source.left c.args.input.now) (λ input. IsOwed k input (Stopped name id) → IsOutside c.connection.result ⊎ (c.connection.result ≡ (Stopped name id)))))
    c.point.ensures.cluster (c.connection.ensures.only (Stopped name id))

pub returns-clause-done_when : goal.returns-clause-done_when
returns-clause-done_when g c folder words =
    subst (λ t. IfSome t (λ k. IfSome (g.I.Source.left c.args.input.now) (λ input. IsOwed k input Done → IsOutside c.connection.result ⊎ (c.connection.result ≡ Done))))
    c.point.ensures.cluster (c.connection.ensures.only Done)

pub returns-clause-due : goal.returns-clause-due
returns-clause-due g c folder words =
    subst (λ t. IfSome t (λ k. IfSome (g.I.Source.left c.args.input.now) (λ input. IsBrought k input c.connection.result ⊎ IsDue k input c.connection.result)))
    c.point.ensures.cluster c.connection.ensures.due

pub returns-clause-stage : goal.returns-clause-stage
returns-clause-stage g c folder status words =
    subst (λ t. IfSome t (λ k. IfSome (g.I.Source.left c.args.input.now) (λ input. IsDue k input status → stage c.connection.result ≤ stage status)))
    c.point.ensures.cluster (c.connection.ensures.stage status)

pub returns-clause-others : goal.returns-clause-others
returns-clause-others g c =
    unasked_then g.T.Tablets.faults g.T.Tablets.waits g.T.Tablets.open_faults (g.I.Source.left c.args.input.now) c.args.tablets.now c.point.new.self c.connection.new.tablets
    (keeps_pointed g.T.Tablets.faults g.T.Tablets.waits g.T.Tablets.open_faults c.args.tablets.now c.point.new.self c.point.ensures.faults c.point.ensures.waits c.point.ensures.open_faults)
    c.connection.ensures.others

pub returns-clause-unbound : goal.returns-clause-unbound
returns-clause-unbound g c index why is =
    subst (λ t. IfSome t (λ k. IfSome (g.I.Source.left c.args.input.now) (λ input. IsUnbound k input index why))) c.point.ensures.cluster
    (unbound_came (g.T.Tablets.cluster c.point.new.self) (g.I.Source.left c.args.input.now) c.connection.result index why c.connection.ensures.due is)

pub returns-clause-unbound_when : goal.returns-clause-unbound_when
returns-clause-unbound_when g c folder index why words =
    subst (λ t. IfSome t (λ k. IfSome (g.I.Source.left c.args.input.now) (λ input. IsUnbound k input index why → IsOutside c.connection.result ⊎ (c.connection.result ≡ Request (Unbound index why)))))
    c.point.ensures.cluster (binding_comes (g.T.Tablets.cluster c.point.new.self) (g.I.Source.left c.args.input.now) c.connection.result index why (c.connection.ensures.only (Request (Unbound index why))))
