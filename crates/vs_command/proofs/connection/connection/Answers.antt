use Rattle.std.proofs.Common.{◌≡◌, ◌∙◌, Err, ap}
use Rattle.vs_outside.specs.Counts.{Rose}
use Rattle.vs_command.specs.declared.request.RequestEnd.TheVariants.{Fault}
use Rattle.vs_command.specs.declared.status.RequestFault.TheVariants.{PatternRefused}
use Rattle.vs_command.specs.declared.status.Status.TheVariants.{Request}
use Rattle.vs_command.proofs.AnswerLemmas.{headline_asked}
use Rattle.vs_command.proofs.AskedLemmas.{asked_told, fault_told, faulty_asked, faulty_once, has_read, pattern_told, patterns_told, refused_told}
use Rattle.vs_command.proofs.DueLemmas.{comes_told}
use Rattle.vs_command.proofs.OutsideLemmas.{unasked_others}
use Rattle.vs_command.proofs.StageLemmas.{stage_told}
use Rattle.vs_command.proofs.connection.connection.Goals as goal

pub returns-in-Ok-clause-headline : goal.returns-in-Ok-clause-headline
returns-in-Ok-clause-headline g c =
    headline_asked (g.T.Tablets.cluster c.args.tablets.now) (g.I.Source.left c.args.input.now) c.in-Ok.asked.name c.in-Ok.asked.start c.in-Ok.asked.rules
    (λ n. Rose (g.T.Tablets.waits c.args.tablets.now n) (g.T.Tablets.waits c.stream_asked.new.tablets n)) _ _ _
    c.in-Ok.ensures.asks c.stream_asked.ensures.answers

pub returns-in-Ok-clause-due : goal.returns-in-Ok-clause-due
returns-in-Ok-clause-due g c =
    asked_told (g.T.Tablets.cluster c.args.tablets.now) (g.I.Source.left c.args.input.now) c.in-Ok.asked.name c.in-Ok.asked.start c.in-Ok.asked.rules c.stream_asked.result
    c.in-Ok.ensures.asks c.stream_asked.ensures.due

pub returns-in-Ok-clause-only : goal.returns-in-Ok-clause-only
returns-in-Ok-clause-only g c status =
    comes_told c.laws.ensures (g.T.Tablets.cluster c.args.tablets.now) (g.I.Source.left c.args.input.now) c.stream_asked.result status
    (asked_told (g.T.Tablets.cluster c.args.tablets.now) (g.I.Source.left c.args.input.now) c.in-Ok.asked.name c.in-Ok.asked.start c.in-Ok.asked.rules c.stream_asked.result
    c.in-Ok.ensures.asks c.stream_asked.ensures.due)

pub returns-in-Ok-clause-stage : goal.returns-in-Ok-clause-stage
returns-in-Ok-clause-stage g c status =
    stage_told c.laws.ensures (g.T.Tablets.cluster c.args.tablets.now) (g.I.Source.left c.args.input.now) c.stream_asked.result status
    (asked_told (g.T.Tablets.cluster c.args.tablets.now) (g.I.Source.left c.args.input.now) c.in-Ok.asked.name c.in-Ok.asked.start c.in-Ok.asked.rules c.stream_asked.result
    c.in-Ok.ensures.asks c.stream_asked.ensures.due)

pub returns-in-Ok-clause-request_when : goal.returns-in-Ok-clause-request_when
returns-in-Ok-clause-request_when g c fault =
    faulty_asked c.laws.ensures (g.I.Source.left c.args.input.now) c.in-Ok.asked.name c.in-Ok.asked.start c.in-Ok.asked.rules c.stream_asked.result fault c.in-Ok.ensures.asks c.stream_asked.ensures.said

pub returns-in-Err-Fault-clause-due : goal.returns-in-Err-Fault-clause-due
returns-in-Err-Fault-clause-due g c =
    let fault = c.in-Err-Fault.ensures.fault c.in-Err-Fault.fault (ap (λ e. Err e) c.in-Err-Fault.field-0-is) in
    rw c.in-Err-Fault.fault-is (fault_told (g.T.Tablets.cluster c.args.tablets.now) (g.I.Source.left c.args.input.now) c.in-Err-Fault.fault fault)

pub returns-in-Err-Fault-clause-only : goal.returns-in-Err-Fault-clause-only
returns-in-Err-Fault-clause-only g c status =
    let fault = c.in-Err-Fault.ensures.fault c.in-Err-Fault.fault (ap (λ e. Err e) c.in-Err-Fault.field-0-is) in
    rw c.in-Err-Fault.fault-is (comes_told c.laws.ensures (g.T.Tablets.cluster c.args.tablets.now) (g.I.Source.left c.args.input.now) (Request c.in-Err-Fault.fault) status
    (fault_told (g.T.Tablets.cluster c.args.tablets.now) (g.I.Source.left c.args.input.now) c.in-Err-Fault.fault fault))

pub returns-in-Err-Fault-clause-stage : goal.returns-in-Err-Fault-clause-stage
returns-in-Err-Fault-clause-stage g c status =
    let fault = c.in-Err-Fault.ensures.fault c.in-Err-Fault.fault (ap (λ e. Err e) c.in-Err-Fault.field-0-is) in
    rw c.in-Err-Fault.fault-is (stage_told c.laws.ensures (g.T.Tablets.cluster c.args.tablets.now) (g.I.Source.left c.args.input.now) (Request c.in-Err-Fault.fault) status
    (fault_told (g.T.Tablets.cluster c.args.tablets.now) (g.I.Source.left c.args.input.now) c.in-Err-Fault.fault fault))

pub returns-in-Err-Fault-clause-request_when : goal.returns-in-Err-Fault-clause-request_when
returns-in-Err-Fault-clause-request_when g c other =
    let fault = c.in-Err-Fault.ensures.fault c.in-Err-Fault.fault (ap (λ e. Err e) c.in-Err-Fault.field-0-is) in
    rw c.in-Err-Fault.fault-is (faulty_once c.laws.ensures (g.I.Source.left c.args.input.now) c.in-Err-Fault.fault other fault)

pub returns-in-Ok-clause-others : goal.returns-in-Ok-clause-others
returns-in-Ok-clause-others g c =
    unasked_others g.T.Tablets.faults g.T.Tablets.waits g.T.Tablets.open_faults (g.I.Source.left c.args.input.now) c.in-Ok.asked.name c.in-Ok.asked.start c.in-Ok.asked.rules c.args.tablets.now c.stream_asked.new.tablets
    c.in-Ok.ensures.asks c.stream_asked.ensures.others c.stream_asked.ensures.unlawful

pub returns-in-Ok-clause-request : goal.returns-in-Ok-clause-request
returns-in-Ok-clause-request g c fault is own =
    refused_told (g.I.Source.left c.args.input.now) c.in-Ok.asked.name c.in-Ok.asked.start c.in-Ok.asked.rules (g.T.Tablets.pattern_faults c.args.tablets.now) (g.T.Tablets.pattern_faults c.stream_asked.new.tablets) fault
    c.in-Ok.ensures.asks (c.stream_asked.ensures.rules fault is) own

pub returns-in-Ok-clause-refused_pattern : goal.returns-in-Ok-clause-refused_pattern
returns-in-Ok-clause-refused_pattern g c index is =
    pattern_told (g.I.Source.left c.args.input.now) c.in-Ok.asked.name c.in-Ok.asked.start c.in-Ok.asked.rules index c.in-Ok.ensures.asks (c.stream_asked.ensures.rules (PatternRefused index) is).0

pub returns-in-Ok-clause-pattern : goal.returns-in-Ok-clause-pattern
returns-in-Ok-clause-pattern g c index is = (c.stream_asked.ensures.rules (PatternRefused index) is).1

pub returns-in-Ok-clause-patterns : goal.returns-in-Ok-clause-patterns
returns-in-Ok-clause-patterns g c =
    patterns_told (g.I.Source.left c.args.input.now) c.in-Ok.asked.name c.in-Ok.asked.start c.in-Ok.asked.rules _ c.in-Ok.ensures.asks c.stream_asked.ensures.quiet

pub returns-in-Ok-clause-taken : goal.returns-in-Ok-clause-taken
returns-in-Ok-clause-taken g c = has_read (g.I.Source.left c.args.input.now) (g.I.Source.left c.read_request.new.input) c.stream_asked.result c.stream_asked.ensures.kind c.in-Ok.ensures.took

pub returns-in-Err-Fault-clause-refused_pattern : goal.returns-in-Err-Fault-clause-refused_pattern
returns-in-Err-Fault-clause-refused_pattern g c index is =
    let same : c.in-Err-Fault.fault ≡ PatternRefused index = cc in
    absurd (c.in-Err-Fault.ensures.no_pattern index (ap (λ e. Err e) (c.in-Err-Fault.field-0-is ∙ ap (λ f. Fault f) same)))

pub returns-in-Err-Fault-clause-pattern : goal.returns-in-Err-Fault-clause-pattern
returns-in-Err-Fault-clause-pattern g c index is =
    let same : c.in-Err-Fault.fault ≡ PatternRefused index = cc in
    absurd (c.in-Err-Fault.ensures.no_pattern index (ap (λ e. Err e) (c.in-Err-Fault.field-0-is ∙ ap (λ f. Fault f) same)))
