use Rattle.std.proofs.Common.{◌≡◌, ◌+◌, subst, arith}
use Rattle.vs_command.specs.declared.status.RequestFault.{RequestFault}
use Rattle.vs_command.specs.declared.status.RequestFault.TheVariants.{Cut, TooLong}
use Rattle.vs_command.specs.Requests.{HasEnded, TakesOf}
use Rattle.vs_command.proofs.RequestLemmas.{long_length, cut_message, message_within, whole_frame}
use Rattle.vs_command.proofs.request.read_frame.Goals as goal

pub returns-then-length-gt-LIMIT-clause-fault : goal.returns-then-length-gt-LIMIT-clause-fault
returns-then-length-gt-LIMIT-clause-fault g c fault e =
    let says = rw c.deref.ensures.value at c.in-Some.ensures in
    let same : ◌≡◌ {A = RequestFault} (TooLong c.in-Some.length) fault = cc in
    subst (λ f. TakesOf (g.I.Source.left c.args.input.now) (g.I.Source.left c.take_bytes.new.input) (HasEnded f)) same
    (long_length (g.I.Source.left c.args.input.now) (g.I.Source.left c.take_bytes.new.input) c.in_ok-head.head.items c.in-Some.length says c.in_ok-head.ensures.most c.if-length-gt-LIMIT.true c.in_ok-head.ensures.took)

pub returns-then-len-length-clause-fault : goal.returns-then-len-length-clause-fault
returns-then-len-length-clause-fault g c fault e =
    let says = rw c.deref.ensures.value at c.in-Some.ensures in
    let same : ◌≡◌ {A = RequestFault} (Cut (4 + c.len-held-then-len-length.result)) fault = cc in
    subst (λ f. TakesOf (g.I.Source.left c.args.input.now) (g.I.Source.left c.take_bytes-2.new.input) (HasEnded f)) same
    (cut_message (g.I.Source.left c.args.input.now) (g.I.Source.left c.take_bytes.new.input) (g.I.Source.left c.take_bytes-2.new.input) c.in_ok-head.head.items c.in_ok-message.message.items c.in-Some.length (4 + c.len-held-then-len-length.result) says c.in_ok-head.ensures.most (omega (arith, c.if-length-gt-LIMIT.false))
    (omega (arith, c.if-len-length.true, c.len.ensures)) (omega (arith, c.len-held-then-len-length.ensures)) c.in_ok-head.ensures.took c.in_ok-message.ensures.took)

pub returns-clause-frame : goal.returns-clause-frame
returns-clause-frame g c =
    let says = rw c.deref.ensures.value at c.in-Some.ensures in
    whole_frame (g.I.Source.left c.args.input.now) (g.I.Source.left c.take_bytes.new.input) (g.I.Source.left c.take_bytes-2.new.input) c.in_ok-head.head.items c.in_ok-message.message.items c.in-Some.length says c.in_ok-head.ensures.most (omega (arith, c.if-length-gt-LIMIT.false))
    (omega (arith, c.if-len-length.false, c.len.ensures, c.in_ok-message.ensures.most)) c.in_ok-head.ensures.took c.in_ok-message.ensures.took

pub returns-in_err-message-clause-within : goal.returns-in_err-message-clause-within
returns-in_err-message-clause-within g c =
    let says = rw c.deref.ensures.value at c.in-Some.ensures in
    message_within (g.I.Source.left c.args.input.now) (g.I.Source.left c.take_bytes.new.input) (g.I.Source.left c.take_bytes-2.new.input) c.in_ok-head.head.items c.in-Some.length says c.in_ok-head.ensures.most (omega (arith, c.if-length-gt-LIMIT.false))
    c.in_ok-head.ensures.took c.take_bytes-2.ensures.within

pub returns-then-len-length-clause-within : goal.returns-then-len-length-clause-within
returns-then-len-length-clause-within g c =
    let says = rw c.deref.ensures.value at c.in-Some.ensures in
    message_within (g.I.Source.left c.args.input.now) (g.I.Source.left c.take_bytes.new.input) (g.I.Source.left c.take_bytes-2.new.input) c.in_ok-head.head.items c.in-Some.length says c.in_ok-head.ensures.most (omega (arith, c.if-length-gt-LIMIT.false))
    c.in_ok-head.ensures.took c.take_bytes-2.ensures.within

pub returns-clause-within : goal.returns-clause-within
returns-clause-within g c =
    let says = rw c.deref.ensures.value at c.in-Some.ensures in
    message_within (g.I.Source.left c.args.input.now) (g.I.Source.left c.take_bytes.new.input) (g.I.Source.left c.take_bytes-2.new.input) c.in_ok-head.head.items c.in-Some.length says c.in_ok-head.ensures.most (omega (arith, c.if-length-gt-LIMIT.false))
    c.in_ok-head.ensures.took c.take_bytes-2.ensures.within
