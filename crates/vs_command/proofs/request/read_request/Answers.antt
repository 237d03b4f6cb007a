use Rattle.vs_command.specs.declared.status.RequestFault.TheVariants.{PatternRefused}
use Rattle.vs_command.proofs.RequestLemmas.{fault_of_message, took_faulty}
use Rattle.vs_command.proofs.request.read_request.Goals as goal

pub returns-clause-fault : goal.returns-clause-fault
returns-clause-fault g c fault is =
    let said = rw c.deref.ensures.value at c.read_message.ensures.fault fault is in
    fault_of_message (g.I.Source.left c.args.input.now) (g.I.Source.left c.read_frame.new.input) c.in_ok-message.message.items fault c.in_ok-message.ensures.frame said

pub returns-clause-took_of_fault : goal.returns-clause-took_of_fault
returns-clause-took_of_fault g c fault is =
    let said = rw c.deref.ensures.value at c.read_message.ensures.fault fault is in
    took_faulty (g.I.Source.left c.args.input.now) (g.I.Source.left c.read_frame.new.input) c.in_ok-message.message.items fault c.in_ok-message.ensures.frame said

pub returns-clause-no_pattern : goal.returns-clause-no_pattern
returns-clause-no_pattern g c index is = c.read_message.ensures.fault (PatternRefused index) is
