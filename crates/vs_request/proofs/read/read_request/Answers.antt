use Rattle.vs_request.proofs.LawfulLemmas.{read-lawful}
use Rattle.vs_request.proofs.RequestLaws.{or_memory, read_message}
use Rattle.vs_request.proofs.read.read_request.Goals as goal

pub returns-clause-only : goal.returns-clause-only
returns-clause-only c = λ r h.
    or_memory c.args.bytes.now c.request_of.result r
    (read_message c.args.bytes.now c.in_ok-message.message c.request_of.result c.in_ok-message.ensures c.request_of.ensures) h

pub returns-clause-lawful : goal.returns-clause-lawful
returns-clause-lawful c = read-lawful c.in_ok-message.message c.request_of.result _ c.request_of.ensures
