use Rattle.vs_command.proofs.RequestLemmas.{said_so, some_entries, names_fit}
use Rattle.vs_command.proofs.request.read_message.Goals as goal

pub asked_of-requires-clause-some : goal.asked_of-requires-clause-some
asked_of-requires-clause-some c = some_entries c.args.message.now c.in-Ok.request (said_so (λ h. cc) c.in-Ok.ensures.says)

pub asked_of-requires-clause-names : goal.asked_of-requires-clause-names
asked_of-requires-clause-names c = names_fit c.args.message.now c.in-Ok.request (said_so (λ h. cc) c.in-Ok.ensures.says)
