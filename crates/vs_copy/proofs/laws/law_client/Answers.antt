use Rattle.vs_copy.proofs.FitLemmas.{client_has_copy}
use Rattle.vs_copy.proofs.RunLemmas.{goes_on}
use Rattle.vs_copy.proofs.laws.law_client.Goals as goal

pub returns-clause-client : goal.returns-clause-client
returns-clause-client c = client_has_copy

pub returns-clause-resumed : goal.returns-clause-resumed
returns-clause-resumed c = goes_on
