use Rattle.std.proofs.Common.{◌∙◌, sym}
use Rattle.vs_request.proofs.RequestLaws.{answer, holds, only}
use Rattle.vs_request.proofs.laws.law_requests.Goals as goal

pub returns-clause-one : goal.returns-clause-one
returns-clause-one c = λ bytes r s h k. only bytes r h ∙ sym (only bytes s k)

pub returns-clause-some : goal.returns-clause-some
returns-clause-some c = λ bytes. (answer bytes, holds bytes)
