use Rattle.vs_wire.proofs.VarintLemmas.{varint_in-varint, varint-shortest}
use Rattle.vs_wire.proofs.varint.law_varint.Goals as goal

pub returns-clause-read : goal.returns-clause-read
returns-clause-read c = varint_in-varint

pub returns-clause-shortest : goal.returns-clause-shortest
returns-clause-shortest c = varint-shortest
