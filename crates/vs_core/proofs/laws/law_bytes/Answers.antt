use Rattle.vs_core.proofs.Bytes.{stream_is}
use Rattle.vs_core.proofs.laws.law_bytes.Goals as goal

pub returns : goal.returns
returns c = λ spells t sent frames whole all. stream_is spells t whole sent frames all
