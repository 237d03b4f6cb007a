use Rattle.vs_gtid.proofs.JoinLemmas.{has-united, IsCanonical-united}
use Rattle.vs_gtid.proofs.laws.law_united.Goals as goal

pub returns : goal.returns
returns c = record { members = has-united; canonical = IsCanonical-united }
