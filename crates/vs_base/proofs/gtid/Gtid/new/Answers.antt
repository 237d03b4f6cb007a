use Rattle.std.proofs.Common.{sym, arith}
use Rattle.vs_base.proofs.NameLemmas.{gtid_of-is, gtid_of-out}
use Rattle.vs_base.proofs.gtid.Gtid.new.Goals as goal

pub returns-then-number-eq0-clause-gtid : goal.returns-then-number-eq0-clause-gtid
returns-then-number-eq0-clause-gtid c = sym (gtid_of-out c.args.uuid c.args.number (λ low high. omega arith))

pub returns-then-number-gt9223372036854775806-clause-gtid : goal.returns-then-number-gt9223372036854775806-clause-gtid
returns-then-number-gt9223372036854775806-clause-gtid c = sym (gtid_of-out c.args.uuid c.args.number (λ low high. omega arith))

pub returns-clause-gtid : goal.returns-clause-gtid
returns-clause-gtid c = sym (gtid_of-is _)
