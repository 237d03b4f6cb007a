use Rattle.vs_command.proofs.LineLemmas as lemmas
use Rattle.vs_command.proofs.line.gtid_parts.Goals as goal

pub returns : goal.returns
returns c = lemmas.gtid_parts c.args.gtid
