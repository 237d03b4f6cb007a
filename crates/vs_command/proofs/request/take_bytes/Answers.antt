use Rattle.std.proofs.Common.{arith}
use Rattle.std.proofs.lemmas.Grind.{common_steps}
use Rattle.vs_command.proofs.RequestLemmas.{within_read}
use Rattle.vs_command.proofs.request.take_bytes.Goals as goal

pub returns-then-is_err-clause-within : goal.returns-then-is_err-clause-within
returns-then-is_err-clause-within g c =
    within_read (g.I.Source.left c.args.input.now) (g.I.Source.left c.loop-buf.input) (g.I.Source.left c.read.new.self) c.loop-buf.bytes.items c.read.new.buf c.in-Ok.n c.args.count
    (grind (arith, common_steps, c.in-Ok.ensures.fits, c.read.auto.buf)) c.loop-buf.invariant.took c.in-Ok.ensures.takes
