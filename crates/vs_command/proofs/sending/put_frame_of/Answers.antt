use Rattle.std.proofs.Common.{rules}
use Rattle.vs_command.specs.Sending.{vector_at}
use Rattle.vs_command.proofs.sending.put_frame_of.Goals as goal

pub returns : goal.returns
returns c = let put = c.put_frame_with.ensures.ok (vector_at c.args.name.now c.args.position.now) c.in_ok-vgtid.ensures in search (rules, put)
