use Rattle.std.proofs.Common.{◌≡◌, length}
use Rattle.vs_proto.specs.Shapes.{read_into, read_walk}
use Rattle.vs_proto.proofs.reading.read_on.Given as goal

-- what is still to come, on top of what was read, gives the same
abbrev pub invariant-loop-message : goal.invariant-loop-message
invariant-loop-message g l = read_walk g.M.Message.shape l.message l.fields ≡ read_into g.M.Message.shape l.fn.message l.bytes

abbrev pub decreases-loop-message : goal.decreases-loop-message
decreases-loop-message g l = length l.fields.fields
