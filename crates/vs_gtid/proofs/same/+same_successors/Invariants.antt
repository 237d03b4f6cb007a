-- The successors are compared from the front: each call has one less.
use Rattle.std.proofs.Common.{length}
use Rattle.vs_gtid.proofs.same.+same_successors.Given as goal

abbrev pub decreases-same_successors : goal.decreases-same_successors
decreases-same_successors l = length l.ones.now
