use Rattle.vs_proto.proofs.CellLemmas.{taken-fill}
use Rattle.vs_proto.proofs.cells.is_filled.Goals as goal

pub loop-length-init : goal.loop-length-init
loop-length-init c = taken-fill c.args.lengths.now c.args.count
