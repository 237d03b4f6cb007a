use Rattle.std.proofs.Common.{◌≡◌, ◌++◌, drop}
use Rattle.vs_request.specs.Keys.{cells_of}
use Rattle.vs_request.proofs.key.read_cells.Given as goal

-- the cells so far, and those that the rest has
abbrev pub invariant-loop-length : goal.invariant-loop-length
invariant-loop-length l = l.image ++ cells_of (drop l.length-index l.lengths) l.rest ≡ cells_of l.lengths l.values
