use Rattle.std.proofs.Common.{◌≡◌, take}
use Rattle.std.specs.List.{list_any}
use Rattle.vs_gtid.specs.Vectors.{names}
use Rattle.vs_model.specs.Core.{copies_in}
use Rattle.vs_core.proofs.scans.some_copies.Given as goal

abbrev pub invariant-loop-i : goal.invariant-loop-i
invariant-loop-i l = l.copying ≡ list_any (copies_in l.vector) (take l.i (names l.vector))
