use Rattle.std.proofs.Common.{◌≡◌, take}
use Rattle.vs_gather.specs.Gathering.{ids_of}
use Rattle.vs_gather.proofs.gather.ids_of.Given as goal

abbrev pub invariant-loop-kept : goal.invariant-loop-kept
invariant-loop-kept l = l.ids.items ≡ ids_of (take l.kept-index l.kept)
