use Rattle.std.proofs.Common.{◌≡◌, ◌++◌, drop}
use Rattle.std.specs.List.{filter_map}
use Rattle.vs_select.specs.Binding.{place_of}
use Rattle.vs_select.proofs.bind.places_of.Given as goal

abbrev pub invariant-loop-name : goal.invariant-loop-name
invariant-loop-name l = filter_map (place_of l.columns) l.names ≡ l.places ++ filter_map (place_of l.columns) (drop l.name-index l.names)
