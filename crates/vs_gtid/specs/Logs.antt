-- What a log means, whatever its bytes are.
use Rattle.vs_base.specs.declared.Why.{Why}
use Rattle.vs_gtid.specs.declared.entry.Entry.{Entry}
use Rattle.vs_gtid.specs.Positions.{Position}
use Rattle.vs_base.specs.Names.{same_gtid}
use Rattle.std.specs.Prelude.{◌≡◌, ℕ, false, List, [], ◌∷◌, Option}
use Rattle.std.specs.List.{list_any}

-- The base, which is what was logged before this log; the entries, in order; and the place and the cause of the first fault.
pub record Log : Type 0 where
  pub base : Position
  pub entries : List Entry
  pub fault : Option (ℕ × Why)

-- no GTID stands twice
abbrev pub HaveDistinctGtids : List Entry → Type 0
HaveDistinctGtids [] = Unit {0}
HaveDistinctGtids (e ∷ es) = (list_any (λ f. same_gtid e.gtid f.gtid) es ≡ false) × HaveDistinctGtids es
