-- A position is a finite set of GTIDs, by its intervals. What it contains is all that a stream's rules say of it.
use Rattle.vs_base.specs.declared.Gtid.{Gtid}
use Rattle.vs_gtid.specs.declared.interval.Interval.{Interval}
use Rattle.std.specs.Prelude.{◌≡◌, ℕ, ◌+◌, ◌-◌, ◌^◌, ◌<◌, ◌≤◌, ◌⊎◌, Bool, ◌&&◌, List, [], ◌∷◌, length, nat_eq, nat_le, IsTrue, slice_index}
use Rattle.std.specs.List.{list_any}
use Rattle.std.specs.Ordering.{nat_cmp}
use Rattle.std.specs.Cmp.Lexicographic.{pointwise, slice_cmp}
use Rattle.std.specs.declared.cmp.Ordering.TheVariants.{Less}
use Rattle.vs_base.specs.Limits.{most_intervals}

abbrev pub Position : Type 0
Position = List Interval

-- whether the interval contains the GTID
abbrev pub is_within : Gtid → Interval → Bool
is_within g i = pointwise nat_eq i.uuid g.uuid && (nat_le i.first g.number && nat_le g.number i.last)

-- whether the position contains the GTID
unfoldable pub has : Position → Gtid → Bool
has p g = list_any (is_within g) p

-- each GTID of p is in q
abbrev pub IsSubset : Position → Position → Type 0
IsSubset p q = (g : Gtid) → IsTrue (has p g) → IsTrue (has q g)

-- p and q are the same set
abbrev pub SameSet : Position → Position → Type 0
SameSet p q = (g : Gtid) → has p g ≡ has q g

-- an interval of GTIDs: a UUID of 16 bytes, and numbers in range that ascend
pub record IsInterval (i : Interval) : Type 0 where
  pub uuid : length i.uuid ≡ 16
  pub bytes : (k : ℕ) → slice_index i.uuid k < 256
  pub first : 1 ≤ i.first
  pub ascends : i.first ≤ i.last
  pub last : i.last ≤ 2 ^ 63 - 2

-- i stands before j: its UUID is less by bytes, or it is the same and a number lies between them
abbrev pub StandsBefore : Interval → Interval → Type 0
StandsBefore i j = (slice_cmp nat_cmp i.uuid j.uuid ≡ Less) ⊎ ((i.uuid ≡ j.uuid) × (i.last + 1 < j.first))

abbrev pub StandsBeforeFirst : Interval → Position → Type 0
StandsBeforeFirst i [] = Unit {0}
StandsBeforeFirst i (j ∷ rest) = StandsBefore i j

-- The one order of intervals: UUIDs ascend by bytes, and the intervals of each ascend, apart and not neighbouring.
abbrev pub IsCanonical : Position → Type 0
IsCanonical [] = Unit {0}
IsCanonical (i ∷ rest) = IsInterval i × StandsBeforeFirst i rest × IsCanonical rest

-- the intervals of a set: in the one order, and not too many
pub record IsPosition (p : Position) : Type 0 where
  pub canonical : IsCanonical p
  pub few : length p ≤ most_intervals
