-- The canonical list of a set of GTIDs: how an interval, a GTID or a whole list comes into it.
use Rattle.vs_base.specs.declared.gtid.Gtid.{Gtid}
use Rattle.vs_gtid.specs.declared.interval.Interval.{Interval}
use Rattle.vs_gtid.specs.declared.refusal.GtidRefusal.{GtidRefusal}
use Rattle.vs_gtid.specs.declared.refusal.GtidRefusal.TheVariants.{TooManyIntervals}
use Rattle.std.specs.declared.cmp.Ordering.TheVariants.{Less}
use Rattle.vs_gtid.specs.Positions.{Position}
use Rattle.std.specs.Prelude.{◌++◌, ◌≡◌, ◌⊎◌, ◌≤◌, ◌<◌, ◌-◌, length, slice_index_or, Result, Ok, Err, ℕ, ◌+◌, Bool, ◌&&◌, ◌||◌, List, [], ◌∷◌, nat_eq, nat_lt, min, max, if◌then◌else◌}
use Rattle.std.specs.List.{prefix_len}
use Rattle.std.specs.Ordering.{nat_cmp, is_lt}
use Rattle.std.specs.Cmp.Lexicographic.{pointwise, slice_cmp}
use Rattle.vs_base.specs.Limits.{most_intervals}

-- whether i stands before j in canonical order: its UUID is less, or it is the same and a number lies between them
abbrev pub stands_before : Interval → Interval → Bool
stands_before i j = is_lt (slice_cmp nat_cmp i.uuid j.uuid) || (pointwise nat_eq i.uuid j.uuid && nat_lt (i.last + 1) j.first)

-- the least interval of k's UUID that contains both
abbrev pub hull : Interval → Interval → Interval
hull k i = record { uuid = k.uuid; first = min k.first i.first; last = max k.last i.last }

-- The list with the GTIDs of k too, in canonical order: the intervals that overlap k or neighbour it become one with it.
unfoldable pub joined : Interval → Position → Position
joined k [] = k ∷ []
joined k (i ∷ rest) =
    if stands_before k i then k ∷ i ∷ rest
    else if stands_before i k then i ∷ joined k rest
    else joined (hull k i) rest

-- the canonical list of the GTIDs of some intervals, whatever their order and however they overlap
unfoldable pub merged : List Interval → Position
merged [] = []
merged (i ∷ rest) = joined i (merged rest)

-- the interval of the GTID alone
abbrev pub alone : Gtid → Interval
alone g = record { uuid = g.uuid; first = g.number; last = g.number }

-- the set with the GTID too
unfoldable pub added : Position → Gtid → Position
added p g = joined (alone g) p

-- k's place in a canonical list: behind the intervals that stand before it
abbrev pub place : Interval → Position → ℕ
place k p = prefix_len (λ (i : Interval). stands_before i k) p

-- a set, where it has at most 1,024 intervals
abbrev pub limited : Position → Result Position GtidRefusal
limited p = if nat_lt most_intervals (length p) then Err TooManyIntervals else Ok p

-- l begins no later than i: its UUID is less, or it is the same and its first number is no greater
abbrev pub BeginsBy : Interval → Interval → Type 0
BeginsBy l i = (slice_cmp nat_cmp l.uuid i.uuid ≡ Less) ⊎ ((l.uuid ≡ i.uuid) × (l.first ≤ i.first))

-- the last interval of the list, where it has one, begins no later than i
abbrev pub LastBeginsBy : Position → Interval → Type 0
LastBeginsBy p i = (d : Interval) → 0 < length p → BeginsBy (slice_index_or p (length p - 1) d) i

-- each interval begins no later than the next
abbrev pub AreInOrder : List Interval → Type 0
AreInOrder is = (k : ℕ) (d : Interval) → k + 1 < length is → BeginsBy (slice_index_or is k d) (slice_index_or is (k + 1) d)

-- the set of the GTIDs of both
unfoldable pub united : Position → Position → Position
united p q = merged (p ++ q)
