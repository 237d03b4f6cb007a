-- What the body of a PREVIOUS_GTIDS event says: which intervals it holds, or where its first field stands that is cut or out of
-- order. Numbers have eight bytes, the lowest first.
use Rattle.vs_gtid.specs.declared.interval.Interval.{Interval}
use Rattle.vs_gtid.specs.declared.refusal.GtidRefusal.{GtidRefusal}
use Rattle.vs_gtid.specs.declared.refusal.GtidRefusal.TheVariants.{BadBlock}
use Rattle.vs_gtid.specs.Positions.{Position}
use Rattle.vs_gtid.specs.Joins.{limited, merged}
use Rattle.std.specs.Prelude.{ℕ, zero, suc, ◌+◌, ◌-◌, ◌*◌, ◌^◌, ◌||◌, List, [], ◌∷◌, ◌++◌, length, take, drop, nat_lt, nat_le, Option, Some, None, Result, Ok, Err, if◌then◌else◌}
use Rattle.byteorder.specs.Endian.{little_number}

-- the number at a place, or none where the body ends before
unfoldable pub number_at : List ℕ → ℕ → Option ℕ
number_at body at = if nat_lt (length body) (at + 8) then None else Some (little_number 8 (drop at body))

-- the UUID at a place
unfoldable pub uuid_at : List ℕ → ℕ → Option (List ℕ)
uuid_at body at = if nat_lt (length body) (at + 16) then None else Some (take 16 (drop at body))

-- one list behind another, or the first refusal
abbrev pub both : Result (List Interval) GtidRefusal → Result (List Interval) GtidRefusal → Result (List Interval) GtidRefusal
both (Err e) r = Err e
both (Ok is) (Err e) = Err e
both (Ok is) (Ok js) = Ok (is ++ js)

-- an interval whose fields stand at a place: its first number, which is 1 to 2^63 - 1, and the number behind its last
abbrev pub span_to : List ℕ → ℕ → ℕ → Option ℕ → Result Interval GtidRefusal
span_to uuid at first None = Err (BadBlock (at + 8))
span_to uuid at first (Some end) =
    if nat_le end first || nat_le (2 ^ 63) end then Err (BadBlock (at + 8))
    else Ok (record { uuid = uuid; first = first; last = end - 1 })

abbrev pub span_of : List ℕ → ℕ → Option ℕ → Option ℕ → Result Interval GtidRefusal
span_of uuid at None end = Err (BadBlock at)
span_of uuid at (Some first) end = if nat_lt first 1 || nat_le (2 ^ 63) first then Err (BadBlock at) else span_to uuid at first end

unfoldable pub span_at : List ℕ → List ℕ → ℕ → Result Interval GtidRefusal
span_at body uuid at = span_of uuid at (number_at body at) (number_at body (at + 8))

abbrev pub as_list : Result Interval GtidRefusal → Result (List Interval) GtidRefusal
as_list (Err e) = Err e
as_list (Ok i) = Ok (i ∷ [])

-- so many intervals of a UUID from a place on
unfoldable pub spans_at : ℕ → List ℕ → List ℕ → ℕ → Result (List Interval) GtidRefusal
spans_at zero body uuid at = Ok []
spans_at (suc n) body uuid at = both (as_list (span_at body uuid at)) (spans_at n body uuid (at + 16))

-- a UUID, the count of its intervals, and these
abbrev pub group_of : List ℕ → ℕ → Option (List ℕ) → Option ℕ → Result (List Interval) GtidRefusal
group_of body at None count = Err (BadBlock at)
group_of body at (Some uuid) None = Err (BadBlock (at + 16))
group_of body at (Some uuid) (Some count) = spans_at count body uuid (at + 24)

unfoldable pub group_at : List ℕ → ℕ → Result (List Interval) GtidRefusal
group_at body at = group_of body at (uuid_at body at) (number_at body (at + 16))

-- the place behind a UUID with so many intervals
abbrev pub place_behind : ℕ → Option ℕ → ℕ
place_behind at None = at
place_behind at (Some count) = at + 24 + 16 * count

unfoldable pub next_group : List ℕ → ℕ → ℕ
next_group body at = place_behind at (number_at body (at + 16))

-- so many UUIDs with their intervals from a place on
unfoldable pub groups_at : ℕ → List ℕ → ℕ → Result (List Interval) GtidRefusal
groups_at zero body at = Ok []
groups_at (suc n) body at = both (group_at body at) (groups_at n body (next_group body at))

abbrev pub groups_of : List ℕ → Option ℕ → Result (List Interval) GtidRefusal
groups_of body None = Err (BadBlock 0)
groups_of body (Some count) = groups_at count body 8

-- the intervals of the whole body: the count of UUIDs, and these
unfoldable pub block_intervals : List ℕ → Result (List Interval) GtidRefusal
block_intervals body = groups_of body (number_at body 0)

-- the set of these intervals, or the first refusal
abbrev pub set_of : Result (List Interval) GtidRefusal → Result Position GtidRefusal
set_of (Err e) = Err e
set_of (Ok is) = limited (merged is)

-- the set that the body holds
abbrev pub block_of : List ℕ → Result Position GtidRefusal
block_of body = set_of (block_intervals body)

-- what was appended to a list, or why it wasn't
abbrev pub outcome : {A : Type 0} → Result A GtidRefusal → List Interval → Result (List Interval) GtidRefusal
outcome (Ok a) is = Ok is
outcome (Err e) is = Err e
