-- When two names, and two GTIDs, are equal; and what their parts may be.
use Rattle.std.specs.Prelude.{◌≡◌, ℕ, ◌≤◌, ◌-◌, ◌^◌, Bool, true, false, not, ◌&&◌, List, [], ◌∷◌, length, nat_eq, nat_le, Option, Some, None, refl}
use Rattle.std.proofs.lemmas.Bool.{leb-true}
use Rattle.std.specs.List.{list_any}
use Rattle.std.specs.Cmp.Lexicographic.{pointwise}
use Rattle.vs_base.specs.declared.shard_name.ShardName.{ShardName}
use Rattle.vs_base.specs.declared.gtid.Gtid.{Gtid}

-- the names have the same keyspace and the same shard
unfoldable pub same_name : ShardName → ShardName → Bool
same_name a b = pointwise nat_eq a.keyspace b.keyspace && pointwise nat_eq a.shard b.shard

-- the GTIDs have the same UUID and the same number
unfoldable pub same_gtid : Gtid → Gtid → Bool
same_gtid a b = pointwise nat_eq a.uuid b.uuid && nat_eq a.number b.number

-- these may be the parts of a name
abbrev pub FitsName : List ℕ → List ℕ → Type 0
FitsName keyspace shard = (length keyspace ≤ 64) × (length shard ≤ 64)

-- this may be the number of a GTID
abbrev pub FitsGtid : ℕ → Type 0
FitsGtid number = (1 ≤ number) × (number ≤ 2 ^ 63 - 2)

-- the GTID of these parts, where the tests say that its number is in range
abbrev pub gtid_tested : (uuid : List ℕ) (number : ℕ) (low high : Bool) → nat_le 1 number ≡ low → nat_le number (2 ^ 63 - 2) ≡ high → Option Gtid
gtid_tested uuid number true true p q = Some (record { uuid = uuid; number = number; first = leb-true 1 number p; last = leb-true number (2 ^ 63 - 2) q })
gtid_tested uuid number true false p q = None
gtid_tested uuid number false high p q = None

-- the GTID of these parts, if its number is in range
unfoldable pub gtid_of : List ℕ → ℕ → Option Gtid
gtid_of uuid number = gtid_tested uuid number (nat_le 1 number) (nat_le number (2 ^ 63 - 2)) refl refl

-- no two of the names are equal
abbrev pub names_differ : List ShardName → Bool
names_differ [] = true
names_differ (name ∷ names) = not (list_any (same_name name) names) && names_differ names
