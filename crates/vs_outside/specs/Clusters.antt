-- A cluster as the bytes of its shards, and which names a listing gives.
use Rattle.std.specs.Prelude.{◌≡◌, ℕ, ◌≤◌, Bool, IsTrue, nat_eq, List, length, map, filter, find, All, Option}
use Rattle.std.specs.List.{list_any}
use Rattle.std.specs.List.Sorted.{IsStrictlySortedBy}
use Rattle.std.specs.Ordering.{nat_cmp}
use Rattle.std.specs.Cmp.Lexicographic.{pointwise, slice_cmp}
use Rattle.vs_base.specs.declared.shard_name.ShardName.{ShardName}
use Rattle.vs_base.specs.Names.{same_name}
use Rattle.vs_outside.specs.Names.{is_shard_text}

-- a shard: its log and its schema text
pub record Shard : Type 0 where
  pub name : ShardName
  pub log : List ℕ
  pub schema : List ℕ

abbrev pub ClusterBytes : Type 0
ClusterBytes = List Shard

-- the first shard of this name
abbrev pub find_shard : ClusterBytes → ShardName → Option Shard
find_shard cluster name = find (λ s. same_name s.name name) cluster

-- the names of the keyspace's shards, in the cluster's order
abbrev pub shard_names : ClusterBytes → List ℕ → List (List ℕ)
shard_names cluster keyspace = map (λ s. s.name.shard) (filter (λ s. pointwise nat_eq s.name.keyspace keyspace) cluster)

-- the text is one of the texts
abbrev pub has_text : List (List ℕ) → List ℕ → Bool
has_text texts text = list_any (pointwise nat_eq text) texts

-- what a listing may be, whatever the cluster: at least one name, each lawful, ascending by their bytes, none twice
pub record IsListing (names : List (List ℕ)) : Type 0 where
  pub some : 1 ≤ length names
  pub lawful : All (λ name. IsTrue (is_shard_text name)) names
  pub ascending : IsStrictlySortedBy (slice_cmp nat_cmp) names

-- the listed names are the cluster's, and no others
abbrev pub AreNamesOf : ClusterBytes → List ℕ → List (List ℕ) → Type 0
AreNamesOf cluster keyspace names = (name : List ℕ) → has_text names name ≡ has_text (shard_names cluster keyspace) name
