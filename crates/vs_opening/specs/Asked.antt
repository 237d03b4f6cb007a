-- Which shards the entries of a request ask for, and why they name none for a stream.
use Rattle.std.specs.Prelude.{◌≡◌, ◌==◌, ◌≤◌, ◌<◌, ℕ, Bool, MatchBool, true, List, [], ◌∷◌, ◌++◌, length, map, Option, IfSome}
use Rattle.std.specs.List.{AllZip}
use Rattle.vs_base.specs.Names.{names_differ}
use Rattle.vs_base.specs.declared.ShardName.{ShardName}
use Rattle.vs_gtid.specs.Vectors.{is_in}
use Rattle.vs_outside.specs.Clusters.{AreNamesOf, ClusterBytes, IsListing, shard_names}
use Rattle.vs_request.specs.declared.request.Wanted.{Wanted}
use Rattle.vs_opening.specs.declared.named.Named.{Named}
use Rattle.vs_opening.specs.declared.names.NamesEnd.{NamesEnd}
use Rattle.vs_opening.specs.declared.names.NamesEnd.TheVariants.{Unknown, Failed, TooMany, Repeated, Memory}

-- ---- the shards of an entry

-- the shards of a keyspace, ascending; those of the cluster, where it is told
pub record IsListed (told : Option ClusterBytes) (keyspace : List ℕ) (shards : List (List ℕ)) : Type 0 where
  pub listing : IsListing shards
  pub names : IfSome told (λ c. AreNamesOf c keyspace shards)

-- the entry asks for all shards of its keyspace
abbrev pub asks_for_all : Wanted → Bool
asks_for_all wanted = length wanted.shard == 0

-- an entry asks for the shards of its keyspace with these names: for all, or for one
abbrev pub AreShardsOf : Option ClusterBytes → Wanted → List (List ℕ) → Type 0
AreShardsOf told wanted shards = MatchBool (asks_for_all wanted) (IsListed told wanted.keyspace shards) (shards ≡ wanted.shard ∷ [])

-- this shard of the entry's keyspace is named, from the entry's start
pub record IsNamedBy (wanted : Wanted) (shard : List ℕ) (named : Named) : Type 0 where
  pub keyspace : named.name.keyspace ≡ wanted.keyspace
  pub shard_is : named.name.shard ≡ shard
  pub start : named.start ≡ wanted.start
  pub last_key : named.last_key ≡ wanted.last_key

-- an entry asks for these, in this order
abbrev pub IsAskedBy : Option ClusterBytes → Wanted → List Named → Type 0
IsAskedBy told wanted named = (shards : List (List ℕ)) × AreShardsOf told wanted shards × AllZip (IsNamedBy wanted) shards named

-- ---- the shards of a request

-- the entries ask for these: the first for those at the front, and so on
abbrev pub AreAsked : Option ClusterBytes → List Wanted → List Named → Type 0
AreAsked told [] named = named ≡ []
AreAsked told (wanted ∷ entries) named = (front rest : List Named) × (named ≡ front ++ rest) × IsAskedBy told wanted front × AreAsked told entries rest

abbrev pub shards_named : List Named → List ShardName
shards_named named = map (λ n. n.name) named

-- ---- why no shards are named

-- the entry asks for all shards of its keyspace, and a name without a shard stands for them
pub record StandsForAll (wanted : Wanted) (name : ShardName) : Type 0 where
  pub all : asks_for_all wanted ≡ true
  pub keyspace : name.keyspace ≡ wanted.keyspace
  pub empty : name.shard ≡ []

-- why the shards of an entry aren't listed: there are none, or the listing failed, of which the tablets' count says more
abbrev pub IsUnlisted : Option ClusterBytes → Wanted → NamesEnd → Type 0
IsUnlisted told wanted (Unknown name) = StandsForAll wanted name × IfSome told (λ c. shard_names c wanted.keyspace ≡ [])
IsUnlisted told wanted (Failed name) = StandsForAll wanted name
IsUnlisted told wanted Memory = Unit {0}
IsUnlisted told wanted (TooMany n) = ⊥
IsUnlisted told wanted (Repeated name) = ⊥

-- The entries before this one ask for shards, and those of this one aren't listed.
pub record StopsAt (told : Option ClusterBytes) (entries : List Wanted) (end : NamesEnd) : Type 0 where
  pub before : List Wanted
  pub wanted : Wanted
  pub behind : List Wanted
  pub are : entries ≡ before ++ wanted ∷ behind
  pub named : List Named
  pub asked : AreAsked told before named
  pub unlisted : IsUnlisted told wanted end

-- the name stands among the names for the second time, and none before it does
pub record IsFirstRepeated (names : List ShardName) (name : ShardName) : Type 0 where
  pub before : List ShardName
  pub behind : List ShardName
  pub are : names ≡ before ++ name ∷ behind
  pub differ : names_differ before ≡ true
  pub again : is_in name before ≡ true

-- Why the entries name no shards for a stream: a keyspace isn't listed; behind that they ask for too many; behind that for one twice.
abbrev pub AreNotNamed : Option ClusterBytes → List Wanted → NamesEnd → Type 0
AreNotNamed told entries (Unknown name) = StopsAt told entries (Unknown name)
AreNotNamed told entries (Failed name) = StopsAt told entries (Failed name)
AreNotNamed told entries (TooMany n) = (named : List Named) × AreAsked told entries named × (n ≡ length named) × (64 < n)
AreNotNamed told entries (Repeated name) = (named : List Named) × AreAsked told entries named × (length named ≤ 64) × IsFirstRepeated (shards_named named) name
AreNotNamed told entries Memory = Unit {0}
