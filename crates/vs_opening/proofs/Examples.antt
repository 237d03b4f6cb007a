-- What the definitions of asked shards accept and refuse, at small values.
use Rattle.std.proofs.Common.{◌≡◌, ℕ, zero, suc, ◌≤◌, ◌<◌, List, [], ◌∷◌, ◌++◌, length, replicate, true, false, Option, Some, None, refl, sym, lit≤, arith}
use Rattle.std.specs.Prelude.{All, IsTrue, codes}
use Rattle.std.specs.List.Sorted.{IsStrictlySortedBy}
use Rattle.std.proofs.lemmas.List.{length-replicate}
use Rattle.std.proofs.lemmas.List.Elements.{All-from_recursion}
use Rattle.std.specs.Cmp.Lexicographic.{pointwise}
use Rattle.std.specs.Prelude.{nat_eq}
use Rattle.vs_base.specs.Names.{same_name}
use Rattle.vs_base.specs.declared.ShardName.{ShardName}
use Rattle.vs_base.proofs.BoolLemmas.{or_left_comm}
use Rattle.vs_outside.specs.Clusters.{ClusterBytes, IsListing, Shard}
use Rattle.vs_outside.specs.Names.{is_shard_text}
use Rattle.vs_request.specs.declared.request.StartAt.TheVariants.{Current}
use Rattle.vs_request.specs.declared.request.Wanted.{Wanted}
use Rattle.vs_opening.specs.declared.named.Named.{Named}
use Rattle.vs_opening.specs.declared.names.NamesEnd.TheVariants.{Unknown, TooMany, Repeated}
use Rattle.vs_opening.specs.Asked.{AreAsked, AreNotNamed, IsAskedBy, IsListed, IsNamedBy, asks_for_all}
use Rattle.vs_opening.proofs.AskedLemmas.{IsAskedBy-one}

-- keyspaces and shards of one letter, or none
abbrev name : (k s : List ℕ) → length k ≤ 64 → length s ≤ 64 → ShardName
name k s p q = record { keyspace = k; shard = s; keyspace_fits = p; shard_fits = q }

abbrev lower : ShardName
lower = name (codes "c") (codes "-80") (omega arith) (omega arith)

abbrev upper : ShardName
upper = name (codes "c") (codes "80-") (omega arith) (omega arith)

abbrev other : ShardName
other = name (codes "d") (codes "0") (omega arith) (omega arith)

abbrev held : ShardName → Shard
held n = record { name = n; log = []; schema = [] }

-- the cluster has its shards in any order
abbrev cluster : ClusterBytes
cluster = held upper ∷ held other ∷ held lower ∷ []

abbrev entry : List ℕ → List ℕ → Wanted
entry k s = record { keyspace = k; shard = s; start = Current; last_key = None }

abbrev named : ShardName → Named
named n = record { name = n; start = Current; last_key = None }

abbrev one : ShardName → Wanted
one n = entry n.keyspace n.shard

is_named : (n : ShardName) (k s : List ℕ) → n.keyspace ≡ k → n.shard ≡ s → IsNamedBy (entry k []) s (named n)
is_named n k s same shard_is = record { keyspace = same; shard_is = shard_is; start = refl; last_key = refl }

asks_one : (told : Option ClusterBytes) (n : ShardName) → asks_for_all (one n) ≡ false → IsAskedBy told (one n) (named n ∷ [])
asks_one told n not_all = IsAskedBy-one told (one n) (named n) not_all (record { keyspace = refl; shard_is = refl; start = refl; last_key = refl })

-- the same shard again and again
asked_each : (told : Option ClusterBytes) (n : ShardName) → asks_for_all (one n) ≡ false → (k : ℕ) → AreAsked told (replicate k (one n)) (replicate k (named n))
asked_each told n not_all zero = refl
asked_each told n not_all (suc k) = (named n ∷ [], replicate k (named n), refl, asks_one told n not_all, asked_each told n not_all k)

-- the shards of a keyspace of two
both : IsListed (Some cluster) (codes "c") (codes "-80" ∷ codes "80-" ∷ [])
unfolding IsStrictlySortedBy
both = record {
  listing = record {
    some = lit≤ tt;
    lawful = All-from_recursion (λ (s : List ℕ). IsTrue (is_shard_text s)) (codes "-80" ∷ codes "80-" ∷ []) (refl, (refl, tt));
    ascending = ((refl, tt), (tt, tt));
  };
  names = λ s. or_left_comm (pointwise nat_eq s (codes "-80")) (pointwise nat_eq s (codes "80-")) _;
}

-- a shard, and then all of that keyspace
all_of_a_keyspace : AreAsked (Some cluster) (one other ∷ entry (codes "c") [] ∷ []) (named other ∷ named lower ∷ named upper ∷ [])
all_of_a_keyspace = (
  named other ∷ [],
  named lower ∷ named upper ∷ [],
  refl,
  asks_one (Some cluster) other refl,
  (named lower ∷ named upper ∷ [], [], refl, (codes "-80" ∷ codes "80-" ∷ [], both, (is_named lower _ _ refl refl, (is_named upper _ _ refl refl, tt))), refl),
)

-- a shard that is asked for twice
twice : AreNotNamed (Some cluster) (one lower ∷ one lower ∷ []) (Repeated lower)
unfolding same_name
twice = (named lower ∷ named lower ∷ [], asked_each (Some cluster) lower refl 2, lit≤ tt, record { before = lower ∷ []; behind = []; are = refl; differ = refl; again = refl })

-- more than 64 shards
too_many : (k : ℕ) → 64 < k → AreNotNamed (Some cluster) (replicate k (one lower)) (TooMany k)
too_many k more = (replicate k (named lower), asked_each (Some cluster) lower refl k, sym (length-replicate k (named lower)), more)

-- a keyspace without a shard
unknown : AreNotNamed (Some cluster) (one lower ∷ entry (codes "x") [] ∷ one upper ∷ []) (Unknown (name (codes "x") [] (omega arith) (omega arith)))
unknown = record {
  before = one lower ∷ [];
  wanted = entry (codes "x") [];
  behind = one upper ∷ [];
  are = refl;
  named = named lower ∷ [];
  asked = asked_each (Some cluster) lower refl 1;
  unlisted = (record { all = refl; keyspace = refl; empty = refl }, refl);
}
