-- Entries ask one cluster for one list of shards.
use Rattle.std.proofs.Common.{◌≡◌, ◌≤◌, ◌+◌, ℕ, Bool, true, false, List, [], ◌∷◌, ◌++◌, length, Some, refl, sym, ap, subst, ◌∙◌, arith}
use Rattle.std.specs.Prelude.{MatchBool}
use Rattle.std.specs.List.{AllZip}
use Rattle.std.proofs.lemmas.Bool.{true≢false}
use Rattle.std.proofs.lemmas.Slice.Eq.{bytes_eq-Decides}
use Rattle.std.specs.Cmp.Lexicographic.{pointwise}
use Rattle.std.specs.Prelude.{nat_eq, ◌&&◌}
use Rattle.vs_base.specs.Names.{same_name}
use Rattle.vs_base.specs.declared.ShardName.{ShardName}
use Rattle.vs_base.proofs.NameLemmas.{same_name-is}
use Rattle.vs_outside.specs.Clusters.{ClusterBytes, has_text, shard_names}
use Rattle.vs_request.specs.declared.request.Wanted.{Wanted}
use Rattle.vs_opening.specs.declared.named.Named.{Named}
use Rattle.vs_opening.specs.declared.names.NamesEnd.TheVariants.{Unknown}
use Rattle.vs_opening.specs.Asked.{AreAsked, AreShardsOf, IsAskedBy, IsListed, IsNamedBy, StopsAt, asks_for_all}
use Rattle.vs_opening.proofs.Ascending.{present, same_ascending}

-- names of the same parts are one
same_parts : (a b : ShardName) → a.keyspace ≡ b.keyspace → a.shard ≡ b.shard → a ≡ b
unfolding same_name
same_parts a b keyspace shard =
    let first : pointwise nat_eq a.keyspace b.keyspace ≡ true = (bytes_eq-Decides a.keyspace b.keyspace).1 keyspace in
    let second : pointwise nat_eq a.shard b.shard ≡ true = (bytes_eq-Decides a.shard b.shard).1 shard in
    same_name-is a b (ap (λ t. t && pointwise nat_eq a.shard b.shard) first ∙ second)

one_named : (wanted : Wanted) (shard : List ℕ) (a b : Named) → IsNamedBy wanted shard a → IsNamedBy wanted shard b → a ≡ b
one_named wanted shard a b as_a as_b =
    let name : a.name ≡ b.name = same_parts a.name b.name (as_a.keyspace ∙ sym as_b.keyspace) (as_a.shard_is ∙ sym as_b.shard_is) in
    let start : a.start ≡ b.start = as_a.start ∙ sym as_b.start in
    let last_key : a.last_key ≡ b.last_key = as_a.last_key ∙ sym as_b.last_key in
    let one : Named = record { name = b.name; start = a.start; last_key = a.last_key } in
    let two : Named = record { name = b.name; start = b.start; last_key = a.last_key } in
    let p : a ≡ one = ap (λ n. let m : Named = record { name = n; start = a.start; last_key = a.last_key } in m) name in
    let q : one ≡ two = ap (λ s. let m : Named = record { name = b.name; start = s; last_key = a.last_key } in m) start in
    let r : two ≡ b = ap (λ k. let m : Named = record { name = b.name; start = b.start; last_key = k } in m) last_key in
    p ∙ q ∙ r

all_named : (wanted : Wanted) (shards : List (List ℕ)) (a b : List Named) → AllZip (IsNamedBy wanted) shards a → AllZip (IsNamedBy wanted) shards b → a ≡ b
all_named wanted [] [] [] as_a as_b = refl
all_named wanted [] [] (n ∷ b) as_a as_b = absurd as_b
all_named wanted [] (m ∷ a) b as_a as_b = absurd as_a
all_named wanted (s ∷ shards) [] b as_a as_b = absurd as_a
all_named wanted (s ∷ shards) (m ∷ a) [] as_a as_b = absurd as_b
all_named wanted (s ∷ shards) (m ∷ a) (n ∷ b) as_a as_b =
    let one : m ≡ n = one_named wanted s m n as_a.0 as_b.0 in
    let rest : a ≡ b = all_named wanted shards a b as_a.1 as_b.1 in cc

one_listing : (c : ClusterBytes) (keyspace : List ℕ) (xs ys : List (List ℕ)) → IsListed (Some c) keyspace xs → IsListed (Some c) keyspace ys → xs ≡ ys
one_listing c keyspace xs ys listed_x listed_y =
    same_ascending xs ys listed_x.listing.ascending listed_y.listing.ascending (λ t. listed_x.names t ∙ sym (listed_y.names t))

shards_are : (c : ClusterBytes) (wanted : Wanted) (xs ys : List (List ℕ)) → AreShardsOf (Some c) wanted xs → AreShardsOf (Some c) wanted ys → xs ≡ ys
shards_are c wanted xs ys = by (asks_for_all wanted)
  where
    by : (all : Bool) → MatchBool all (IsListed (Some c) wanted.keyspace xs) (xs ≡ wanted.shard ∷ []) → MatchBool all (IsListed (Some c) wanted.keyspace ys) (ys ≡ wanted.shard ∷ []) → xs ≡ ys
    by true of_x of_y = one_listing c wanted.keyspace xs ys of_x of_y
    by false of_x of_y = of_x ∙ sym of_y

one_part : (c : ClusterBytes) (wanted : Wanted) (a b : List Named) → IsAskedBy (Some c) wanted a → IsAskedBy (Some c) wanted b → a ≡ b
one_part c wanted a b (xs, of_x, as_a) (ys, of_y, as_b) = all_named wanted ys a b (subst (λ l. AllZip (IsNamedBy wanted) l a) (shards_are c wanted xs ys of_x of_y) as_a) as_b

pub one_asked : (c : ClusterBytes) (entries : List Wanted) (a b : List Named) → AreAsked (Some c) entries a → AreAsked (Some c) entries b → a ≡ b
one_asked c [] a b none_a none_b = none_a ∙ sym none_b
one_asked c (wanted ∷ entries) a b (front, rest, is, part, later) (front', rest', is', part', later') =
    let same : front ≡ front' = one_part c wanted front front' part part' in
    let same_later : rest ≡ rest' = one_asked c entries rest rest' later later' in
    is ∙ ap (λ l. l ++ rest) same ∙ ap (λ l. front' ++ l) same_later ∙ sym is'

-- an entry in the middle asks for its part
part_of : (c : ClusterBytes) (before : List Wanted) (wanted : Wanted) (behind : List Wanted) (named : List Named) → AreAsked (Some c) (before ++ wanted ∷ behind) named → (part : List Named) × IsAskedBy (Some c) wanted part
part_of c [] wanted behind named (front, rest, is, part, later) = (front, part)
part_of c (w ∷ before) wanted behind named (front, rest, is, part, later) = part_of c before wanted behind rest later

-- a listing has a name, which is one of the cluster's
none_listed : (c : ClusterBytes) (keyspace : List ℕ) (shards : List (List ℕ)) → IsListed (Some c) keyspace shards → shard_names c keyspace ≡ [] → ⊥
none_listed c keyspace [] listed none = let some : 1 ≤ 0 = listed.listing.some in absurd (omega arith)
none_listed c keyspace (s ∷ shards) listed none = true≢false (sym (present s shards) ∙ listed.names s ∙ ap (λ l. has_text l s) none)

pub none_asked : (c : ClusterBytes) (entries : List Wanted) (named : List Named) (name : ShardName) → AreAsked (Some c) entries named → StopsAt (Some c) entries (Unknown name) → ⊥
none_asked c entries named name asked stops =
    let part = part_of c stops.before stops.wanted stops.behind named (subst (λ l. AreAsked (Some c) l named) stops.are asked) in
    let listed = subst (λ b. MatchBool b (IsListed (Some c) stops.wanted.keyspace part.1.0) (part.1.0 ≡ stops.wanted.shard ∷ [])) stops.unlisted.0.all part.1.1 in
    none_listed c stops.wanted.keyspace part.1.0 listed stops.unlisted.1
