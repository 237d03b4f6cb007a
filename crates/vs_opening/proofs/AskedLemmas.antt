-- The shards that entries ask for, entry by entry.
use Rattle.std.proofs.Common.{◌≡◌, ◌==◌, ◌≤◌, ◌<◌, ℕ, ◌+◌, Bool, true, false, ◌&&◌, not, List, [], ◌∷◌, ◌++◌, length, get_or, take, drop, nat_le, Option, refl, sym, ap, subst, ◌∙◌, append_assoc, append-nil, arith}
use Rattle.std.specs.Prelude.{All, IfSome, IsTrue, MatchBool, Some, None}
use Rattle.std.specs.Option.{ForSome}
use Rattle.std.specs.List.{AllByRecursion, AllZip, list_all}
use Rattle.std.proofs.lemmas.Bool.{and_parts, leb-true}
use Rattle.std.proofs.lemmas.List.{take_more}
use Rattle.std.proofs.lemmas.List.Elements.{recursion_from_All}
use Rattle.vs_base.specs.declared.ShardName.{ShardName}
use Rattle.vs_outside.specs.Clusters.{AreNamesOf, ClusterBytes, IsListing, shard_names}
use Rattle.vs_outside.specs.Names.{has_name_length, is_dots, is_shard_byte, is_shard_text}
use Rattle.vs_request.specs.declared.request.Wanted.{Wanted}
use Rattle.vs_opening.specs.declared.named.Named.{Named}
use Rattle.vs_opening.specs.declared.names.NamesEnd.{NamesEnd}
use Rattle.vs_opening.specs.declared.names.NamesEnd.TheVariants.{Unknown, Failed, TooMany, Repeated, Memory}
use Rattle.vs_opening.specs.Asked.{AreAsked, AreNotNamed, IsAskedBy, IsListed, IsNamedBy, IsUnlisted, asks_for_all}
use Rattle.vs_opening.proofs.NameLists.{split_at}

-- an entry more
AreAsked-push : (told : Option ClusterBytes) (entries : List Wanted) (wanted : Wanted) (named part : List Named) → AreAsked told entries named → IsAskedBy told wanted part →
    AreAsked told (entries ++ wanted ∷ []) (named ++ part)
AreAsked-push told [] wanted named part none by = (part, [], ap (λ l. l ++ part) none ∙ sym (append-nil part), by, refl)
AreAsked-push told (w ∷ entries) wanted named part (front, rest, is, first, later) by =
    (front, rest ++ part, ap (λ l. l ++ part) is ∙ append_assoc front rest part, first, AreAsked-push told entries wanted rest part later by)

-- the entry at the next place asked for the part behind
pub AreAsked-more : (told : Option ClusterBytes) (entries : List Wanted) (i : ℕ) (wanted : Wanted) (before now part : List Named) → i < length entries → wanted ≡ get_or entries i wanted →
    AreAsked told (take i entries) before → now ≡ before ++ part → IsAskedBy told wanted part → AreAsked told (take (i + 1) entries) now
AreAsked-more told entries i wanted before now part inside is asked more by =
    let next : take (i + 1) entries ≡ take i entries ++ wanted ∷ [] = take_more entries i wanted inside ∙ ap (λ w. take i entries ++ w ∷ []) (sym is) in
    subst (λ l. AreAsked told l now) (sym next) (subst (λ l. AreAsked told (take i entries ++ wanted ∷ []) l) (sym more) (AreAsked-push told (take i entries) wanted before part asked by))

-- the entry at a place isn't listed
pub stops_there : (told : Option ClusterBytes) (entries : List Wanted) (i : ℕ) (wanted : Wanted) (named : List Named) (end : NamesEnd) → i < length entries → wanted ≡ get_or entries i wanted →
    AreAsked told (take i entries) named → IsUnlisted told wanted end → AreNotNamed told entries end
stops_there told entries i wanted named (Unknown name) inside is asked none = record {
  before = take i entries;
  wanted = wanted;
  behind = drop (i + 1) entries;
  are = split_at entries i wanted inside is;
  named = named;
  asked = asked;
  unlisted = none;
}
stops_there told entries i wanted named (Failed name) inside is asked none = record {
  before = take i entries;
  wanted = wanted;
  behind = drop (i + 1) entries;
  are = split_at entries i wanted inside is;
  named = named;
  asked = asked;
  unlisted = none;
}
stops_there told entries i wanted named (TooMany n) inside is asked none = absurd none
stops_there told entries i wanted named (Repeated name) inside is asked none = absurd none
stops_there told entries i wanted named Memory inside is asked none = tt

zip_push : (wanted : Wanted) (shards : List (List ℕ)) (part : List Named) (shard : List ℕ) (one : Named) → AllZip (IsNamedBy wanted) shards part → IsNamedBy wanted shard one →
    AllZip (IsNamedBy wanted) (shards ++ shard ∷ []) (part ++ one ∷ [])
zip_push wanted [] [] shard one named_by by = (by, tt)
zip_push wanted [] (n ∷ part) shard one named_by by = absurd named_by
zip_push wanted (s ∷ shards) [] shard one named_by by = absurd named_by
zip_push wanted (s ∷ shards) (n ∷ part) shard one named_by by = (named_by.0, zip_push wanted shards part shard one named_by.1 by)

-- the shard at the next place is named too
pub named_by-more : (wanted : Wanted) (shards : List (List ℕ)) (i : ℕ) (shard : List ℕ) (part : List Named) (one : Named) → i < length shards → shard ≡ get_or shards i shard →
    AllZip (IsNamedBy wanted) (take i shards) part → IsNamedBy wanted shard one → AllZip (IsNamedBy wanted) (take (i + 1) shards) (part ++ one ∷ [])
named_by-more wanted shards i shard part one inside is named_by by =
    let next : take (i + 1) shards ≡ take i shards ++ shard ∷ [] = take_more shards i shard inside ∙ ap (λ s. take i shards ++ s ∷ []) (sym is) in
    subst (λ l. AllZip (IsNamedBy wanted) l (part ++ one ∷ [])) (sym next) (zip_push wanted (take i shards) part shard one named_by by)

-- an entry asks for all that are listed
pub IsAskedBy-all : (told : Option ClusterBytes) (wanted : Wanted) (shards : List (List ℕ)) (named : List Named) → asks_for_all wanted ≡ true → IsListed told wanted.keyspace shards →
    AllZip (IsNamedBy wanted) shards named → IsAskedBy told wanted named
IsAskedBy-all told wanted shards named all listed named_by =
    (shards, subst (λ b. MatchBool b (IsListed told wanted.keyspace shards) (shards ≡ wanted.shard ∷ [])) (sym all) listed, named_by)

-- or for the one that it names
pub IsAskedBy-one : (told : Option ClusterBytes) (wanted : Wanted) (named : Named) → asks_for_all wanted ≡ false → IsNamedBy wanted wanted.shard named → IsAskedBy told wanted (named ∷ [])
IsAskedBy-one told wanted named one named_by =
    (wanted.shard ∷ [], subst (λ b. MatchBool b (IsListed told wanted.keyspace (wanted.shard ∷ [])) (wanted.shard ∷ [] ≡ wanted.shard ∷ [])) (sym one) refl, (named_by, tt))
