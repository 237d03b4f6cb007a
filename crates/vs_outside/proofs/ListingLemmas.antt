-- The names of a keyspace's shards, gathered shard by shard.
use Rattle.std.proofs.Common.{◌≡◌, ℕ, ◌+◌, ◌<◌, Bool, true, false, ◌||◌, cond, nat_eq, List, [], ◌∷◌, ◌++◌, length, get_or, take, map, refl, sym, ap, ◌∙◌, append-nil}
use Rattle.std.specs.Ordering.{nat_cmp, match_ordering, is_eq}
use Rattle.std.specs.Cmp.Lexicographic.{pointwise, slice_cmp}
use Rattle.std.specs.declared.cmp.Ordering.{Ordering}
use Rattle.std.specs.declared.cmp.Ordering.TheVariants.{Less, Equal, Greater}
use Rattle.std.specs.BTreeSet.{insert_key}
use Rattle.std.proofs.lemmas.Bool.{true≢false}
use Rattle.std.proofs.lemmas.List.{take_more, map-append}
use Rattle.std.proofs.lemmas.List.Elements.{filter-append}
use Rattle.std.proofs.lemmas.List.Folds.{list_any-append}
use Rattle.std.proofs.lemmas.Map.Text.{is_eq-slice_cmp}
use Rattle.std.proofs.lemmas.Slice.Eq.{bytes_eq-Decides}
use Rattle.vs_outside.specs.Clusters.{AreNamesOf, has_text, shard_names}
use Rattle.vs_outside.specs.Memory.{cluster_of, shard_of}
use Rattle.vs_outside.specs.declared.mem_shard.Held.{Held}

or_nil : (b : Bool) → (b || false) ≡ b
or_nil true = refl
or_nil false = refl

or_swap : (a b c : Bool) → (a || (b || c)) ≡ ((b || c) || a)
or_swap true true c = refl
or_swap true false true = refl
or_swap true false false = refl
or_swap false b c = sym (or_nil (b || c))

or_again : (a b : Bool) → (a || b) ≡ ((a || b) || a)
or_again true b = refl
or_again false b = sym (or_nil b)

or_group : (a b c : Bool) → (a || (b || c)) ≡ ((a || b) || c)
or_group true b c = refl
or_group false b c = refl

-- a set of texts has those that it had and the one that was inserted
pub has_text-insert_key : (texts : List (List ℕ)) (text name : List ℕ) → has_text (insert_key (slice_cmp nat_cmp) texts text) name ≡ (has_text texts name || pointwise nat_eq name text)
has_text-insert_key [] text name = or_nil (pointwise nat_eq name text)
has_text-insert_key (x ∷ xs) text name = go (slice_cmp nat_cmp text x) refl (has_text-insert_key xs text name)
  where
    go : (r : Ordering) → slice_cmp nat_cmp text x ≡ r → has_text (insert_key (slice_cmp nat_cmp) xs text) name ≡ (has_text xs name || pointwise nat_eq name text) →
        has_text (match_ordering r (text ∷ x ∷ xs) (x ∷ xs) (x ∷ insert_key (slice_cmp nat_cmp) xs text)) name ≡ ((pointwise nat_eq name x || has_text xs name) || pointwise nat_eq name text)
    go Less e later = or_swap (pointwise nat_eq name text) (pointwise nat_eq name x) (has_text xs name)
    go Equal e later =
        let same : text ≡ x = (bytes_eq-Decides text x).0 (sym (is_eq-slice_cmp text x) ∙ ap is_eq e) in
        or_again (pointwise nat_eq name x) (has_text xs name) ∙ ap (λ t. (pointwise nat_eq name x || has_text xs name) || pointwise nat_eq name t) (sym same)
    go Greater e later = ap (λ b. pointwise nat_eq name x || b) later ∙ or_group (pointwise nat_eq name x) (has_text xs name) (pointwise nat_eq name text)

shard_names_more : (held : List Held) (keyspace : List ℕ) (at : ℕ) (h : Held) → at < length held → h ≡ get_or held at h →
    shard_names (cluster_of (take (at + 1) held)) keyspace
    ≡ shard_names (cluster_of (take at held)) keyspace ++ cond (pointwise nat_eq h.name.keyspace keyspace) (h.name.shard ∷ []) []
shard_names_more held keyspace at h inside is =
    ap (λ l. shard_names (cluster_of l) keyspace) (take_more held at h inside ∙ ap (λ x. take at held ++ x ∷ []) (sym is))
    ∙ ap (λ c. shard_names c keyspace) (map-append shard_of (take at held) (h ∷ []))
    ∙ ap (map (λ s. s.name.shard)) (filter-append (λ s. pointwise nat_eq s.name.keyspace keyspace) (cluster_of (take at held)) (shard_of h ∷ []))
    ∙ map-append (λ s. s.name.shard) _ _
    ∙ ap (λ l. shard_names (cluster_of (take at held)) keyspace ++ l) (last (pointwise nat_eq h.name.keyspace keyspace))
  where
    last : (b : Bool) → map (λ s. s.name.shard) (cond b (shard_of h ∷ []) []) ≡ cond b (h.name.shard ∷ []) []
    last true = refl
    last false = refl

-- one shard more, which is of the keyspace
pub AreNamesOf-more : (held : List Held) (keyspace : List ℕ) (at : ℕ) (h : Held) (names : List (List ℕ)) → at < length held →
    h ≡ get_or held at h → pointwise nat_eq h.name.keyspace keyspace ≡ true →
    AreNamesOf (cluster_of (take at held)) keyspace names →
    AreNamesOf (cluster_of (take (at + 1) held)) keyspace (insert_key (slice_cmp nat_cmp) names h.name.shard)
AreNamesOf-more held keyspace at h names inside is same so_far name =
    let shard : List ℕ = h.name.shard in
    let before : List (List ℕ) = shard_names (cluster_of (take at held)) keyspace in
    let more : shard_names (cluster_of (take (at + 1) held)) keyspace ≡ before ++ shard ∷ [] =
    shard_names_more held keyspace at h inside is ∙ ap (λ b. before ++ cond b (shard ∷ []) []) same
    in
    has_text-insert_key names shard name
    ∙ ap (λ b. b || pointwise nat_eq name shard) (so_far name)
    ∙ ap (λ b. has_text before name || b) (sym (or_nil (pointwise nat_eq name shard)))
    ∙ sym (ap (λ l. has_text l name) more ∙ list_any-append (pointwise nat_eq name) before (shard ∷ []))

-- one shard more, of another keyspace
pub AreNamesOf-other : (held : List Held) (keyspace : List ℕ) (at : ℕ) (h : Held) (names : List (List ℕ)) → at < length held →
    h ≡ get_or held at h → pointwise nat_eq h.name.keyspace keyspace ≡ false →
    AreNamesOf (cluster_of (take at held)) keyspace names →
    AreNamesOf (cluster_of (take (at + 1) held)) keyspace names
AreNamesOf-other held keyspace at h names inside is other so_far name =
    let before : List (List ℕ) = shard_names (cluster_of (take at held)) keyspace in
    let same : shard_names (cluster_of (take (at + 1) held)) keyspace ≡ before =
    shard_names_more held keyspace at h inside is ∙ ap (λ b. before ++ cond b (h.name.shard ∷ []) []) other ∙ append-nil before
    in
    so_far name ∙ ap (λ l. has_text l name) (sym same)

-- no names are those of no shards
pub no_names : (texts : List (List ℕ)) → ((name : List ℕ) → has_text [] name ≡ has_text texts name) → texts ≡ []
no_names [] same = refl
no_names (x ∷ xs) same =
    let there : has_text (x ∷ xs) x ≡ true = ap (λ b. b || has_text xs x) ((bytes_eq-Decides x x).1 refl) in
    absurd (true≢false (sym there ∙ sym (same x)))
