-- What tablets in memory hold, before and after a call.
use Rattle.std.proofs.Common.{◌≡◌, ℕ, ◌+◌, ◌++◌, arith, Bool, true, false, ◌&&◌, not, List, [], ◌∷◌, get_or, position, Some, None, sym, ap, ◌∙◌}
use Rattle.std.proofs.Math.ListN.{set}
use Rattle.std.proofs.Math.Seq.{map-set_same}
use Rattle.std.specs.List.{list_all}
use Rattle.std.specs.Option.{option_map}
use Rattle.std.proofs.lemmas.Bool.{true≢false, and_parts}
use Rattle.std.proofs.lemmas.List.Folds.{list_all-append}
use Rattle.vs_base.specs.declared.shard_name.ShardName.{ShardName}
use Rattle.vs_base.specs.Names.{same_name}
use Rattle.vs_outside.specs.Counts.{Rose}
use Rattle.vs_outside.specs.Clusters.{find_shard}
use Rattle.vs_outside.specs.Memory.{cluster_of, shard_of, holds_no_failure, is_quiet, failures_of}
use Rattle.vs_outside.proofs.FeedLemmas.{times-again}
use Rattle.vs_outside.proofs.PlaceLemmas.{find-map, find-place, find-no_place, position-None, list_all-set}
use Rattle.vs_outside.specs.declared.mem_shard.Held.{Held}

abbrev pub has_name : ShardName → Held → Bool
has_name name h = same_name h.name name

-- a shard that is found at a place is the cluster's, and one that isn't found isn't the cluster's
pub find_shard-Some : (held : List Held) (name : ShardName) (place : ℕ) (h : Held) → position (has_name name) held ≡ Some place → h ≡ get_or held place h →
    find_shard (cluster_of held) name ≡ Some (shard_of h)
find_shard-Some held name place h at is =
    find-map (λ s. same_name s.name name) shard_of held ∙ ap (option_map shard_of) (find-place (has_name name) held place h at is)

pub find_shard-None : (held : List Held) (name : ShardName) → position (has_name name) held ≡ None → find_shard (cluster_of held) name ≡ None
find_shard-None held name none =
    find-map (λ s. same_name s.name name) shard_of held ∙ ap (option_map shard_of) (find-no_place (has_name name) held (position-None (has_name name) held none))

-- a shard that keeps its name, its bytes and its scripts
module _ (held : List Held) (place : ℕ) (h changed : Held) (is : h ≡ get_or held place h) where
  pub cluster_of-set : shard_of changed ≡ shard_of h → cluster_of (set held place changed) ≡ cluster_of held
  cluster_of-set same = map-set_same shard_of held place changed h (same ∙ ap shard_of is)

  pub no_failure-set : holds_no_failure changed ≡ holds_no_failure h → list_all holds_no_failure (set held place changed) ≡ list_all holds_no_failure held
  no_failure-set same = list_all-set holds_no_failure held place changed h (same ∙ ap holds_no_failure is)

-- tablets with a failure in a script aren't quiet
pub not_quiet_fetches : (held : List Held) (fetches lists : List Bool) → list_all not fetches ≡ false → is_quiet held fetches lists ≡ true → ⊥
not_quiet_fetches held fetches lists fails quiet =
    let parts = and_parts (list_all holds_no_failure held) (list_all not fetches && list_all not lists) quiet in
    true≢false (sym (and_parts (list_all not fetches) (list_all not lists) parts.1).0 ∙ fails)

pub not_quiet_lists : (held : List Held) (fetches lists : List Bool) → list_all not lists ≡ false → is_quiet held fetches lists ≡ true → ⊥
not_quiet_lists held fetches lists fails quiet =
    let parts = and_parts (list_all holds_no_failure held) (list_all not fetches && list_all not lists) quiet in
    true≢false (sym (and_parts (list_all not fetches) (list_all not lists) parts.1).1 ∙ fails)

pub all_before : {X : Type 0} (p : X → Bool) (xs more : List X) → list_all p (xs ++ more) ≡ true → list_all p xs ≡ true
all_before p xs more all = (and_parts (list_all p xs) (list_all p more) (sym (list_all-append p xs more) ∙ all)).0

-- tablets were quiet, if each part was so where it is so now
pub quiet_before : (held held' : List Held) (fetches fetches' lists lists' : List Bool) →
    (list_all holds_no_failure held' ≡ true → list_all holds_no_failure held ≡ true) →
    (list_all not fetches' ≡ true → list_all not fetches ≡ true) →
    (list_all not lists' ≡ true → list_all not lists ≡ true) →
    is_quiet held' fetches' lists' ≡ true → is_quiet held fetches lists ≡ true
quiet_before held held' fetches fetches' lists lists' from_held from_fetches from_lists quiet =
    let parts = and_parts (list_all holds_no_failure held') (list_all not fetches' && list_all not lists') quiet in
    let scripts = and_parts (list_all not fetches') (list_all not lists') parts.1 in
    ap (λ b. b && (list_all not fetches && list_all not lists)) (from_held parts.0) ∙ ap (λ b. b && list_all not lists) (from_fetches scripts.0) ∙ from_lists scripts.1

-- a name that failed once more
pub failures_of-rose : (failed now : List ShardName) (name : ShardName) → now ≡ failed ++ name ∷ [] → Rose (failures_of failed name) (failures_of now name)
failures_of-rose failed now name is =
    let more : failures_of now name ≡ failures_of failed name + 1 = ap (λ l. failures_of l name) is ∙ times-again failed name in
    omega arith
