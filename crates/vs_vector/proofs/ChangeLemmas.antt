-- What the steps of a change make of a vector.
use Rattle.std.proofs.Common.{◌≡◌, ℕ, ◌+◌, ◌<◌, ◌≤◌, ◌⊎◌, Bool, true, false, not, List, [], ◌∷◌, ◌++◌, map, filter, length, Some, None, Result, Ok, Err, OnOk, OnErr, IfErr, nat_lt, refl, ap, sym, subst, ◌∙◌, inl, inr, ⊎_elim, if◌then◌else◌, arith, append_assoc, length-append}
use Rattle.std.specs.List.{find, list_any}
use Rattle.std.proofs.lemmas.Bool.{le-ltb, lt-ltb}
use Rattle.std.proofs.lemmas.List.{append-nil, length-map}
use Rattle.vs_base.specs.Names.{names_differ}
use Rattle.vs_base.specs.declared.ShardName.{ShardName}
use Rattle.vs_base.specs.declared.Gtid.{Gtid}
use Rattle.vs_gtid.specs.declared.journal.Successor.{Successor}
use Rattle.vs_gtid.specs.Vectors.{Place, Vector, place_of, stands, moved, names, begun_at, is_in, replaced}
use Rattle.vs_gtid.specs.Vectors.Place.{Streaming}
use Rattle.vs_vector.specs.Changes.{IsMade, advanced, advanced_from, limited_place, moved_to, place_with, replaced_in, replaced_where, with_room}
use Rattle.vs_vector.specs.Places.{IsLawfulPlace, IsVector, entry_place, most_shards}
use Rattle.vs_vector.specs.declared.place.ShardAt.{ShardAt}
use Rattle.vs_vector.specs.declared.refusal.VectorRefusal.{VectorRefusal}
use Rattle.vs_vector.specs.declared.refusal.VectorRefusal.TheVariants.{TooManyShards, Memory}
use Rattle.vs_vector.proofs.VectorLemmas.{IsVector-moved, absent-of-differ, differ-append, differ-less, differ-next, moved-same, none-filter}

-- an entry that was taken on by a GTID, in the vector
pub advance_made : {X : Type 0} (v new : Vector) (s : ShardName) (g : Gtid) (old at : ShardAt) (r : Result X VectorRefusal) → place_of v s ≡ Some (entry_place old) → new ≡ moved v s (entry_place at) →
    OnOk r (limited_place (place_with (entry_place old) g) ≡ Ok (entry_place at)) → OnErr r (at ≡ old) →
    IfErr r (λ e. (e ≡ Memory) ⊎ (limited_place (place_with (entry_place old) g) ≡ Err e)) → IsMade (advanced v s g) v new r
advance_made v new s g old at (Ok x) there is ok same why = ap (λ o. moved_to v s (advanced_from s o g)) there ∙ ap (moved_to v s) ok ∙ ap (λ w. Ok w) (sym is)
advance_made v new s g old at (Err e) there is ok same why = (
  is ∙ ap (λ a. moved v s (entry_place a)) same ∙ moved-same v s (entry_place old) there,
  ⊎_elim (λ m. inl m) (λ h. inr (ap (λ o. moved_to v s (advanced_from s o g)) there ∙ ap (moved_to v s) h)) why,
)

pub advance_lawful : {X : Type 0} (v new : Vector) (s : ShardName) (old at : ShardAt) (r : Result X VectorRefusal) → place_of v s ≡ Some (entry_place old) → new ≡ moved v s (entry_place at) →
    OnErr r (at ≡ old) → OnOk r (IsLawfulPlace (entry_place at)) → IsVector v → IsVector new
advance_lawful v new s old at (Ok x) there is same lawful keeps = subst IsVector (sym is) (IsVector-moved v s (entry_place at) lawful keeps)
advance_lawful v new s old at (Err e) there is same lawful keeps =
    subst IsVector (sym (is ∙ ap (λ a. moved v s (entry_place a)) same ∙ moved-same v s (entry_place old) there)) keeps

-- the copy has what is kept of the slots so far, and the rest is left
pub record IsCopying (keep : ShardName × Place → Bool) (copy rest all : Vector) : Type 0 where
  pub gives : copy ++ filter keep rest ≡ filter keep all
  pub differ : names_differ (names copy ++ names rest) ≡ true
  pub room : length copy + length rest ≤ most_shards

pub copying-next : (keep : ShardName × Place → Bool) (copy new rest all : Vector) (slot : ShardName × Place) → IsCopying keep copy (slot ∷ rest) all → new ≡ copy ++ filter keep (slot ∷ []) →
    IsCopying keep new rest all
copying-next keep copy new rest all slot on e = by (keep slot) refl
  where
    by : (x : Bool) → keep slot ≡ x → IsCopying keep new rest all
    by true p =
        let is : new ≡ copy ++ slot ∷ [] = e ∙ ap (λ y. copy ++ (if y then slot ∷ [] else [])) p in
        let long : length new ≡ length copy + 1 = ap length is ∙ length-append copy (slot ∷ []) in
        record {
          gives = ap (λ l. l ++ filter keep rest) is ∙ append_assoc copy (slot ∷ []) (filter keep rest) ∙ ap (λ y. copy ++ (if y then slot ∷ filter keep rest else filter keep rest)) (sym p) ∙ on.gives;
          differ = ap (λ l. names_differ (names l ++ names rest)) is ∙ differ-next copy slot.0 slot.1 (names rest) on.differ;
          room = omega (arith, long, on.room);
        }
    by false p =
        let is : new ≡ copy = e ∙ ap (λ y. copy ++ (if y then slot ∷ [] else [])) p ∙ append-nil copy in
        let long : length new ≡ length copy = ap length is in
        record {
          gives = ap (λ l. l ++ filter keep rest) is ∙ ap (λ y. copy ++ (if y then slot ∷ filter keep rest else filter keep rest)) (sym p) ∙ on.gives;
          differ = ap (λ l. names_differ (names l ++ names rest)) is ∙ differ-less copy slot.0 (names rest) on.differ;
          room = omega (arith, long, on.room);
        }

pub copying-absent : (keep : ShardName × Place → Bool) (copy rest all : Vector) (slot : ShardName × Place) → IsCopying keep copy (slot ∷ rest) all → stands copy slot.0 ≡ false
copying-absent keep copy rest all slot on = absent-of-differ copy slot.0 (names rest) on.differ

pub copying-room : (keep : ShardName × Place → Bool) (copy rest all : Vector) (slot : ShardName × Place) → IsCopying keep copy (slot ∷ rest) all → length copy < most_shards
copying-room keep copy rest all slot on = omega (arith, on.room)

pub copying-begins : (keep : ShardName × Place → Bool) (copy all : Vector) → copy ≡ [] → IsVector all → IsCopying keep copy all all
copying-begins keep copy all none it = subst (λ c. IsCopying keep c all all) (sym none) (record {
  gives = refl;
  differ = it.distinct;
  room = omega (arith, it.few);
})

pub copying-ends : (keep : ShardName × Place → Bool) (copy rest all : Vector) → IsCopying keep copy rest all → rest ≡ [] → copy ≡ filter keep all
copying-ends keep copy rest all on none = sym (append-nil copy) ∙ ap (λ r. copy ++ filter keep r) (sym none) ∙ on.gives

-- the shards that don't leave
abbrev pub stays : List ShardName → ShardName × Place → Bool
stays leaving slot = not (is_in slot.0 leaving)

-- nobody leaves
pub all-stay : (v : Vector) → filter (stays []) v ≡ v
all-stay [] = refl
all-stay (slot ∷ v) = ap (λ l. slot ∷ l) (all-stay v)

-- the slots of some successors
abbrev pub IsJoining : Vector → List Successor → Vector → Type 0
IsJoining next left all = (next ++ begun_at left ≡ all) × (names_differ (names next ++ map (λ n. n.name) left) ≡ true) × (length next + length left ≤ most_shards)

pub joining-next : (next new : Vector) (n : Successor) (left : List Successor) (all : Vector) → IsJoining next (n ∷ left) all → new ≡ next ++ (n.name, Streaming n.position) ∷ [] → IsJoining new left all
joining-next next new n left all on is =
    let long : length new ≡ length next + 1 = ap length is ∙ length-append next ((n.name, Streaming n.position) ∷ []) in
    let room : length next + length (n ∷ left) ≤ most_shards = on.2 in (
      ap (λ l. l ++ begun_at left) is ∙ append_assoc next ((n.name, Streaming n.position) ∷ []) (begun_at left) ∙ on.0,
      ap (λ l. names_differ (names l ++ map (λ (m : Successor). m.name) left)) is ∙ differ-next next n.name (Streaming n.position) (map (λ (m : Successor). m.name) left) on.1,
      omega (arith, long, room),
    )

pub joining-absent : (next : Vector) (n : Successor) (left : List Successor) (all : Vector) → IsJoining next (n ∷ left) all → stands next n.name ≡ false
joining-absent next n left all on = absent-of-differ next n.name (map (λ (m : Successor). m.name) left) on.1

pub joining-room : (next : Vector) (n : Successor) (left : List Successor) (all : Vector) → IsJoining next (n ∷ left) all → length next < most_shards
joining-room next n left all on = let room : length next + length (n ∷ left) ≤ most_shards = on.2 in omega (arith, room)

module _ (v : Vector) (leaving : List ShardName) (ns : List Successor) where
  found_none : find (λ s. not (stands v s)) leaving ≡ None → find (λ n. stands v n.name) ns ≡ None → replaced_in v leaving ns ≡ with_room (length (replaced v leaving ns)) (replaced v leaving ns)
  found_none there new =
      ap (λ o. replaced_where o (find (λ n. stands v n.name) ns) (replaced v leaving ns)) there ∙ ap (λ o. replaced_where None o (replaced v leaving ns)) new

  pub replaced-made : (kept w : Vector) → find (λ s. not (stands v s)) leaving ≡ None → find (λ n. stands v n.name) ns ≡ None →
      kept ≡ filter (stays leaving) v → w ≡ kept ++ begun_at ns → length kept + length ns ≤ most_shards → replaced_in v leaving ns ≡ Ok w
  replaced-made kept w there new is all few =
      let whole : replaced v leaving ns ≡ w = ap (λ k. k ++ begun_at ns) (sym is) ∙ sym all in
      let long : length w ≡ length kept + length (begun_at ns) = ap length all ∙ length-append kept (begun_at ns) in
      let short : length w ≤ most_shards = rw (long, length-map {B = ShardName × Place} ns (λ (n : Successor). (n.name, Streaming n.position))) few in
      found_none there new ∙ ap (λ u. with_room (length u) u) whole ∙ ap (λ b. if b then Err (TooManyShards (length w)) else Ok w) (le-ltb most_shards (length w) short)

  pub replaced-too_many : (kept : Vector) (n : ℕ) → find (λ s. not (stands v s)) leaving ≡ None → find (λ n. stands v n.name) ns ≡ None →
      kept ≡ filter (stays leaving) v → n ≡ length kept + length ns → most_shards < n → replaced_in v leaving ns ≡ Err (TooManyShards n)
  replaced-too_many kept n there new is counts many =
      let u = replaced v leaving ns in
      let long : length u ≡ n = ap (λ k. length (k ++ begun_at ns)) (sym is) ∙ length-append kept (begun_at ns) ∙ ap (λ m. length kept + m) (length-map {B = ShardName × Place} ns (λ (n : Successor). (n.name, Streaming n.position))) ∙ sym counts in
      found_none there new ∙ ap (λ m. if nat_lt most_shards m then Err (TooManyShards m) else Ok u) long ∙ ap (λ b. if b then Err (TooManyShards n) else Ok u) (lt-ltb most_shards n many)

  -- the successors differ from those that stay, and from each other
  pub joining-begins : (kept : Vector) → find (λ n. stands v n.name) ns ≡ None → kept ≡ filter (stays leaving) v → names_differ (names kept) ≡ true →
      names_differ (map (λ n. n.name) ns) ≡ true → names_differ (names kept ++ map (λ n. n.name) ns) ≡ true
  joining-begins kept new is differ others =
      differ-append kept (map (λ (n : Successor). n.name) ns) differ others
      (subst (λ k. list_any (stands k) (map (λ (n : Successor). n.name) ns) ≡ false) (sym is) (none-filter (λ (n : Successor). n.name) (stays leaving) v ns new))
