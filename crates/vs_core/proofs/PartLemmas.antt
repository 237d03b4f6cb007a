-- The parts of a vector's message, where a shard moves.
use Rattle.std.proofs.Common.{◌≡◌, ℕ, suc, ◌+◌, ◌<◌, Bool, true, false, not, cond, List, [], ◌∷◌, length, get_or, position, Option, Some, None, is_some, refl, ap, sym, ◌∙◌, if◌then◌else◌, true≢false, arith}
use Rattle.std.specs.List.{find, position_or_len}
use Rattle.std.specs.Option.{option_map}
use Rattle.std.proofs.lemmas.List.Quantifiers.{position-Some}
use Rattle.std.proofs.Math.ListN.{set}
use Rattle.vs_base.proofs.NameLemmas.{same_name-is}
use Rattle.vs_base.specs.Names.{same_name}
use Rattle.vs_base.specs.declared.ShardName.{ShardName}
use Rattle.vs_gather.proofs.KeptLemmas.{first_place, found_there, none_found}
use Rattle.vs_gtid.specs.Vectors.{Place, Vector, moved, place_of, stands}
use Rattle.vs_gtid.specs.Vectors.Place.{Fresh, Copying, Streaming}
use Rattle.vs_proto.specs.declared.vgtid.ShardGtid.{ShardGtid}
use Rattle.vs_vector.proofs.VectorLemmas.{moved-same}
use Rattle.vs_vector.specs.Messages.{shard_gtid_of, shard_gtids_of}
use Rattle.vs_core.specs.Parts.{is_part_of}

part_named : (n s : ShardName) (p : Place) → is_part_of s (shard_gtid_of n p) ≡ same_name n s
unfolding same_name
part_named n s Fresh = refl
part_named n s (Copying q last) = refl
part_named n s (Streaming q) = refl

part_set : (v : Vector) (s : ShardName) (p : Place) → position_or_len (is_part_of s) (shard_gtids_of v) < length (shard_gtids_of v) →
    set (shard_gtids_of v) (position_or_len (is_part_of s) (shard_gtids_of v)) (shard_gtid_of s p) ≡ shard_gtids_of (moved v s p)
part_set [] s p within = absurd (omega (arith, within))
part_set (slot ∷ v) s p within = by (same_name slot.0 s) (is_part_of s (shard_gtid_of slot.0 slot.1)) refl (part_named slot.0 s slot.1) within (λ h. part_set v s p h)
  where
    by : (same part : Bool) → same_name slot.0 s ≡ same → part ≡ same →
        cond (not part) (1 + position_or_len (is_part_of s) (shard_gtids_of v)) 0 < suc (length (shard_gtids_of v)) →
        (position_or_len (is_part_of s) (shard_gtids_of v) < length (shard_gtids_of v) →
        set (shard_gtids_of v) (position_or_len (is_part_of s) (shard_gtids_of v)) (shard_gtid_of s p) ≡ shard_gtids_of (moved v s p)) →
        set (shard_gtid_of slot.0 slot.1 ∷ shard_gtids_of v) (cond (not part) (1 + position_or_len (is_part_of s) (shard_gtids_of v)) 0) (shard_gtid_of s p)
        ≡ shard_gtids_of (if same then (slot.0, p) ∷ v else slot ∷ moved v s p)
    by true true e are inside on = ap (λ n. shard_gtid_of n p ∷ shard_gtids_of v) (sym (same_name-is slot.0 s e))
    by true false e are inside on = absurd (true≢false (sym are))
    by false true e are inside on = absurd (true≢false are)
    by false false e are inside on =
        let n = position_or_len (is_part_of s) (shard_gtids_of v) in
        let next : suc n ≡ 1 + n = omega arith in
        ap (λ m. set (shard_gtid_of slot.0 slot.1 ∷ shard_gtids_of v) m (shard_gtid_of s p)) (sym next) ∙ ap (λ l. shard_gtid_of slot.0 slot.1 ∷ l) (on (omega (arith, inside)))

part_found : (v : Vector) (s : ShardName) → find (is_part_of s) (shard_gtids_of v) ≡ option_map (shard_gtid_of s) (place_of v s)
part_found [] s = refl
part_found (slot ∷ v) s = by (same_name slot.0 s) (is_part_of s (shard_gtid_of slot.0 slot.1)) refl (part_named slot.0 s slot.1) (part_found v s)
  where
    by : (same part : Bool) → same_name slot.0 s ≡ same → part ≡ same → find (is_part_of s) (shard_gtids_of v) ≡ option_map (shard_gtid_of s) (place_of v s) →
        (if part then Some (shard_gtid_of slot.0 slot.1) else find (is_part_of s) (shard_gtids_of v)) ≡ option_map (shard_gtid_of s) (if same then Some slot.1 else place_of v s)
    by true true e are on = ap (λ n. Some (shard_gtid_of n slot.1)) (same_name-is slot.0 s e)
    by true false e are on = absurd (true≢false (sym are))
    by false true e are on = absurd (true≢false are)
    by false false e are on = on

some_part : (v : Vector) (s : ShardName) → stands v s ≡ true → is_some (option_map (shard_gtid_of s) (place_of v s)) ≡ true
some_part v s there = by (place_of v s) there
  where
    by : (o : Option Place) → is_some o ≡ true → is_some (option_map (shard_gtid_of s) o) ≡ true
    by None e = e
    by (Some p) e = refl

module _ (parts : List ShardGtid) (v : Vector) (s : ShardName) (are : parts ≡ shard_gtids_of v) where
  -- a shard of the vector has a part
  pub part_stands : {X : Type 0} → stands v s ≡ true → position (is_part_of s) parts ≡ None → X
  part_stands there none =
      absurd (true≢false (sym (some_part v s there) ∙ ap is_some (sym (part_found v s) ∙ ap (find (is_part_of s)) (sym are) ∙ none_found (is_part_of s) parts none)))

  -- it is the one of its entry
  pub part_old : (p : Place) (i : ℕ) (x : ShardGtid) → place_of v s ≡ Some p → position (is_part_of s) parts ≡ Some i → x ≡ get_or parts i x → x ≡ shard_gtid_of s p
  part_old p i x there at is =
      let found : Some x ≡ Some (shard_gtid_of s p) = sym (found_there (is_part_of s) parts i x at is) ∙ ap (find (is_part_of s)) are ∙ part_found v s ∙ ap (option_map (shard_gtid_of s)) there in
      cc

  -- with another part there it is the message of the vector in which the shard has moved
  pub part_new : (p : Place) (i : ℕ) → position (is_part_of s) parts ≡ Some i → set parts i (shard_gtid_of s p) ≡ shard_gtids_of (moved v s p)
  part_new p i at =
      let within = (position-Some (is_part_of s) parts i (shard_gtid_of s p) at).0 in
      let first = first_place (is_part_of s) parts i at in
      let inside : position_or_len (is_part_of s) parts < length parts = omega (arith, within, first) in
      ap (λ m. set parts m (shard_gtid_of s p)) first ∙ rw are (part_set v s p (rw (← are) inside))

-- a shard that moves, and moves back
pub moved-back : (v : Vector) (s : ShardName) (p q : Place) → place_of v s ≡ Some q → moved (moved v s p) s q ≡ v
moved-back [] s p q there = refl
moved-back (slot ∷ v) s p q there = by (same_name slot.0 s) refl there (λ h. moved-back v s p q h)
  where
    by : (b : Bool) → same_name slot.0 s ≡ b → (if b then Some slot.1 else place_of v s) ≡ Some q → (place_of v s ≡ Some q → moved (moved v s p) s q ≡ v) →
        moved (if b then (slot.0, p) ∷ v else slot ∷ moved v s p) s q ≡ slot ∷ v
    by true e is on = let same : slot.1 ≡ q = cc in rw e (ap (λ r. (slot.0, r) ∷ v) (sym same))
    by false e is on = rw e (ap (λ l. slot ∷ l) (on is))

pub stands-moved : (v : Vector) (s : ShardName) (p : Place) → stands (moved v s p) s ≡ stands v s
stands-moved [] s p = refl
stands-moved (slot ∷ v) s p = by (same_name slot.0 s) refl (stands-moved v s p)
  where
    by : (b : Bool) → same_name slot.0 s ≡ b → stands (moved v s p) s ≡ stands v s →
        stands (if b then (slot.0, p) ∷ v else slot ∷ moved v s p) s ≡ is_some (if b then Some slot.1 else place_of v s)
    by true e on = rw e refl
    by false e on = rw e on
