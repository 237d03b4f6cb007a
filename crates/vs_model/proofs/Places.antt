-- The places of shards in a vector that has moved, or switched.
use Rattle.std.proofs.Common.{◌≡◌, true, false, not, cond, ◌||◌, List, [], ◌∷◌, ◌++◌, map, Option, Some, None, IsFalse, is_some, filter, refl, ap, sym, ◌∙◌, subst, ◌⊎◌, inl, inr, ⊎_elim, true≢false}
use Rattle.std.specs.List.{list_any, AllByRecursion}
use Rattle.std.specs.Option.{option_or}
use Rattle.std.proofs.lemmas.Bool.{cases_Bool, cond-true, cond-false, false_from_ne_true, or_left}
use Rattle.vs_base.specs.declared.ShardName.{ShardName}
use Rattle.vs_base.proofs.NameLemmas.{same_name-is}
use Rattle.vs_gtid.specs.declared.JournalValue.{JournalValue}
use Rattle.vs_gtid.specs.declared.Successor.{Successor}
use Rattle.vs_model.specs.Names.{Position, same_name, is_in}
use Rattle.vs_gtid.specs.Vectors.{Place, Vector, place_of, stands, names, is_copy, Streams, Copies, moved, successors_of, switched}
use Rattle.vs_gtid.specs.Vectors.Place.{Fresh, Copying, Streaming}
use Rattle.vs_model.proofs.Lists.{same_some, some_is_not_none}

position_or : Position → Place → Position
position_or d Fresh = d
position_or d (Copying p l) = p
position_or d (Streaming p) = p

pub same_position : (v : Vector) (s : ShardName) (p q : Position) → Streams v s p → Streams v s q → p ≡ q
unfolding position_or
same_position v s p q a b = ap (position_or p) (same_some _ _ (sym a ∙ b))

-- a shard that streams does not copy
pub streams_or_copies : (v : Vector) (s : ShardName) (p : Position) (place : Place) → Streams v s p → Copies v s place → ⊥
streams_or_copies v s p place streams copies =
    true≢false (sym copies.1 ∙ ap is_copy (same_some place (Streaming p) (sym copies.0 ∙ streams)))

pub at_name : (v : Vector) (s : ShardName) (slot : ShardName × Place) → same_name slot.0 s ≡ true → place_of (slot ∷ v) s ≡ Some slot.1
at_name v s slot e = cond-true (same_name slot.0 s) (Some slot.1) (place_of v s) e

pub past_name : (v : Vector) (s : ShardName) (slot : ShardName × Place) → same_name slot.0 s ≡ false → place_of (slot ∷ v) s ≡ place_of v s
past_name v s slot e = cond-false (same_name slot.0 s) (Some slot.1) (place_of v s) e

-- whatever holds with and without the move at the first slot holds of the moved vector
pub moved_either : (C : Vector → Type 0) (v : Vector) (s : ShardName) (place : Place) (slot : ShardName × Place) →
    (same_name slot.0 s ≡ true → C ((slot.0, place) ∷ v)) → (same_name slot.0 s ≡ false → C (slot ∷ moved v s place)) → C (moved (slot ∷ v) s place)
moved_either C v s place slot here there =
    ⊎_elim (λ e. subst C (sym (cond-true (same_name slot.0 s) _ _ e)) (here e))
    (λ e. subst C (sym (cond-false (same_name slot.0 s) _ _ e)) (there e))
    (cases_Bool (same_name slot.0 s))

pub place_of-moved : (v : Vector) (s : ShardName) (place : Place) → stands v s ≡ true → place_of (moved v s place) s ≡ Some place
place_of-moved [] s place h = absurd (true≢false (sym h))
place_of-moved (slot ∷ v) s place h =
    moved_either (λ w. place_of w s ≡ Some place) v s place slot
    (λ e. at_name v s (slot.0, place) e)
    (λ e. past_name (moved v s place) s slot e ∙ place_of-moved v s place (sym (ap is_some (past_name v s slot e)) ∙ h))

pub place_of-moved_other : (v : Vector) (s t : ShardName) (place : Place) → same_name s t ≡ false → place_of (moved v s place) t ≡ place_of v t
place_of-moved_other [] s t place h = refl
place_of-moved_other (slot ∷ v) s t place h =
    moved_either (λ w. place_of w t ≡ place_of (slot ∷ v) t) v s place slot
    (λ e. let past : same_name slot.0 t ≡ false = subst (λ n. same_name n t ≡ false) (sym (same_name-is slot.0 s e)) h in
    past_name v t (slot.0, place) past ∙ sym (past_name v t slot past))
    (λ e. ap (λ o. cond (same_name slot.0 t) (Some slot.1) o) (place_of-moved_other v s t place h))

pub names-moved : (v : Vector) (s : ShardName) (place : Place) → names (moved v s place) ≡ names v
names-moved [] s place = refl
names-moved (slot ∷ v) s place =
    moved_either (λ w. names w ≡ slot.0 ∷ names v) v s place slot (λ e. refl) (λ e. ap (λ l. slot.0 ∷ l) (names-moved v s place))

pub stands-names : (v : Vector) (s : ShardName) → stands v s ≡ list_any (λ n. same_name n s) (names v)
stands-names [] s = refl
stands-names (slot ∷ v) s =
    ⊎_elim (λ e. ap is_some (at_name v s slot e) ∙ sym (or_left (same_name slot.0 s) (list_any (λ n. same_name n s) (names v)) e))
    (λ e. ap is_some (past_name v s slot e) ∙ stands-names v s ∙ sym (ap (λ b. b || list_any (λ n. same_name n s) (names v)) e))
    (cases_Bool (same_name slot.0 s))

pub same_names_stand : (v w : Vector) (s : ShardName) → names v ≡ names w → stands v s ≡ stands w s
same_names_stand v w s same = stands-names v s ∙ ap (list_any (λ n. same_name n s)) same ∙ sym (stands-names w s)

pub place_of-append : (v w : Vector) (s : ShardName) → place_of (v ++ w) s ≡ option_or (place_of v s) (place_of w s)
place_of-append [] w s = refl
place_of-append (slot ∷ v) w s =
    ⊎_elim (λ e. at_name (v ++ w) s slot e ∙ sym (ap (λ o. option_or o (place_of w s)) (at_name v s slot e)))
    (λ e. past_name (v ++ w) s slot e ∙ place_of-append v w s ∙ sym (ap (λ o. option_or o (place_of w s)) (past_name v s slot e)))
    (cases_Bool (same_name slot.0 s))

module _ (participants : List ShardName) where
  -- the vector without the participants
  abbrev pub remaining : Vector → Vector
  remaining v = filter (λ slot. not (is_in slot.0 participants)) v

  remaining_either : (C : Vector → Type 0) (v : Vector) (slot : ShardName × Place) →
      (is_in slot.0 participants ≡ true → C (remaining v)) → (is_in slot.0 participants ≡ false → C (slot ∷ remaining v)) → C (remaining (slot ∷ v))
  remaining_either C v slot leaves stays =
      ⊎_elim (λ e. subst C (sym (cond-false (not (is_in slot.0 participants)) _ _ (ap not e))) (leaves e))
      (λ e. subst C (sym (cond-true (not (is_in slot.0 participants)) _ _ (ap not e))) (stays e))
      (cases_Bool (is_in slot.0 participants))

  names_apart : (a b : ShardName) → (is_in a participants ≡ is_in b participants → ⊥) → same_name a b ≡ false
  names_apart a b h = false_from_ne_true (same_name a b) (λ e. h (ap (λ n. is_in n participants) (same_name-is a b e)))

  pub place_of-remaining : (v : Vector) (s : ShardName) → is_in s participants ≡ false → place_of (remaining v) s ≡ place_of v s
  place_of-remaining [] s h = refl
  place_of-remaining (slot ∷ v) s h =
      remaining_either (λ w. place_of w s ≡ place_of (slot ∷ v) s) v slot
      (λ e. let past = names_apart slot.0 s (λ same. true≢false (sym e ∙ same ∙ h)) in
      place_of-remaining v s h ∙ sym (past_name v s slot past))
      (λ e. ap (λ o. cond (same_name slot.0 s) (Some slot.1) o) (place_of-remaining v s h))

  pub place_of-left : (v : Vector) (s : ShardName) → is_in s participants ≡ true → place_of (remaining v) s ≡ None
  place_of-left [] s h = refl
  place_of-left (slot ∷ v) s h =
      remaining_either (λ w. place_of w s ≡ None) v slot
      (λ e. place_of-left v s h)
      (λ e. past_name (remaining v) s slot (names_apart slot.0 s (λ same. true≢false (sym h ∙ sym same ∙ e))) ∙ place_of-left v s h)

-- a shard that stands in the vector is no successor, where none of them stands in it
pub stands_no_successor : (v : Vector) (ns : List Successor) (s : ShardName) → AllByRecursion (λ n. IsFalse (stands v n.name)) ns → stands v s ≡ true →
    place_of (map (λ n. (n.name, Streaming n.position)) ns) s ≡ None
stands_no_successor v [] s new h = refl
stands_no_successor v (n ∷ ns) s new h =
    past_name _ s (n.name, Streaming n.position)
    (false_from_ne_true (same_name n.name s) (λ e. true≢false (sym h ∙ ap (stands v) (sym (same_name-is n.name s e)) ∙ new.0)))
    ∙ stands_no_successor v ns s new.1 h

-- each successor streams
pub successor_streams : (ns : List Successor) (s : ShardName) (place : Place) → place_of (map (λ n. (n.name, Streaming n.position)) ns) s ≡ Some place →
    (p : Position) × (place ≡ Streaming p)
successor_streams [] s place is = absurd (some_is_not_none place (sym is))
successor_streams (n ∷ ns) s place is =
    ⊎_elim (λ e. (n.position, same_some place (Streaming n.position) (sym is ∙ at_name _ s (n.name, Streaming n.position) e)))
    (λ e. successor_streams ns s place (sym (past_name _ s (n.name, Streaming n.position) e) ∙ is))
    (cases_Bool (same_name n.name s))

module _ (v : Vector) (j : JournalValue) (s : ShardName) where
  -- who stands after the switch stood before it, or is a successor
  pub switched_from : (place : Place) → place_of (switched v j) s ≡ Some place → (place_of v s ≡ Some place) ⊎ (place_of (successors_of j) s ≡ Some place)
  switched_from place is =
      let apart = sym (place_of-append (remaining j.participants v) (successors_of j) s) ∙ is in
      ⊎_elim (λ out. inr (sym (ap (λ o. option_or o (place_of (successors_of j) s)) (place_of-left j.participants v s out)) ∙ apart))
      (λ stays. either (place_of v s) (place_of (successors_of j) s) place
      (sym (ap (λ o. option_or o (place_of (successors_of j) s)) (place_of-remaining j.participants v s stays)) ∙ apart))
      (cases_Bool (is_in s j.participants))
    where
      either : (o p : Option Place) (x : Place) → option_or o p ≡ Some x → (o ≡ Some x) ⊎ (p ≡ Some x)
      either None p x e = inr e
      either (Some y) p x e = inl e

  pub place_of-switched : is_in s j.participants ≡ false → stands v s ≡ true → place_of (switched v j) s ≡ place_of v s
  place_of-switched h there =
      place_of-append (remaining j.participants v) (successors_of j) s
      ∙ ap (λ o. option_or o (place_of (successors_of j) s)) (place_of-remaining j.participants v s h)
      ∙ stays_some (place_of v s) (place_of (successors_of j) s) there
    where
      stays_some : (o p : Option Place) → is_some o ≡ true → option_or o p ≡ o
      stays_some None p e = absurd (true≢false (sym e))
      stays_some (Some x) p e = refl

  -- a participant leaves, where no successor stands in the vector
  pub place_of-switched_out : is_in s j.participants ≡ true → stands v s ≡ true → AllByRecursion (λ n. IsFalse (stands v n.name)) j.successors →
      place_of (switched v j) s ≡ None
  place_of-switched_out h there new =
      place_of-append (remaining j.participants v) (successors_of j) s
      ∙ ap (λ o. option_or o (place_of (successors_of j) s)) (place_of-left j.participants v s h)
      ∙ stands_no_successor v j.successors s new there

  -- a successor stands at its position, where none of them stood before
  pub successor_in : (place : Place) → AllByRecursion (λ n. IsFalse (stands v n.name)) j.successors → place_of (successors_of j) s ≡ Some place →
      place_of (switched v j) s ≡ Some place
  successor_in place new is =
      let absent = false_from_ne_true (stands v s) (λ there. some_is_not_none place (sym is ∙ stands_no_successor v j.successors s new there)) in
      let gone : place_of (remaining j.participants v) s ≡ None = ⊎_elim
      (λ out. place_of-left j.participants v s out)
      (λ stays. place_of-remaining j.participants v s stays ∙ no_place (place_of v s) absent)
      (cases_Bool (is_in s j.participants)) in
      place_of-append (remaining j.participants v) (successors_of j) s ∙ ap (λ o. option_or o (place_of (successors_of j) s)) gone ∙ is
    where
      no_place : (o : Option Place) → is_some o ≡ false → o ≡ None
      no_place None e = refl
      no_place (Some x) e = absurd (true≢false e)
