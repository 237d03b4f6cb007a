-- Journals that wait, by their places.
use Rattle.std.proofs.Common.{◌≡◌, ℕ, suc, ◌+◌, ◌<◌, ◌≤◌, ℤ, Bool, true, false, not, cond, nat_lt, List, [], ◌∷◌, ◌++◌, length, get_or, position, find, slice_get, Option, Some, None, Result, Ok, Err, is_ok, Contains, subst, refl, ap, sym, ◌∙◌, if◌then◌else◌, true≢false, arith, is_some}
use Rattle.std.specs.List.{position_or_len, dedup}
use Rattle.std.specs.List.Retain.{IsFiltered, DiffersFromLast}
use Rattle.std.specs.List.Sorted.{IsPermutation, IsSorted, IsStrictlySortedBy}
use Rattle.std.specs.Ordering.{int_cmp, int_eq}
use Rattle.std.proofs.lemmas.Bool.Decides.{Decides-int_eq}
use Rattle.std.proofs.lemmas.Cmp.{int_cmp_total, int_eq_equiv}
use Rattle.std.proofs.lemmas.List.Filters.{dedup_is}
use Rattle.std.proofs.lemmas.List.Kept.{Contains-dedup, Contains-from_dedup, IsStrictlySortedBy-dedup}
use Rattle.std.proofs.lemmas.List.Sorted.{Contains-permutation, IsPermutation-sym}
use Rattle.std.proofs.lemmas.Bool.{ltb-false}
use Rattle.std.proofs.lemmas.List.{set-get_or}
use Rattle.std.proofs.lemmas.List.Folds.{find_at}
use Rattle.std.proofs.lemmas.List.Quantifiers.{position-Some}
use Rattle.std.proofs.lemmas.Option.{slice_get_past, slice_get-get_or}
use Rattle.std.proofs.Math.ListN.{set}
use Rattle.vs_base.specs.declared.ShardName.{ShardName}
use Rattle.vs_gtid.specs.declared.JournalValue.{JournalValue}
use Rattle.vs_gtid.specs.Journals.{same_journal}
use Rattle.vs_gtid.proofs.SameJournals.{same_journal-is}
use Rattle.vs_gtid.specs.Vectors.{Vector}
use Rattle.vs_gather.specs.Gathering.{AreWaiting, Arrived, IsArrived, IsForeseen, adds_nothing, arrival, arrival_refusal, arrival_unless, arrived_of, arrives, differs, has_id, have_all_arrived, ids_of, is_complete, kept_of, kept_with, kept_without}
use Rattle.vs_gather.specs.Gathering.Arrived.{StillWaits, Completes}
use Rattle.vs_gather.specs.declared.kept.Arrival.{Arrival}
use Rattle.vs_gather.specs.declared.kept.Kept.{Kept}
use Rattle.vs_gather.specs.declared.refusal.GatherRefusal.{GatherRefusal}
use Rattle.vs_gather.specs.declared.refusal.GatherRefusal.TheVariants.{Differs}

module _ {X : Type 0} (p : X → Bool) (xs : List X) where
  pub none_found : position p xs ≡ None → find p xs ≡ None
  none_found e = find_at p xs ∙ slice_get_past xs (position_or_len p xs) (ltb-false (position_or_len p xs) (length xs) (by (nat_lt (position_or_len p xs) (length xs)) e))
    where
      by : (b : Bool) → cond b (Some (position_or_len p xs)) None ≡ None → b ≡ false
      by true h = absurd (true≢false (ap is_some h))
      by false h = refl

  pub first_place : (i : ℕ) → position p xs ≡ Some i → i ≡ position_or_len p xs
  first_place i e = by (nat_lt (position_or_len p xs) (length xs)) e
    where
      by : (b : Bool) → cond b (Some (position_or_len p xs)) None ≡ Some i → i ≡ position_or_len p xs
      by true h = cc
      by false h = cc

  pub found_there : (i : ℕ) (x : X) → position p xs ≡ Some i → x ≡ get_or xs i x → find p xs ≡ Some x
  found_there i x e is = find_at p xs ∙ ap (slice_get xs) (sym (first_place i e)) ∙ slice_get-get_or xs i x (position-Some p xs i x e).0 ∙ ap (λ y. Some y) (sym is)

-- a journal that waits already stays in its place
with_place : (k : Kept) (xs : List Kept) → position_or_len (has_id k.journal.id) xs < length xs → kept_with k xs ≡ set xs (position_or_len (has_id k.journal.id) xs) k
with_place k [] inside = absurd (omega (arith, inside))
with_place k (x ∷ xs) inside = by (has_id k.journal.id x) inside (λ h. with_place k xs h)
  where
    by : (b : Bool) → cond (not b) (1 + position_or_len (has_id k.journal.id) xs) 0 < suc (length xs) →
        (position_or_len (has_id k.journal.id) xs < length xs → kept_with k xs ≡ set xs (position_or_len (has_id k.journal.id) xs) k) →
        (if b then k ∷ xs else x ∷ kept_with k xs) ≡ set (x ∷ xs) (cond (not b) (1 + position_or_len (has_id k.journal.id) xs) 0) k
    by true within on = refl
    by false within on =
        let n = position_or_len (has_id k.journal.id) xs in
        let next : suc n ≡ 1 + n = omega arith in
        ap (λ l. x ∷ l) (on (omega (arith, within))) ∙ ap (λ m. set (x ∷ xs) m k) next

pub with_new : (k : Kept) (xs : List Kept) → find (has_id k.journal.id) xs ≡ None → kept_with k xs ≡ xs ++ k ∷ []
with_new k [] none = refl
with_new k (x ∷ xs) none = by (has_id k.journal.id x) none (λ h. with_new k xs h)
  where
    by : (b : Bool) → (if b then Some x else find (has_id k.journal.id) xs) ≡ None → (find (has_id k.journal.id) xs ≡ None → kept_with k xs ≡ xs ++ k ∷ []) →
        (if b then k ∷ xs else x ∷ kept_with k xs) ≡ x ∷ (xs ++ k ∷ [])
    by true h on = absurd (true≢false (ap is_some h))
    by false h on = ap (λ l. x ∷ l) (on h)

abbrev pub kept_as : JournalValue → List ShardName → Kept
kept_as j arrived = record { journal = j; arrived = arrived }

same_kept : (k : Kept) (j : JournalValue) → differs (Some k) j ≡ None → k.journal ≡ j
same_kept k j e = by (same_journal k.journal j) refl e
  where
    by : (b : Bool) → same_journal k.journal j ≡ b → (if b then None else Some (Differs j.id k.journal j)) ≡ None → k.journal ≡ j
    by true p h = same_journal-is k.journal j p
    by false p h = absurd (true≢false (ap is_some h))

-- another arrival at a journal that waits
pub kept_again : (xs : List Kept) (j : JournalValue) (s : ShardName) (i : ℕ) (old new : Kept) → position (has_id j.id) xs ≡ Some i → old ≡ get_or xs i old → differs (kept_of j.id xs) j ≡ None →
    new.journal ≡ old.journal → new.arrived ≡ old.arrived ++ s ∷ [] → set xs i new ≡ kept_with (kept_as j (arrived_of (kept_of j.id xs) ++ s ∷ [])) xs
kept_again xs j s i old new at is same stays more =
    let found : kept_of j.id xs ≡ Some old = found_there (has_id j.id) xs i old at is in
    let one : old.journal ≡ j = same_kept old j (ap (λ o. differs o j) (sym found) ∙ same) in
    let k = kept_as j (arrived_of (kept_of j.id xs) ++ s ∷ []) in
    let whole : new ≡ k = ap (λ l. kept_as l new.arrived) (stays ∙ one) ∙ ap (kept_as j) (more ∙ ap (λ o. arrived_of o ++ s ∷ []) (sym found)) in
    let place = first_place (has_id j.id) xs i at in
    let inside : position_or_len (has_id j.id) xs < length xs = rw (sym place) (position-Some (has_id j.id) xs i old at).0 in
    ap (set xs i) whole ∙ ap (λ m. set xs m k) place ∙ sym (with_place k xs inside)

pub unchanged_at : (xs : List Kept) (i : ℕ) (old new : Kept) → old ≡ get_or xs i old → new ≡ old → set xs i new ≡ xs
unchanged_at xs i old new is same = ap (set xs i) (same ∙ is) ∙ set-get_or xs i old

-- the first arrival at a journal
pub kept_first : (xs : List Kept) (j : JournalValue) (s : ShardName) → position (has_id j.id) xs ≡ None →
    xs ++ kept_as j (s ∷ []) ∷ [] ≡ kept_with (kept_as j (arrived_of (kept_of j.id xs) ++ s ∷ [])) xs
kept_first xs j s none =
    let found : kept_of j.id xs ≡ None = none_found (has_id j.id) xs none in
    sym (with_new (kept_as j (s ∷ [])) xs found) ∙ ap (λ o. kept_with (kept_as j (arrived_of o ++ s ∷ [])) xs) (sym found)

pub not_refused : (v : Vector) (s : ShardName) (j : JournalValue) (xs : List Kept) → arrival_refusal v j xs ≡ None → arrival v s j xs ≡ Ok (arrives s j (arrived_of (kept_of j.id xs)) xs)
not_refused v s j xs none = ap (λ o. arrival_unless o (arrives s j (arrived_of (kept_of j.id xs)) xs)) none

pub arrived_on : (v : Vector) (s : ShardName) (j : JournalValue) (old new : List Kept) (r : Result Arrival GatherRefusal) → arrival_refusal v j old ≡ None →
    IsArrived (Ok (arrives s j (arrived_of (kept_of j.id old)) old)) j old new r → IsArrived (arrival v s j old) j old new r
arrived_on v s j old new r none made = subst (λ a. IsArrived a j old new r) (sym (not_refused v s j old none)) made

unwrap_ok : Arrived → Result Arrived GatherRefusal → Arrived
unwrap_ok a (Ok b) = b
unwrap_ok a (Err e) = a

abbrev ok_of : Arrived → Result Arrived GatherRefusal
ok_of a = Ok a

same_arrived : (a b : Arrived) → ok_of a ≡ Ok b → a ≡ b
unfolding unwrap_ok
same_arrived a b e = ap (λ (r : Result Arrived GatherRefusal). unwrap_ok a r) e

-- an arrival that completes its journal isn't refused
pub completes_unrefused : (v : Vector) (s : ShardName) (j : JournalValue) (xs kept : List Kept) → arrival v s j xs ≡ Ok (Completes kept) → arrival_refusal v j xs ≡ None
completes_unrefused v s j xs kept e = by (arrival_refusal v j xs) refl e
  where
    by : (o : Option GatherRefusal) → arrival_refusal v j xs ≡ o → arrival_unless o (arrives s j (arrived_of (kept_of j.id xs)) xs) ≡ Ok (Completes kept) → arrival_refusal v j xs ≡ None
    by None p h = p
    by (Some r) p h = absurd (true≢false (sym (ap is_ok h)))

pub completes_on : (v : Vector) (s : ShardName) (j : JournalValue) (xs kept : List Kept) → arrival v s j xs ≡ Ok (Completes kept) → arrives s j (arrived_of (kept_of j.id xs)) xs ≡ Completes kept
completes_on v s j xs kept e = same_arrived _ _ (sym (not_refused v s j xs (completes_unrefused v s j xs kept e)) ∙ e)

-- what is foreseen where nothing is refused
pub foreseen_none : (v : Vector) (s : ShardName) (j : JournalValue) (xs : List Kept) → arrival_refusal v j xs ≡ None → adds_nothing s j (arrived_of (kept_of j.id xs)) ≡ true →
    IsForeseen (arrival v s j xs) (Ok false)
foreseen_none v s j xs none adds = (StillWaits xs, not_refused v s j xs none ∙ by (adds_nothing s j (arrived_of (kept_of j.id xs))) adds, refl)
  where
    by : (b : Bool) → b ≡ true → ok_of (if b then StillWaits xs else if have_all_arrived j (arrived_of (kept_of j.id xs) ++ s ∷ []) then Completes (kept_without j.id xs)
        else StillWaits (kept_with (kept_as j (arrived_of (kept_of j.id xs) ++ s ∷ [])) xs)) ≡ ok_of (StillWaits xs)
    by true p = refl
    by false p = absurd (true≢false (sym p))

pub foreseen : (v : Vector) (s : ShardName) (j : JournalValue) (xs : List Kept) (b : Bool) → arrival_refusal v j xs ≡ None → adds_nothing s j (arrived_of (kept_of j.id xs)) ≡ false →
    b ≡ have_all_arrived j (arrived_of (kept_of j.id xs) ++ s ∷ []) → IsForeseen (arrival v s j xs) (Ok b)
foreseen v s j xs b none adds is = (arrives s j (arrived_of (kept_of j.id xs)) xs, not_refused v s j xs none, is ∙ by (adds_nothing s j (arrived_of (kept_of j.id xs))) (have_all_arrived j (arrived_of (kept_of j.id xs) ++ s ∷ [])) adds)
  where
    by : (x y : Bool) → x ≡ false → y ≡ is_complete (if x then StillWaits xs else if y then Completes (kept_without j.id xs)
        else StillWaits (kept_with (kept_as j (arrived_of (kept_of j.id xs) ++ s ∷ [])) xs))
    by true y p = absurd (true≢false p)
    by false true p = refl
    by false false p = refl

-- ids in order, each once
ids_ascend : (is sorted : List ℤ) → IsSorted int_cmp sorted → IsStrictlySortedBy int_cmp (dedup int_eq sorted)
ids_ascend is sorted ascend = IsStrictlySortedBy-dedup int_cmp_total (λ x y. refl) sorted ascend

pub are_waiting : (kept : List Kept) (is sorted told : List ℤ) → is ≡ ids_of kept → IsPermutation is sorted → IsSorted int_cmp sorted → IsFiltered (DiffersFromLast int_eq) [] sorted told → AreWaiting told kept
are_waiting kept is sorted told all moved ascend once =
    let left : told ≡ dedup int_eq sorted = dedup_is int_eq sorted told once in
    record {
      ascending = subst (IsStrictlySortedBy int_cmp) (sym left) (ids_ascend is sorted ascend);
      each_waits = λ id here. subst (λ l. Contains l id) all (Contains-permutation sorted is id (IsPermutation-sym is sorted moved) (Contains-from_dedup int_eq sorted id (subst (λ l. Contains l id) left here)));
      each_told = λ id here. subst (λ l. Contains l id) (sym left) (Contains-dedup int_eq_equiv (λ x y. (Decides-int_eq x y).0) sorted id (Contains-permutation is sorted id moved (subst (λ l. Contains l id) (sym all) here)));
    }
