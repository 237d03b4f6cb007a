-- What is put in order is the same keys, ascending; and keys that stand apart are put in order, in one way alone.
use Rattle.std.proofs.Common.{◌≡◌, ◌∙◌, ◌++◌, Bool, true, false, List, [], ◌∷◌, Option, Some, None, refl, ap, sym, subst, inl, inr, append_assoc, append-nil, cond, ◌||◌}
use Rattle.std.specs.Prelude.{◌⊎◌}
use Rattle.std.specs.BTreeMap.{insert_entry, is_at}
use Rattle.std.specs.BTreeSet.{insert_key}
use Rattle.std.specs.List.{AllByRecursion, IsDistinct, list_any}
use Rattle.std.specs.List.Sorted.{IsPermutation, IsStrictlySortedBy}
use Rattle.std.specs.Map.{lookup}
use Rattle.std.specs.Option.{is_some}
use Rattle.std.specs.Ordering.{eq_by_cmp, is_eq, match_ordering, ordering_reverse}
use Rattle.std.specs.Cmp.{IsEquivalence, IsTotalOrder}
use Rattle.std.specs.declared.cmp.Ordering.{Ordering}
use Rattle.std.specs.declared.cmp.Ordering.TheVariants.{Less, Equal, Greater}
use Rattle.std.proofs.lemmas.Bool.{or_parts, or_from}
use Rattle.std.proofs.lemmas.Cmp.{eq_by_cmp_equiv}
use Rattle.std.proofs.lemmas.List.Elements.{All-from_recursion, recursion_from_All}
use Rattle.std.proofs.lemmas.List.Sorted.{All-permutation, IsPermutation-append_left, IsPermutation-cons, IsPermutation-refl, IsPermutation-sym, IsPermutation-to_front, IsPermutation-trans}
use Rattle.std.proofs.lemmas.Map.Keys.{IsDistinct-from_sorted, IsDistinct-IsPermutation}
use Rattle.vs_journal.specs.Judgement.{gathered_entries, gathered_keys}
use Rattle.vs_journal.specs.Names.{AreInOrder}
use Rattle.vs_journal.proofs.GatherLaws.{Ascends, HasSome, all_imply, keys_gathered}

module _ {K : Type 0} (cmp : K → K → Ordering) (total : IsTotalOrder cmp) where
  flips : (x y : K) → eq_by_cmp cmp x y ≡ eq_by_cmp cmp y x
  flips x y = (eq_by_cmp_equiv total).symm x y

  -- ---- one key more

  swapped : (k x : K) (ks : List K) → IsPermutation (k ∷ x ∷ ks) (x ∷ k ∷ ks)
  swapped k x ks = IsPermutation-append_left ks (k ∷ x ∷ []) (x ∷ k ∷ []) (IsPermutation-to_front (k ∷ []) x)

  with_key_same : (ks : List K) (k : K) → list_any (is_at (cmp k)) ks ≡ false → IsPermutation (k ∷ ks) (insert_key cmp ks k)
  with_key_same [] k absent = IsPermutation-refl (k ∷ [])
  with_key_same (x ∷ ks) k absent =
      let parts = or_parts (is_at (cmp k) x) (list_any (is_at (cmp k)) ks) absent in
      go (cmp k x) parts.0 (with_key_same ks k parts.1)
    where
      go : (o : Ordering) → is_eq o ≡ false → IsPermutation (k ∷ ks) (insert_key cmp ks k) → IsPermutation (k ∷ x ∷ ks) (match_ordering o (k ∷ x ∷ ks) (x ∷ ks) (x ∷ insert_key cmp ks k))
      go Less other later = IsPermutation-refl (k ∷ x ∷ ks)
      go Equal other later = absurd (cc)
      go Greater other later = IsPermutation-trans (k ∷ x ∷ ks) (x ∷ k ∷ ks) (x ∷ insert_key cmp ks k) (swapped k x ks) (IsPermutation-cons x (k ∷ ks) (insert_key cmp ks k) later)

  moved : (keys : List K) (k : K) (ks : List K) → list_any (is_at (cmp k)) keys ≡ false → IsPermutation (keys ++ k ∷ ks) (insert_key cmp keys k ++ ks)
  moved keys k ks absent =
      subst (λ l. IsPermutation l (insert_key cmp keys k ++ ks)) (append_assoc keys (k ∷ []) ks)
      (IsPermutation-append_left ks (keys ++ k ∷ []) (insert_key cmp keys k)
      (IsPermutation-trans (keys ++ k ∷ []) (k ∷ keys) (insert_key cmp keys k) (IsPermutation-to_front keys k) (with_key_same keys k absent)))

  -- ---- what is put in order

  gathered_same : (keys ks out : List K) → gathered_keys cmp keys ks ≡ Some out → IsPermutation (keys ++ ks) out
  gathered_same keys [] out e =
      let same : keys ≡ out = cc in
      subst (λ l. IsPermutation l out) (sym (append-nil keys)) (subst (IsPermutation keys) same (IsPermutation-refl keys))
  gathered_same keys (k ∷ ks) out e = go (list_any (is_at (cmp k)) keys) refl e (λ f. gathered_same (insert_key cmp keys k) ks out f)
    where
      go : (b : Bool) → list_any (is_at (cmp k)) keys ≡ b → cond b None (gathered_keys cmp (insert_key cmp keys k) ks) ≡ Some out
          → (gathered_keys cmp (insert_key cmp keys k) ks ≡ Some out → IsPermutation (insert_key cmp keys k ++ ks) out) → IsPermutation (keys ++ k ∷ ks) out
      go true absent f later = absurd (cc)
      go false absent f later = IsPermutation-trans (keys ++ k ∷ ks) (insert_key cmp keys k ++ ks) out (moved keys k ks absent) (later f)

  strictly : (ks : List K) → Ascends cmp (λ (x : K). x) ks → IsStrictlySortedBy cmp ks
  unfolding IsStrictlySortedBy
  strictly [] h = tt
  strictly (k ∷ ks) h = (h.0, strictly ks h.1)

  any_at_all : (ks : List K) → AllByRecursion (λ _. Unit {0}) ks
  any_at_all [] = tt
  any_at_all (k ∷ ks) = (tt, any_at_all ks)

  pub gathered_in_order : (ks out : List K) → HasSome ks → gathered_keys cmp [] ks ≡ Some out → AreInOrder cmp ks out
  gathered_in_order ks out some e = record {
    same = gathered_same [] ks out e;
    ascend = strictly out (keys_gathered cmp total (λ _. Unit {0}) [] ks out e tt some tt (any_at_all ks)).0;
  }

  -- ---- keys that stand apart

  pub in_order_apart : (said ordered : List K) → AreInOrder cmp said ordered → IsDistinct (eq_by_cmp cmp) said
  in_order_apart said ordered h =
      IsDistinct-IsPermutation (eq_by_cmp cmp) flips ordered said (IsPermutation-sym said ordered h.same) (IsDistinct-from_sorted cmp ordered h.ascend)

  absent_before : (keys ks : List K) (k : K) → IsDistinct (eq_by_cmp cmp) (keys ++ k ∷ ks) → list_any (is_at (cmp k)) keys ≡ false
  unfolding IsDistinct
  absent_before [] ks k h = refl
  absent_before (x ∷ keys) ks k h = or_from (is_at (cmp k) x) (list_any (is_at (cmp k)) keys) (flips k x ∙ at keys h.0) (absent_before keys ks k h.1)
    where
      at : (f : List K) → AllByRecursion (λ y. eq_by_cmp cmp x y ≡ false) (f ++ k ∷ ks) → eq_by_cmp cmp x k ≡ false
      at [] all = all.0
      at (y ∷ f) all = at f all.1

  pub apart_gathered : (keys ks : List K) → IsDistinct (eq_by_cmp cmp) (keys ++ ks) → gathered_keys cmp keys ks ≡ None → ⊥
  apart_gathered keys [] h e = cc
  apart_gathered keys (k ∷ ks) h e =
      let absent = absent_before keys ks k h in
      apart_gathered (insert_key cmp keys k) ks
      (IsDistinct-IsPermutation (eq_by_cmp cmp) flips (keys ++ k ∷ ks) (insert_key cmp keys k ++ ks) (moved keys k ks absent) h)
      (sym (ap (λ b. cond b None (gathered_keys cmp (insert_key cmp keys k) ks)) absent) ∙ e)

  -- ---- there is one order

  -- what holds of all of the first holds of all of the second
  abbrev Passes : List K → List K → Type 1
  Passes xs ys = (P : K → Type 0) → AllByRecursion P xs → AllByRecursion P ys

  passes : (xs ys : List K) → IsPermutation xs ys → Passes xs ys
  passes xs ys h P all = recursion_from_All P ys (All-permutation P xs ys h (All-from_recursion P xs all))

  not_itself : (x : K) → cmp x x ≡ Less → ⊥
  not_itself x h = (let turned : Less ≡ ordering_reverse Less = sym h ∙ total.antisymm x x ∙ ap ordering_reverse h in cc)

  not_both : (x y : K) → cmp x y ≡ Less → cmp y x ≡ Less → ⊥
  not_both x y h k = (let turned : Less ≡ ordering_reverse Less = sym h ∙ total.antisymm x y ∙ ap ordering_reverse k in cc)

  rest_passes : (x : K) (xs ys : List K) → AllByRecursion (λ z. cmp x z ≡ Less) ys → Passes (x ∷ xs) (x ∷ ys) → Passes xs ys
  rest_passes x xs ys above f P all =
      others ys above (f (λ z. (z ≡ x) ⊎ P z) (inl refl, all_imply P (λ z. (z ≡ x) ⊎ P z) (λ z p. inr p) xs all)).1
    where
      one : (z : K) → cmp x z ≡ Less → (z ≡ x) ⊎ P z → P z
      one z less (inl e) = absurd (not_itself x (subst (λ w. cmp x w ≡ Less) e less))
      one z less (inr p) = p

      others : (zs : List K) → AllByRecursion (λ z. cmp x z ≡ Less) zs → AllByRecursion (λ z. (z ≡ x) ⊎ P z) zs → AllByRecursion P zs
      others [] a b = tt
      others (z ∷ zs) a b = (one z a.0 b.0, others zs a.1 b.1)

  first_is : (x y : K) → (y ≡ x) ⊎ (cmp x y ≡ Less) → (x ≡ y) ⊎ (cmp y x ≡ Less) → x ≡ y
  first_is x y (inl e) q = sym e
  first_is x y (inr h) (inl e) = e
  first_is x y (inr h) (inr k) = absurd (not_both x y h k)

  not_below : (x : K) (xs : List K) → AllByRecursion (λ z. cmp x z ≡ Less) xs → AllByRecursion (λ z. (z ≡ x) ⊎ (cmp x z ≡ Less)) (x ∷ xs)
  not_below x xs above = (inl refl, all_imply (λ z. cmp x z ≡ Less) (λ z. (z ≡ x) ⊎ (cmp x z ≡ Less)) (λ z h. inr h) xs above)

  one_order : (xs ys : List K) → IsStrictlySortedBy cmp xs → IsStrictlySortedBy cmp ys → Passes xs ys → Passes ys xs → xs ≡ ys
  unfolding IsStrictlySortedBy
  one_order [] [] a b f g = refl
  one_order [] (y ∷ ys) a b f g = absurd (f (λ _. ⊥) tt).0
  one_order (x ∷ xs) [] a b f g = absurd (g (λ _. ⊥) tt).0
  one_order (x ∷ xs) (y ∷ ys) a b f g =
      let e : x ≡ y = first_is x y (f (λ z. (z ≡ x) ⊎ (cmp x z ≡ Less)) (not_below x xs a.0)).0 (g (λ z. (z ≡ y) ⊎ (cmp y z ≡ Less)) (not_below y ys b.0)).0 in
      let above : AllByRecursion (λ z. cmp x z ≡ Less) ys = subst (λ w. AllByRecursion (λ z. cmp w z ≡ Less) ys) (sym e) b.0 in
      let there : Passes (x ∷ xs) (x ∷ ys) = λ P all. subst (λ w. AllByRecursion P (w ∷ ys)) (sym e) (f P all) in
      let back : Passes (x ∷ ys) (x ∷ xs) = λ P all. g P (subst (λ w. AllByRecursion P (w ∷ ys)) e all) in
      ap (λ w. w ∷ xs) e ∙ ap (λ zs. y ∷ zs) (one_order xs ys a.1 b.1 (rest_passes x xs ys above there) (rest_passes x ys xs a.0 back))

  pub in_order_gathered : (said ordered : List K) → HasSome said → AreInOrder cmp said ordered → gathered_keys cmp [] said ≡ Some ordered
  in_order_gathered said ordered some h = go (gathered_keys cmp [] said) refl
    where
      go : (o : Option (List K)) → gathered_keys cmp [] said ≡ o → o ≡ Some ordered
      go None e = absurd (apart_gathered [] said (in_order_apart said ordered h) e)
      go (Some out) e =
          let made = gathered_in_order said out some e in
          let across = IsPermutation-trans out said ordered (IsPermutation-sym said out made.same) h.same in
          ap Some (one_order out ordered made.ascend h.ascend (passes out ordered across) (passes ordered out (IsPermutation-sym out ordered across)))

-- ---- what stands at keys is put in order as the keys are

module _ {K X : Type 0} (cmp : K → K → Ordering) where
  abbrev entry_cmp : K × X → K × X → Ordering
  entry_cmp a b = cmp a.0 b.0

  there_alike : (k : K) (v : X) (es : List (K × X)) → is_some (lookup (is_at (cmp k)) es) ≡ list_any (is_at (entry_cmp (k, v))) es
  there_alike k v [] = refl
  there_alike k v (e ∷ es) = go (is_at (cmp k) e.0) (there_alike k v es)
    where
      go : (b : Bool) → is_some (lookup (is_at (cmp k)) es) ≡ list_any (is_at (entry_cmp (k, v))) es → is_some (cond b (Some e.1) (lookup (is_at (cmp k)) es)) ≡ (b || list_any (is_at (entry_cmp (k, v))) es)
      go true later = refl
      go false later = later

  with_entry_alike : (es : List (K × X)) (k : K) (v : X) → list_any (is_at (entry_cmp (k, v))) es ≡ false → insert_entry cmp es k v ≡ insert_key entry_cmp es (k, v)
  with_entry_alike [] k v absent = refl
  with_entry_alike (e ∷ es) k v absent =
      let parts = or_parts (is_at (cmp k) e.0) (list_any (is_at (entry_cmp (k, v))) es) absent in
      go (cmp k e.0) parts.0 (with_entry_alike es k v parts.1)
    where
      go : (o : Ordering) → is_eq o ≡ false → insert_entry cmp es k v ≡ insert_key entry_cmp es (k, v)
          → match_ordering o ((k, v) ∷ e ∷ es) ((e.0, v) ∷ es) (e ∷ insert_entry cmp es k v) ≡ match_ordering o ((k, v) ∷ e ∷ es) (e ∷ es) (e ∷ insert_key entry_cmp es (k, v))
      go Less other later = refl
      go Equal other later = absurd (cc)
      go Greater other later = ap (λ zs. e ∷ zs) later

  pub entries_alike : (done es : List (K × X)) → gathered_entries cmp done es ≡ gathered_keys entry_cmp done es
  entries_alike done [] = refl
  entries_alike done (e ∷ es) = go (is_some (lookup (is_at (cmp e.0)) done)) (list_any (is_at (entry_cmp e)) done) (there_alike e.0 e.1 done) refl (entries_alike (insert_entry cmp done e.0 e.1) es)
    where
      go : (b c : Bool) → b ≡ c → list_any (is_at (entry_cmp e)) done ≡ c → gathered_entries cmp (insert_entry cmp done e.0 e.1) es ≡ gathered_keys entry_cmp (insert_entry cmp done e.0 e.1) es
          → cond b None (gathered_entries cmp (insert_entry cmp done e.0 e.1) es) ≡ cond c None (gathered_keys entry_cmp (insert_key entry_cmp done e) es)
      go true true same absent later = refl
      go false false same absent later = later ∙ ap (λ l. gathered_keys entry_cmp l es) (with_entry_alike done e.0 e.1 absent)
      go true false same absent later = absurd (cc)
      go false true same absent later = absurd (cc)
