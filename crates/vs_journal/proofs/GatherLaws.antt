-- What is put in order ascends, and what ascends is in order already.
use Rattle.std.proofs.Common.{◌≡◌, ◌∙◌, ◌++◌, Bool, true, false, List, [], ◌∷◌, Some, None, refl, ap, sym, subst, append_assoc, append-nil, cond}
use Rattle.std.specs.BTreeMap.{insert_entry, is_at}
use Rattle.std.specs.BTreeSet.{insert_key}
use Rattle.std.specs.List.{AllByRecursion, list_any}
use Rattle.std.specs.Map.{lookup}
use Rattle.std.specs.Option.{is_some}
use Rattle.std.specs.Ordering.{match_ordering, ordering_reverse}
use Rattle.std.specs.Cmp.{IsTotalOrder}
use Rattle.std.specs.declared.cmp.Ordering.{Ordering}
use Rattle.std.specs.declared.cmp.Ordering.TheVariants.{Less, Equal, Greater}
use Rattle.std.proofs.lemmas.Bool.{or_parts, or_from}
use Rattle.vs_journal.specs.Judgement.{gathered_entries, gathered_keys}

abbrev pub Ascends : {K X : Type 0} → (K → K → Ordering) → (X → K) → List X → Type 0
Ascends cmp key [] = Unit {0}
Ascends cmp key (x ∷ xs) = AllByRecursion (λ y. cmp (key x) (key y) ≡ Less) xs × Ascends cmp key xs

abbrev pub HasSome : {X : Type 0} → List X → Type 0
HasSome {X} xs = (x : X) × (rest : List X) × (xs ≡ x ∷ rest)

pub all_imply : {X : Type 0} (P Q : X → Type 0) → ((x : X) → P x → Q x) → (xs : List X) → AllByRecursion P xs → AllByRecursion Q xs
all_imply P Q f [] h = tt
all_imply P Q f (x ∷ xs) h = (f x h.0, all_imply P Q f xs h.1)

-- a front of what ascends is below what follows it
below_next : {K X : Type 0} (cmp : K → K → Ordering) (key : X → K) (front : List X) (k : X) (ks : List X) → Ascends cmp key (front ++ k ∷ ks) → AllByRecursion (λ x. cmp (key x) (key k) ≡ Less) front
below_next cmp key [] k ks h = tt
below_next {K} {X} cmp key (x ∷ front) k ks h = (at front h.0, below_next cmp key front k ks h.1)
  where
    at : (f : List X) → AllByRecursion (λ y. cmp (key x) (key y) ≡ Less) (f ++ k ∷ ks) → cmp (key x) (key k) ≡ Less
    at [] all = all.0
    at (y ∷ f) all = at f all.1

module _ {K : Type 0} (cmp : K → K → Ordering) (total : IsTotalOrder cmp) where
  above : (x k : K) → cmp x k ≡ Less → cmp k x ≡ Greater
  above x k h = total.antisymm k x ∙ ap ordering_reverse h

  -- ---- keys

  key_absent : (ks : List K) (k : K) → AllByRecursion (λ x. cmp x k ≡ Less) ks → list_any (is_at (cmp k)) ks ≡ false
  key_absent [] k h = refl
  key_absent (x ∷ ks) k h = or_from (is_at (cmp k) x) (list_any (is_at (cmp k)) ks) (ap (λ o. is_at (λ (_ : K). o) x) (above x k h.0)) (key_absent ks k h.1)

  key_last : (ks : List K) (k : K) → AllByRecursion (λ x. cmp x k ≡ Less) ks → insert_key cmp ks k ≡ ks ++ k ∷ []
  key_last [] k h = refl
  key_last (x ∷ ks) k h = ap (λ o. match_ordering o (k ∷ x ∷ ks) (x ∷ ks) (x ∷ insert_key cmp ks k)) (above x k h.0) ∙ ap (λ zs. x ∷ zs) (key_last ks k h.1)

  keys_stay : (front ks : List K) → Ascends cmp (λ (x : K). x) (front ++ ks) → gathered_keys cmp front ks ≡ Some (front ++ ks)
  keys_stay front [] h = ap Some (sym (append-nil front))
  keys_stay front (k ∷ ks) h =
      let below = below_next cmp (λ (x : K). x) front k ks h in
      let regrouped : (front ++ k ∷ []) ++ ks ≡ front ++ k ∷ ks = append_assoc front (k ∷ []) ks in
      ap (λ b. cond b None (gathered_keys cmp (insert_key cmp front k) ks)) (key_absent front k below)
      ∙ (ap (λ f. gathered_keys cmp f ks) (key_last front k below)
      ∙ (keys_stay (front ++ k ∷ []) ks (subst (Ascends cmp (λ (x : K). x)) (sym regrouped) h) ∙ ap Some regrouped))

  pub keys_in_order : (ks : List K) → Ascends cmp (λ (x : K). x) ks → gathered_keys cmp [] ks ≡ Some ks
  keys_in_order ks h = keys_stay [] ks h

  all_with_key : (P : K → Type 0) (ks : List K) (k : K) → AllByRecursion P ks → P k → AllByRecursion P (insert_key cmp ks k)
  all_with_key P [] k h p = (p, tt)
  all_with_key P (x ∷ ks) k h p = go (cmp k x) (all_with_key P ks k h.1 p)
    where
      go : (o : Ordering) → AllByRecursion P (insert_key cmp ks k) → AllByRecursion P (match_ordering o (k ∷ x ∷ ks) (x ∷ ks) (x ∷ insert_key cmp ks k))
      go Less later = (p, h)
      go Equal later = h
      go Greater later = (h.0, later)

  ascends_with_key : (ks : List K) (k : K) → Ascends cmp (λ (x : K). x) ks → list_any (is_at (cmp k)) ks ≡ false → Ascends cmp (λ (x : K). x) (insert_key cmp ks k)
  ascends_with_key [] k h absent = (tt, tt)
  ascends_with_key (x ∷ ks) k h absent = go (cmp k x) refl (ascends_with_key ks k h.1 (or_parts (is_at (cmp k) x) (list_any (is_at (cmp k)) ks) absent).1)
    where
      go : (o : Ordering) → cmp k x ≡ o → Ascends cmp (λ (x : K). x) (insert_key cmp ks k) → Ascends cmp (λ (x : K). x) (match_ordering o (k ∷ x ∷ ks) (x ∷ ks) (x ∷ insert_key cmp ks k))
      go Less e later = ((e, all_imply (λ y. cmp x y ≡ Less) (λ y. cmp k y ≡ Less) (λ y less. total.trans k x y e less) ks h.0), h)
      go Equal e later = h
      go Greater e later = (all_with_key (λ y. cmp x y ≡ Less) ks k h.0 (total.antisymm x k ∙ ap ordering_reverse e), later)

  some_with_key : (ks : List K) (k : K) → HasSome (insert_key cmp ks k)
  some_with_key [] k = (k, [], refl)
  some_with_key (x ∷ ks) k = go (cmp k x)
    where
      go : (o : Ordering) → HasSome (match_ordering o (k ∷ x ∷ ks) (x ∷ ks) (x ∷ insert_key cmp ks k))
      go Less = (k, x ∷ ks, refl)
      go Equal = (x, ks, refl)
      go Greater = (x, insert_key cmp ks k, refl)

  -- what is put in order ascends, keeps what all have, and has some where some were there
  pub keys_gathered : (P : K → Type 0) (keys ks out : List K) → gathered_keys cmp keys ks ≡ Some out → Ascends cmp (λ (x : K). x) keys → HasSome (keys ++ ks) → AllByRecursion P keys → AllByRecursion P ks →
      Ascends cmp (λ (x : K). x) out × AllByRecursion P out × HasSome out
  keys_gathered P keys [] out e h some p q =
      let same : keys ≡ out = cc in
      (subst (Ascends cmp (λ (x : K). x)) same h, subst (AllByRecursion P) same p, subst HasSome (append-nil keys ∙ same) some)
  keys_gathered P keys (k ∷ ks) out e h some p q = go (list_any (is_at (cmp k)) keys) refl e (λ longer grown. keys_gathered P longer ks out grown)
    where
      go : (b : Bool) → list_any (is_at (cmp k)) keys ≡ b → cond b None (gathered_keys cmp (insert_key cmp keys k) ks) ≡ Some out
          → ((longer : List K) → gathered_keys cmp longer ks ≡ Some out → Ascends cmp (λ (x : K). x) longer → HasSome (longer ++ ks) → AllByRecursion P longer → AllByRecursion P ks → Ascends cmp (λ (x : K). x) out × AllByRecursion P out × HasSome out)
          → Ascends cmp (λ (x : K). x) out × AllByRecursion P out × HasSome out
      go true absent f later = absurd (cc)
      go false absent f later =
          let there = some_with_key keys k in
          later (insert_key cmp keys k) f (ascends_with_key keys k h absent) (there.0, there.1 ++ ks, ap (λ z. z ++ ks) there.2) (all_with_key P keys k p q.0) q.1

  -- ---- what stands at keys

  module _ {X : Type 0} where
    at_key_absent : (es : List (K × X)) (k : K) → AllByRecursion (λ e. cmp e.0 k ≡ Less) es → is_some (lookup (is_at (cmp k)) es) ≡ false
    at_key_absent [] k h = refl
    at_key_absent (e ∷ es) k h =
        ap (λ o. is_some (cond (is_at (λ (_ : K). o) e.0) (Some e.1) (lookup (is_at (cmp k)) es))) (above e.0 k h.0) ∙ at_key_absent es k h.1

    entry_last : (es : List (K × X)) (k : K) (v : X) → AllByRecursion (λ e. cmp e.0 k ≡ Less) es → insert_entry cmp es k v ≡ es ++ (k, v) ∷ []
    entry_last [] k v h = refl
    entry_last (e ∷ es) k v h =
        ap (λ o. match_ordering o ((k, v) ∷ e ∷ es) ((e.0, v) ∷ es) (e ∷ insert_entry cmp es k v)) (above e.0 k h.0) ∙ ap (λ zs. e ∷ zs) (entry_last es k v h.1)

    entries_stay : (front es : List (K × X)) → Ascends cmp (λ (e : K × X). e.0) (front ++ es) → gathered_entries cmp front es ≡ Some (front ++ es)
    entries_stay front [] h = ap Some (sym (append-nil front))
    entries_stay front (e ∷ es) h =
        let below = below_next cmp (λ (e : K × X). e.0) front e es h in
        let regrouped : (front ++ e ∷ []) ++ es ≡ front ++ e ∷ es = append_assoc front (e ∷ []) es in
        ap (λ b. cond b None (gathered_entries cmp (insert_entry cmp front e.0 e.1) es)) (at_key_absent front e.0 below)
        ∙ (ap (λ f. gathered_entries cmp f es) (entry_last front e.0 e.1 below)
        ∙ (entries_stay (front ++ e ∷ []) es (subst (Ascends cmp (λ (e : K × X). e.0)) (sym regrouped) h) ∙ ap Some regrouped))

    pub entries_in_order : (es : List (K × X)) → Ascends cmp (λ (e : K × X). e.0) es → gathered_entries cmp [] es ≡ Some es
    entries_in_order es h = entries_stay [] es h

    all_with_entry : (P : K → Type 0) (Q : X → Type 0) (es : List (K × X)) (k : K) (v : X) → AllByRecursion (λ e. P e.0 × Q e.1) es → P k → Q v → AllByRecursion (λ e. P e.0 × Q e.1) (insert_entry cmp es k v)
    all_with_entry P Q [] k v h p q = ((p, q), tt)
    all_with_entry P Q (e ∷ es) k v h p q = go (cmp k e.0) (all_with_entry P Q es k v h.1 p q)
      where
        go : (o : Ordering) → AllByRecursion (λ e. P e.0 × Q e.1) (insert_entry cmp es k v) → AllByRecursion (λ e. P e.0 × Q e.1) (match_ordering o ((k, v) ∷ e ∷ es) ((e.0, v) ∷ es) (e ∷ insert_entry cmp es k v))
        go Less later = ((p, q), h)
        go Equal later = ((h.0.0, q), h.1)
        go Greater later = (h.0, later)

    ascends_with_entry : (es : List (K × X)) (k : K) (v : X) → Ascends cmp (λ (e : K × X). e.0) es → Ascends cmp (λ (e : K × X). e.0) (insert_entry cmp es k v)
    ascends_with_entry [] k v h = (tt, tt)
    ascends_with_entry (e ∷ es) k v h = go (cmp k e.0) refl (ascends_with_entry es k v h.1)
      where
        below : (fs : List (K × X)) → cmp e.0 k ≡ Less → AllByRecursion (λ f. cmp e.0 f.0 ≡ Less) fs → AllByRecursion (λ f. cmp e.0 f.0 ≡ Less) (insert_entry cmp fs k v)
        below [] less all = (less, tt)
        below (f ∷ fs) less all = step (cmp k f.0) (below fs less all.1)
          where
            step : (o : Ordering) → AllByRecursion (λ f. cmp e.0 f.0 ≡ Less) (insert_entry cmp fs k v) → AllByRecursion (λ f. cmp e.0 f.0 ≡ Less) (match_ordering o ((k, v) ∷ f ∷ fs) ((f.0, v) ∷ fs) (f ∷ insert_entry cmp fs k v))
            step Less later = (less, all)
            step Equal later = all
            step Greater later = (all.0, later)

        go : (o : Ordering) → cmp k e.0 ≡ o → Ascends cmp (λ (e : K × X). e.0) (insert_entry cmp es k v) → Ascends cmp (λ (e : K × X). e.0) (match_ordering o ((k, v) ∷ e ∷ es) ((e.0, v) ∷ es) (e ∷ insert_entry cmp es k v))
        go Less same later = ((same, all_imply (λ f. cmp e.0 f.0 ≡ Less) (λ f. cmp k f.0 ≡ Less) (λ f less. total.trans k e.0 f.0 same less) es h.0), h)
        go Equal same later = h
        go Greater same later = (below es (total.antisymm e.0 k ∙ ap ordering_reverse same) h.0, later)

    some_with_entry : (es : List (K × X)) (k : K) (v : X) → HasSome (insert_entry cmp es k v)
    some_with_entry [] k v = ((k, v), [], refl)
    some_with_entry (e ∷ es) k v = go (cmp k e.0)
      where
        go : (o : Ordering) → HasSome (match_ordering o ((k, v) ∷ e ∷ es) ((e.0, v) ∷ es) (e ∷ insert_entry cmp es k v))
        go Less = ((k, v), e ∷ es, refl)
        go Equal = ((e.0, v), es, refl)
        go Greater = (e, insert_entry cmp es k v, refl)

    pub entries_gathered : (P : K → Type 0) (Q : X → Type 0) (done es out : List (K × X)) → gathered_entries cmp done es ≡ Some out → Ascends cmp (λ (e : K × X). e.0) done → HasSome (done ++ es) → AllByRecursion (λ e. P e.0 × Q e.1) done → AllByRecursion (λ e. P e.0 × Q e.1) es →
        Ascends cmp (λ (e : K × X). e.0) out × AllByRecursion (λ e. P e.0 × Q e.1) out × HasSome out
    entries_gathered P Q done [] out is h some p q =
        let same : done ≡ out = cc in
        (subst (Ascends cmp (λ (e : K × X). e.0)) same h, subst (AllByRecursion (λ e. P e.0 × Q e.1)) same p, subst HasSome (append-nil done ∙ same) some)
    entries_gathered P Q done (e ∷ es) out is h some p q = go (is_some (lookup (is_at (cmp e.0)) done)) is (λ longer grown. entries_gathered P Q longer es out grown)
      where
        go : (b : Bool) → cond b None (gathered_entries cmp (insert_entry cmp done e.0 e.1) es) ≡ Some out
            → ((longer : List (K × X)) → gathered_entries cmp longer es ≡ Some out → Ascends cmp (λ (e : K × X). e.0) longer → HasSome (longer ++ es) → AllByRecursion (λ e. P e.0 × Q e.1) longer → AllByRecursion (λ e. P e.0 × Q e.1) es → Ascends cmp (λ (e : K × X). e.0) out × AllByRecursion (λ e. P e.0 × Q e.1) out × HasSome out)
            → Ascends cmp (λ (e : K × X). e.0) out × AllByRecursion (λ e. P e.0 × Q e.1) out × HasSome out
        go true f later = absurd (cc)
        go false f later =
            let there = some_with_entry done e.0 e.1 in
            later (insert_entry cmp done e.0 e.1) f (ascends_with_entry done e.0 e.1 h) (there.0, there.1 ++ es, ap (λ z. z ++ es) there.2) (all_with_entry P Q done e.0 e.1 p q.0.0 q.0.1) q.1
