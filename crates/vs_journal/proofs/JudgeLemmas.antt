-- Names and positions one by one.
use Rattle.std.proofs.Common.{◌≡◌, ◌++◌, ◌∙◌, ◌+◌, ◌<◌, ℕ, zero, suc, Bool, true, false, not, ◌⊎◌, inl, inr, List, [], ◌∷◌, Option, Some, None, Result, Ok, Err, ℤ, ◌||◌, cond, map, refl, ap, sym, subst, append_assoc, append-nil, arith, drop, get_or, length, ◌≤◌}
use Rattle.std.specs.Prelude.{option_map, ◌&&◌, nat_le}
use Rattle.std.specs.Result.{result_ok}
use Rattle.std.specs.Option.{is_some, option_and_then}
use Rattle.std.specs.Map.{keys_of, lookup}
use Rattle.std.specs.BTreeMap.{insert_entry, is_at}
use Rattle.std.specs.BTreeSet.{insert_key}
use Rattle.std.specs.List.{AllByRecursion, list_any}
use Rattle.std.specs.List.Sorted.{IsStrictlySortedBy}
use Rattle.std.specs.Ordering.{match_ordering, ordering_reverse}
use Rattle.std.specs.Cmp.{IsTotalOrder}
use Rattle.std.specs.declared.cmp.Ordering.{Ordering}
use Rattle.std.specs.declared.cmp.Ordering.TheVariants.{Less, Equal, Greater}
use Rattle.std.proofs.lemmas.Bool.{and_from, le-leb, or_from}
use Rattle.std.proofs.lemmas.List.{length-map}
use Rattle.std.proofs.Math.Seq.{drop-cons}
use Rattle.std.proofs.lemmas.Cmp.{nat_list_cmp_total, on_total, then_total}
use Rattle.std.proofs.lemmas.Map.Keys.{sorted_head, sorted_tail}
use Rattle.vs_base.specs.Names.{names_differ, same_name}
use Rattle.vs_base.specs.declared.shard_name.ShardName.{ShardName}
use Rattle.vs_base.proofs.NameLemmas.{same_name-is}
use Rattle.vs_gtid.specs.Positions.{Position}
use Rattle.vs_gtid.specs.Readings.{ReadsSet}
use Rattle.vs_gtid.specs.declared.refusal.GtidRefusal.{GtidRefusal}
use Rattle.vs_gtid.specs.declared.refusal.GtidRefusal.TheVariants.{Memory}
use Rattle.vs_gtid.proofs.ReadingLemmas.{only}
use Rattle.vs_gtid.specs.declared.journal.Successor.{Successor}
use Rattle.vs_journal.specs.Judgement.{PlainJournal, PlainName, all_some, by_names, by_order, gathered_entries, gathered_keys, plain_cmp, plain_name, plain_successor, position_in}
use Rattle.vs_journal.specs.declared.refusal.JournalRefusal.TheVariants.{TooManyNames}
use Rattle.vs_journal.specs.Refusals.{is_want_of_memory}
use Rattle.vs_journal.specs.NameOrder.{entry_of, name_cmp, plain_entry}

-- ---- elements made one by one, up to one that isn't lawful

behind_front : {B : Type 0} (front : List B) (y : B) (o : Option (List B)) → option_map (λ ys. front ++ ys) (option_map (λ zs. y ∷ zs) o) ≡ option_map (λ ys. (front ++ y ∷ []) ++ ys) o
behind_front front y None = refl
behind_front front y (Some ys) = ap Some (sym (append_assoc front (y ∷ []) ys))

all_some_more : {A B : Type 0} (f : A → Option B) (front : List B) (x : A) (xs : List A) (y : B) → f x ≡ Some y → option_map (λ ys. front ++ ys) (all_some f (x ∷ xs)) ≡ option_map (λ ys. (front ++ y ∷ []) ++ ys) (all_some f xs)
all_some_more f front x xs y h = ap (λ o. option_map (λ ys. front ++ ys) (option_and_then (λ z. option_map (λ zs. z ∷ zs) (all_some f xs)) o)) h ∙ behind_front front y (all_some f xs)

pub item_at : {A : Type 0} (ms : List A) (i : ℕ) (m : A) → i < length ms → m ≡ get_or ms i m → drop i ms ≡ m ∷ drop (i + 1) ms
item_at ms i m within at =
    let e : suc i ≡ i + 1 = omega arith in
    drop-cons ms i m within ∙ ap (λ x. x ∷ drop (suc i) ms) (sym at) ∙ ap (λ k. m ∷ drop k ms) e

drop_past : {A : Type 0} (xs : List A) (i : ℕ) → length xs ≤ i → drop i xs ≡ []
drop_past [] zero h = refl
drop_past [] (suc i) h = refl
drop_past (x ∷ xs) zero h = absurd (omega arith)
drop_past (x ∷ xs) (suc i) h = drop_past xs i (omega arith)

map_pushed : {A B : Type 0} (f : A → B) (xs : List A) (x : A) → map f (xs ++ x ∷ []) ≡ map f xs ++ f x ∷ []
map_pushed f [] x = refl
map_pushed f (y ∷ ys) x = ap (λ zs. f y ∷ zs) (map_pushed f ys x)

-- What was made of the elements before a place, seen without what its type keeps, stands in front of what is made of those from there on.
abbrev pub IsMadeUpTo : {A B C : Type 0} → (A → Option C) → (B → C) → List A → ℕ → List B → Type 0
IsMadeUpTo f plain ms i made = option_map (λ ys. map plain made ++ ys) (all_some f (drop i ms)) ≡ all_some f ms

pub made_one_more : {A B C : Type 0} (f : A → Option C) (plain : B → C) (ms : List A) (i : ℕ) (m : A) (made longer : List B) (x : B) (o : Option B) → i < length ms → m ≡ get_or ms i m
    → option_map plain o ≡ f m → o ≡ Some x → longer ≡ made ++ x ∷ [] → IsMadeUpTo f plain ms i made → IsMadeUpTo f plain ms (i + 1) longer
made_one_more f plain ms i m made longer x o within at lawful some pushed was =
    ap (λ zs. option_map (λ ys. zs ++ ys) (all_some f (drop (i + 1) ms))) (ap (map plain) pushed ∙ map_pushed plain made x)
    ∙ sym (all_some_more f (map plain made) m (drop (i + 1) ms) (plain x) (sym lawful ∙ ap (option_map plain) some))
    ∙ ap (λ xs. option_map (λ ys. map plain made ++ ys) (all_some f xs)) (sym (item_at ms i m within at)) ∙ was

pub made_none : {A B C : Type 0} (f : A → Option C) (plain : B → C) (ms : List A) (i : ℕ) (m : A) (made : List B) (o : Option B) → i < length ms → m ≡ get_or ms i m
    → option_map plain o ≡ f m → o ≡ None → IsMadeUpTo f plain ms i made → None ≡ all_some f ms
made_none f plain ms i m made o within at lawful none was =
    ap (λ o. option_map (λ ys. map plain made ++ ys) (option_and_then (λ z. option_map (λ zs. z ∷ zs) (all_some f (drop (i + 1) ms))) o)) (ap (option_map plain) (sym none) ∙ lawful)
    ∙ ap (λ xs. option_map (λ ys. map plain made ++ ys) (all_some f xs)) (sym (item_at ms i m within at)) ∙ was

pub made_all : {A B C : Type 0} (f : A → Option C) (plain : B → C) (ms : List A) (i : ℕ) (made : List B) → length ms ≤ i → IsMadeUpTo f plain ms i made → Some (map plain made) ≡ all_some f ms
made_all f plain ms i made past was =
    ap Some (sym (append-nil (map plain made))) ∙ ap (λ xs. option_map (λ ys. map plain made ++ ys) (all_some f xs)) (sym (drop_past ms i past)) ∙ was

-- ---- positions

pub position_is : (c : ℕ) (cs : List ℕ) (r : Result Position GtidRefusal) → ReadsSet (c ∷ cs) r → position_in (c ∷ cs) ≡ result_ok r
position_is c cs r h = ap (λ q. result_ok q) (sym (only (c ∷ cs) r h))

abbrev pub read_set : Position → Result Position GtidRefusal
read_set p = Ok p

pub position_read : (text : List ℕ) (p : Position) → (length text ≡ 0 → ⊥) → (read_set p ≡ Err Memory) ⊎ ReadsSet text (Ok p) → Some p ≡ position_in text
position_read [] p some h = absurd (some refl)
position_read (c ∷ cs) p some (inl e) = absurd (cc)
position_read (c ∷ cs) p some (inr h) = sym (position_is c cs (Ok p) h)

abbrev pub refused_set : GtidRefusal → Result Position GtidRefusal
refused_set e = Err e

pub position_refused : (text : List ℕ) (e : GtidRefusal) → (length text ≡ 0 → ⊥) → is_want_of_memory e ≡ false → (refused_set e ≡ Err Memory) ⊎ ReadsSet text (Err e) → None ≡ position_in text
position_refused [] e some other h = absurd (some refl)
position_refused (c ∷ cs) e some other (inl same) = absurd (let is : e ≡ Memory = cc in let both : true ≡ false = sym (ap is_want_of_memory is) ∙ other in cc)
position_refused (c ∷ cs) e some other (inr h) = sym (position_is c cs (Err e) h)

-- ---- names in order differ

pub names_total : IsTotalOrder name_cmp
names_total = then_total (on_total (λ (n : ShardName). n.keyspace) nat_list_cmp_total) (on_total (λ (n : ShardName). n.shard) nat_list_cmp_total)

not_below_itself : (n : ShardName) → name_cmp n n ≡ Less → ⊥
not_below_itself n h =
    let turned : Less ≡ ordering_reverse Less = sym h ∙ names_total.antisymm n n ∙ ap ordering_reverse h in
    cc

below_differs : (a b : ShardName) (same : Bool) → same_name a b ≡ same → name_cmp a b ≡ Less → same ≡ false
below_differs a b false e h = refl
below_differs a b true e h = absurd (not_below_itself a (subst (λ n. name_cmp a n ≡ Less) (sym (same_name-is a b e)) h))

none_same : (a : ShardName) (ks : List ShardName) → AllByRecursion (λ y. name_cmp a y ≡ Less) ks → list_any (same_name a) ks ≡ false
none_same a [] h = refl
none_same a (k ∷ ks) h = or_from (same_name a k) (list_any (same_name a) ks) (below_differs a k (same_name a k) refl h.0) (none_same a ks h.1)

pub differ_in_order : (ks : List ShardName) → IsStrictlySortedBy name_cmp ks → names_differ ks ≡ true
differ_in_order [] h = refl
differ_in_order (k ∷ ks) h =
    and_from (not (list_any (same_name k) ks)) (names_differ ks) (ap not (none_same k ks (sorted_head name_cmp k ks h))) (differ_in_order ks (sorted_tail name_cmp k ks h))

names_listed : (l : List Successor) → map (λ (s : Successor). s.name) l ≡ keys_of (map entry_of l)
names_listed [] = refl
names_listed (s ∷ l) = ap (λ ns. s.name ∷ ns) (names_listed l)

pub successors_differ : (l : List Successor) (es : List (ShardName × Position)) → map entry_of l ≡ es → IsStrictlySortedBy name_cmp (keys_of es) → names_differ (map (λ (s : Successor). s.name) l) ≡ true
successors_differ l es e h = ap names_differ (names_listed l) ∙ differ_in_order (keys_of (map entry_of l)) (subst (λ fs. IsStrictlySortedBy name_cmp (keys_of fs)) (sym e) h)

-- ---- names without what their type keeps

any_plain : (n : ShardName) (ks : List ShardName) → list_any (is_at (plain_cmp (plain_name n))) (map plain_name ks) ≡ list_any (is_at (name_cmp n)) ks
any_plain n [] = refl
any_plain n (k ∷ ks) = ap (λ b. is_at (name_cmp n) k || b) (any_plain n ks)

insert_plain : (n : ShardName) (ks : List ShardName) → insert_key plain_cmp (map plain_name ks) (plain_name n) ≡ map plain_name (insert_key name_cmp ks n)
insert_plain n [] = refl
insert_plain n (k ∷ ks) = go (name_cmp n k) (insert_plain n ks)
  where
    go : (o : Ordering) → insert_key plain_cmp (map plain_name ks) (plain_name n) ≡ map plain_name (insert_key name_cmp ks n)
        → match_ordering o (plain_name n ∷ plain_name k ∷ map plain_name ks) (plain_name k ∷ map plain_name ks) (plain_name k ∷ insert_key plain_cmp (map plain_name ks) (plain_name n))
        ≡ map plain_name (match_ordering o (n ∷ k ∷ ks) (k ∷ ks) (k ∷ insert_key name_cmp ks n))
    go Less later = refl
    go Equal later = refl
    go Greater later = ap (λ zs. plain_name k ∷ zs) later

pub gathered_plain : (keys ks : List ShardName) → gathered_keys plain_cmp (map plain_name keys) (map plain_name ks) ≡ option_map (map plain_name) (gathered_keys name_cmp keys ks)
gathered_plain keys [] = refl
gathered_plain keys (k ∷ ks) =
    let rest : gathered_keys plain_cmp (insert_key plain_cmp (map plain_name keys) (plain_name k)) (map plain_name ks) ≡ option_map (map plain_name) (gathered_keys name_cmp (insert_key name_cmp keys k) ks)
    = ap (λ zs. gathered_keys plain_cmp zs (map plain_name ks)) (insert_plain k keys) ∙ gathered_plain (insert_key name_cmp keys k) ks in
    go (list_any (is_at (plain_cmp (plain_name k))) (map plain_name keys)) (list_any (is_at (name_cmp k)) keys) (any_plain k keys) _ _ rest
  where
    go : (b c : Bool) → b ≡ c → (x : Option (List PlainName)) (y : Option (List ShardName)) → x ≡ option_map (map plain_name) y → cond b None x ≡ option_map (map plain_name) (cond c None y)
    go true true e x y h = refl
    go false false e x y h = h
    go true false e x y h = absurd (cc)
    go false true e x y h = absurd (cc)

lookup_plain : (n : ShardName) (es : List (ShardName × Position)) → lookup (is_at (plain_cmp (plain_name n))) (map plain_entry es) ≡ lookup (is_at (name_cmp n)) es
lookup_plain n [] = refl
lookup_plain n (e ∷ es) = ap (λ o. cond (is_at (name_cmp n) e.0) (Some e.1) o) (lookup_plain n es)

insert_entry_plain : (n : ShardName) (p : Position) (es : List (ShardName × Position)) → insert_entry plain_cmp (map plain_entry es) (plain_name n) p ≡ map plain_entry (insert_entry name_cmp es n p)
insert_entry_plain n p [] = refl
insert_entry_plain n p (e ∷ es) = go (name_cmp n e.0) (insert_entry_plain n p es)
  where
    go : (o : Ordering) → insert_entry plain_cmp (map plain_entry es) (plain_name n) p ≡ map plain_entry (insert_entry name_cmp es n p)
        → match_ordering o ((plain_name n, p) ∷ plain_entry e ∷ map plain_entry es) ((plain_name e.0, p) ∷ map plain_entry es) (plain_entry e ∷ insert_entry plain_cmp (map plain_entry es) (plain_name n) p)
        ≡ map plain_entry (match_ordering o ((n, p) ∷ e ∷ es) ((e.0, p) ∷ es) (e ∷ insert_entry name_cmp es n p))
    go Less later = refl
    go Equal later = refl
    go Greater later = ap (λ zs. plain_entry e ∷ zs) later

pub gathered_entries_plain : (es xs : List (ShardName × Position)) → gathered_entries plain_cmp (map plain_entry es) (map plain_entry xs) ≡ option_map (map plain_entry) (gathered_entries name_cmp es xs)
gathered_entries_plain es [] = refl
gathered_entries_plain es (x ∷ xs) =
    let rest : gathered_entries plain_cmp (insert_entry plain_cmp (map plain_entry es) (plain_name x.0) x.1) (map plain_entry xs) ≡ option_map (map plain_entry) (gathered_entries name_cmp (insert_entry name_cmp es x.0 x.1) xs)
    = ap (λ zs. gathered_entries plain_cmp zs (map plain_entry xs)) (insert_entry_plain x.0 x.1 es) ∙ gathered_entries_plain (insert_entry name_cmp es x.0 x.1) xs in
    go (is_some (lookup (is_at (plain_cmp (plain_name x.0))) (map plain_entry es))) (is_some (lookup (is_at (name_cmp x.0)) es)) (ap is_some (lookup_plain x.0 es)) _ _ rest
  where
    go : (b c : Bool) → b ≡ c → (x : Option (List (PlainName × Position))) (y : Option (List (ShardName × Position))) → x ≡ option_map (map plain_entry) y → cond b None x ≡ option_map (map plain_entry) (cond c None y)
    go true true e x y h = refl
    go false false e x y h = h
    go true false e x y h = absurd (cc)
    go false true e x y h = absurd (cc)

pub successors_plain : (l : List Successor) → map plain_successor l ≡ map plain_entry (map entry_of l)
successors_plain [] = refl
successors_plain (s ∷ l) = ap (λ zs. plain_successor s ∷ zs) (successors_plain l)

-- ---- a journal of shards

pub named_so : (size : ℕ) (id : ℤ) (ps : List ShardName) (ss : List Successor) → (length ps ≡ 0 → ⊥) → (length ss ≡ 0 → ⊥) →
    by_names size id (Some (map plain_name ps)) (Some (map plain_successor ss)) ≡ by_order id (option_map (map plain_name) (gathered_keys name_cmp [] ps)) (option_map (map plain_entry) (gathered_entries name_cmp [] (map entry_of ss)))
named_so size id [] ss some others = absurd (some refl)
named_so size id (p ∷ ps) [] some others = absurd (others refl)
named_so size id (p ∷ ps) (s ∷ ss) some others =
    ap (λ o. by_order id o (gathered_entries plain_cmp [] (map plain_successor (s ∷ ss)))) (gathered_plain [] (p ∷ ps))
    ∙ ap (λ o. by_order id (option_map (map plain_name) (gathered_keys name_cmp [] (p ∷ ps))) o)
    (ap (gathered_entries plain_cmp []) (successors_plain (s ∷ ss)) ∙ gathered_entries_plain [] (map entry_of (s ∷ ss)))

few : (a b : ℕ) (j : PlainJournal) → a ≤ 64 → b ≤ 64 → cond (nat_le a 64 && nat_le b 64) (Ok j) (Err TooManyNames) ≡ Ok j
few a b j h k = ap (λ v. cond v (Ok j) (Err TooManyNames)) (and_from (nat_le a 64) (nat_le b 64) (le-leb a 64 h) (le-leb b 64 k))

pub ordered_so : (id : ℤ) (ks : List ShardName) (es : List (ShardName × Position)) → length ks ≤ 64 → length es ≤ 64 →
    by_order id (Some (map plain_name ks)) (Some (map plain_entry es)) ≡ Ok (record { id = id; shards = true; participants = map plain_name ks; successors = map plain_entry es })
ordered_so id ks es h k =
    few (length (map plain_name ks)) (length (map plain_entry es)) _ (rw (length-map ks plain_name) h) (rw (length-map es plain_entry) k)
