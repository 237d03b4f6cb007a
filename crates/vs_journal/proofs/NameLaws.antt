-- A text in form is judged as the relation on names says, and in no other way.
use Rattle.std.proofs.Common.{◌≡◌, ◌≢◌, ◌∙◌, ◌≤◌, ◌&&◌, ℕ, ℤ, Bool, true, false, List, [], ◌∷◌, Option, Some, None, Result, Ok, Err, length, map, refl, ap, sym, subst, inl, inr, arith, cond}
use Rattle.std.specs.Prelude.{◌⊎◌, nat_le, option_map}
use Rattle.std.specs.Bool.{Decides}
use Rattle.std.specs.List.{AllByRecursion, IsDistinct}
use Rattle.std.specs.Option.{option_and_then}
use Rattle.std.specs.Ordering.{eq_by_cmp, ordering_then}
use Rattle.std.specs.Result.{result_ok}
use Rattle.std.specs.Cmp.{IsTotalOrder}
use Rattle.std.specs.Cmp.Lexicographic.{slice_cmp}
use Rattle.std.specs.Ordering.{nat_cmp}
use Rattle.std.specs.declared.cmp.Ordering.{Ordering}
use Rattle.std.specs.declared.cmp.Ordering.TheVariants.{Less, Equal, Greater}
use Rattle.std.proofs.lemmas.Bool.{and_from, and_parts, le-leb, leb-true}
use Rattle.std.proofs.lemmas.Cmp.{eq_by_cmp_equiv, nat_list_cmp_total, on_total, then_total}
use Rattle.std.proofs.lemmas.List.Sorted.{length_permutation}
use Rattle.std.proofs.lemmas.Map.Lookups.{exact_bytes}
use Rattle.std.proofs.lemmas.Map.Made.{AllPairs-from_IsDistinct, IsDistinct-from_AllPairs}
use Rattle.std.proofs.lemmas.Map.Views.{tells_apart}
use Rattle.vs_gtid.specs.Positions.{Position}
use Rattle.vs_gtid.specs.Readings.{ReadsSet, read}
use Rattle.vs_gtid.specs.declared.refusal.GtidRefusal.{GtidRefusal}
use Rattle.vs_gtid.proofs.ReadingLemmas.{reads}
use Rattle.vs_outside.specs.Names.{is_keyspace_text, is_shard_text}
use Rattle.vs_journal.specs.Judgement.{PlainJournal, PlainName, all_some, by_names, by_order, gathered_entries, gathered_keys, judged_journal, lawful_name, lawful_successor, plain_cmp, position_in, shards_journal}
use Rattle.vs_journal.specs.Names.{AreEach, AreFew, AreInOrder, AreNamed, IsJudgedSo, IsJudgement, IsNameOf, IsSuccessorOf, JudgementsAreNames, StandApart, names_of, successor_cmp, tables_journal}
use Rattle.vs_journal.specs.declared.parsed.Member.{Member}
use Rattle.vs_journal.specs.declared.parsed.ParsedJournal.{ParsedJournal}
use Rattle.vs_journal.specs.declared.refusal.JournalRefusal.{JournalRefusal}
use Rattle.vs_journal.specs.declared.refusal.JournalRefusal.TheVariants.{BadJournal, RepeatedParticipant, RepeatedSuccessor, TooManyNames, Memory}
use Rattle.vs_journal.proofs.GatherLaws.{HasSome}
use Rattle.vs_journal.proofs.JudgeLemmas.{position_is}
use Rattle.vs_journal.proofs.OrderLaws.{apart_gathered, entries_alike, gathered_in_order, in_order_apart, in_order_gathered}

pub names_total : IsTotalOrder plain_cmp
names_total = then_total (on_total (λ (n : PlainName). n.0) nat_list_cmp_total) (on_total (λ (n : PlainName). n.1) nat_list_cmp_total)

successors_total : IsTotalOrder successor_cmp
successors_total = on_total (λ (s : PlainName × Position). s.0) names_total

-- ---- what members say

each_said : {A B : Type 0} (f : A → Option B) (R : A → B → Type 0) → ((x : A) (y : B) → f x ≡ Some y → R x y) → (xs : List A) (ys : List B) → all_some f xs ≡ Some ys → AreEach R xs ys
each_said f R one [] ys h = (let none : [] ≡ ys = cc in subst (AreEach R []) none tt)
each_said {A} {B} f R one (x ∷ xs) ys h = go (f x) (all_some f xs) refl h (λ zs k. each_said f R one xs zs k)
  where
    go : (o : Option B) (q : Option (List B)) → f x ≡ o → option_and_then (λ y. option_map (λ ys. y ∷ ys) q) o ≡ Some ys → ((zs : List B) → q ≡ Some zs → AreEach R xs zs) → AreEach R (x ∷ xs) ys
    go None q e k later = absurd (cc)
    go (Some y) None e k later = absurd (cc)
    go (Some y) (Some zs) e k later = (let same : y ∷ zs ≡ ys = cc in subst (AreEach R (x ∷ xs)) same (one x y e, later zs refl))

said_each : {A B : Type 0} (f : A → Option B) (R : A → B → Type 0) → ((x : A) (y : B) → R x y → f x ≡ Some y) → (xs : List A) (ys : List B) → AreEach R xs ys → all_some f xs ≡ Some ys
said_each f R one [] [] h = refl
said_each f R one [] (y ∷ ys) h = absurd h
said_each f R one (x ∷ xs) [] h = absurd h
said_each f R one (x ∷ xs) (y ∷ ys) h =
    ap (λ o. option_and_then (λ z. option_map (λ zs. z ∷ zs) (all_some f xs)) o) (one x y h.0) ∙ ap (option_map (λ zs. y ∷ zs)) (said_each f R one xs ys h.1)

name_said : (m : Member) (n : PlainName) → lawful_name m ≡ Some n → IsNameOf m n
name_said m n h = go (is_keyspace_text m.keyspace && is_shard_text m.shard) refl h
  where
    go : (b : Bool) → (is_keyspace_text m.keyspace && is_shard_text m.shard) ≡ b → cond b (Some (m.keyspace, m.shard)) None ≡ Some n → IsNameOf m n
    go true e k =
        let same : (m.keyspace, m.shard) ≡ n = cc in
        let parts = and_parts (is_keyspace_text m.keyspace) (is_shard_text m.shard) e in
        (sym same, parts.0, parts.1)
    go false e k = absurd (cc)

said_name : (m : Member) (n : PlainName) → IsNameOf m n → lawful_name m ≡ Some n
said_name m n h =
    ap (λ b. cond b (Some (m.keyspace, m.shard)) None) (and_from (is_keyspace_text m.keyspace) (is_shard_text m.shard) h.1 h.2) ∙ ap Some (sym h.0)

position_said : (text : List ℕ) (p : Position) → position_in text ≡ Some p → (text ≢ []) × ReadsSet text (Ok p)
position_said [] p h = absurd (cc)
position_said (c ∷ cs) p h = go (read (c ∷ cs)) refl h
  where
    go : (r : Result Position GtidRefusal) → read (c ∷ cs) ≡ r → result_ok r ≡ Some p → (c ∷ cs ≢ []) × ReadsSet (c ∷ cs) (Ok p)
    go (Ok q) e k =
        let same : q ≡ p = cc in
        (λ none. cc, subst (λ z. ReadsSet (c ∷ cs) (Ok z)) same (subst (ReadsSet (c ∷ cs)) e (reads (c ∷ cs))))
    go (Err refusal) e k = absurd (cc)

said_position : (text : List ℕ) (p : Position) → text ≢ [] → ReadsSet text (Ok p) → position_in text ≡ Some p
said_position [] p some h = absurd (some refl)
said_position (c ∷ cs) p some h = position_is c cs (Ok p) h

successor_said : (m : Member) (s : PlainName × Position) → lawful_successor m ≡ Some s → IsSuccessorOf m s
successor_said m s h = go (lawful_name m) (position_in m.gtid) refl refl h
  where
    go : (o : Option PlainName) (q : Option Position) → lawful_name m ≡ o → position_in m.gtid ≡ q → option_and_then (λ (n : PlainName). option_map (λ (p : Position). (n, p)) q) o ≡ Some s → IsSuccessorOf m s
    go None q e f k = absurd (cc)
    go (Some n) None e f k = absurd (cc)
    go (Some n) (Some p) e f k =
        let same : (n, p) ≡ s = cc in
        let there = position_said m.gtid p f in
        subst (IsSuccessorOf m) same (name_said m n e, there.0, there.1)

said_successor : (m : Member) (s : PlainName × Position) → IsSuccessorOf m s → lawful_successor m ≡ Some s
said_successor m s h =
    ap (λ o. option_and_then (λ (n : PlainName). option_map (λ (p : Position). (n, p)) (position_in m.gtid)) o) (said_name m s.0 h.0)
    ∙ ap (option_map (λ (p : Position). (s.0, p))) (said_position m.gtid s.1 h.1 h.2)

-- ---- names that stand apart

exact : (a b : PlainName) → plain_cmp a b ≡ Equal → a ≡ b
exact a b h = go (slice_cmp nat_cmp a.0 b.0) (slice_cmp nat_cmp a.1 b.1) refl refl h
  where
    go : (o p : Ordering) → slice_cmp nat_cmp a.0 b.0 ≡ o → slice_cmp nat_cmp a.1 b.1 ≡ p → ordering_then o p ≡ Equal → a ≡ b
    go Less p e f k = absurd (cc)
    go Greater p e f k = absurd (cc)
    go Equal p e f k = (let first : a.0 ≡ b.0 = exact_bytes a.0 b.0 e in let second : a.1 ≡ b.1 = exact_bytes a.1 b.1 (f ∙ k) in ap (λ x. (x, a.1)) first ∙ ap (λ y. (b.0, y)) second)

same_names : (a b : PlainName) → Decides (eq_by_cmp plain_cmp a b) (a ≡ b)
same_names a b = (tells_apart exact a b, λ e. subst (λ n. eq_by_cmp plain_cmp a n ≡ true) e ((eq_by_cmp_equiv names_total).refl a))

apart : (names : List PlainName) → IsDistinct (eq_by_cmp plain_cmp) names → StandApart names
apart names h = AllPairs-from_IsDistinct same_names names h

distinct : (names : List PlainName) → StandApart names → IsDistinct (eq_by_cmp plain_cmp) names
distinct names h = IsDistinct-from_AllPairs same_names names h

others_named : (n : PlainName) (ss : List (PlainName × Position)) → AllByRecursion (λ s. eq_by_cmp plain_cmp n s.0 ≡ false) ss → AllByRecursion (λ m. eq_by_cmp plain_cmp n m ≡ false) (names_of ss)
others_named n [] h = tt
others_named n (s ∷ ss) h = (h.0, others_named n ss h.1)

named_others : (n : PlainName) (ss : List (PlainName × Position)) → AllByRecursion (λ m. eq_by_cmp plain_cmp n m ≡ false) (names_of ss) → AllByRecursion (λ s. eq_by_cmp plain_cmp n s.0 ≡ false) ss
named_others n [] h = tt
named_others n (s ∷ ss) h = (h.0, named_others n ss h.1)

names_distinct : (ss : List (PlainName × Position)) → IsDistinct (eq_by_cmp successor_cmp) ss → IsDistinct (eq_by_cmp plain_cmp) (names_of ss)
unfolding IsDistinct
names_distinct [] h = tt
names_distinct (s ∷ ss) h = (others_named s.0 ss h.0, names_distinct ss h.1)

distinct_names : (ss : List (PlainName × Position)) → IsDistinct (eq_by_cmp plain_cmp) (names_of ss) → IsDistinct (eq_by_cmp successor_cmp) ss
unfolding IsDistinct
distinct_names [] h = tt
distinct_names (s ∷ ss) h = (named_others s.0 ss h.0, distinct_names ss h.1)

-- ---- what comes of names

apart_participants : (ps : List PlainName) → StandApart ps → gathered_keys plain_cmp [] ps ≡ None → ⊥
apart_participants ps h e = apart_gathered plain_cmp names_total [] ps (distinct ps h) e

apart_successors : (ss : List (PlainName × Position)) → StandApart (names_of ss) → gathered_entries plain_cmp [] ss ≡ None → ⊥
apart_successors ss h e = apart_gathered successor_cmp successors_total [] ss (distinct_names ss (distinct (names_of ss) h)) (sym (entries_alike plain_cmp [] ss) ∙ e)

participants_apart : (ps ordered : List PlainName) → AreInOrder plain_cmp ps ordered → StandApart ps
participants_apart ps ordered h = apart ps (in_order_apart plain_cmp names_total ps ordered h)

successors_apart : (ss ordered : List (PlainName × Position)) → AreInOrder successor_cmp ss ordered → StandApart (names_of ss)
successors_apart ss ordered h = apart (names_of ss) (names_distinct ss (in_order_apart successor_cmp successors_total ss ordered h))

participants_made : (ps ordered : List PlainName) → HasSome ps → gathered_keys plain_cmp [] ps ≡ Some ordered → AreInOrder plain_cmp ps ordered
participants_made ps ordered some e = gathered_in_order plain_cmp names_total ps ordered some e

successors_made : (ss ordered : List (PlainName × Position)) → HasSome ss → gathered_entries plain_cmp [] ss ≡ Some ordered → AreInOrder successor_cmp ss ordered
successors_made ss ordered some e = gathered_in_order successor_cmp successors_total ss ordered some (sym (entries_alike plain_cmp [] ss) ∙ e)

abbrev few_of : List PlainName → List (PlainName × Position) → Bool
few_of ps ss = nat_le (length ps) 64 && nat_le (length ss) 64

ordered : (id : ℤ) (ps : List PlainName) (ss : List (PlainName × Position)) → HasSome ps → HasSome ss → (po : Option (List PlainName)) (so : Option (List (PlainName × Position))) → gathered_keys plain_cmp [] ps ≡ po → gathered_entries plain_cmp [] ss ≡ so → IsJudgedSo id ps ss (by_order id po so)
ordered id ps ss some others None so e f = λ h. apart_participants ps h e
ordered id ps ss some others (Some ks) None e f = (participants_apart ps ks (participants_made ps ks some e), λ h. apart_successors ss h f)
ordered id ps ss some others (Some ks) (Some es) e f = go (few_of ks es) refl
  where
    go : (b : Bool) → few_of ks es ≡ b → IsJudgedSo id ps ss (cond b (Ok (shards_journal id ks es)) (Err TooManyNames))
    go true few =
        let keys = participants_made ps ks some e in
        let entries = successors_made ss es others f in
        let parts = and_parts (nat_le (length ks) 64) (nat_le (length es) 64) few in
        (refl, refl, keys, entries, (omega (arith, leb-true (length ks) 64 parts.0, length_permutation ps ks keys.same), omega (arith, leb-true (length es) 64 parts.1, length_permutation ss es entries.same)))
    go false few =
        let keys = participants_made ps ks some e in
        let entries = successors_made ss es others f in (
          participants_apart ps ks keys,
          successors_apart ss es entries,
          λ h.
              let a : length ks ≤ 64 = omega (arith, h.0, length_permutation ps ks keys.same) in
              let b : length es ≤ 64 = omega (arith, h.1, length_permutation ss es entries.same) in
              let both : few_of ks es ≡ true = and_from (nat_le (length ks) 64) (nat_le (length es) 64) (le-leb (length ks) 64 a) (le-leb (length es) 64 b) in
              cc,
        )

some_of : {X : Type 0} (xs : List X) → xs ≢ [] → HasSome xs
some_of [] some = absurd (some refl)
some_of (x ∷ xs) some = (x, xs, refl)

-- ---- what comes of a text in form

abbrev all_names : ParsedJournal → Option (List PlainName)
all_names j = all_some lawful_name j.participants

abbrev all_successors : ParsedJournal → Option (List (PlainName × Position))
all_successors j = all_some lawful_successor j.successors

named_there : (j : ParsedJournal) (ps : List PlainName) (ss : List (PlainName × Position)) → all_names j ≡ Some ps → all_successors j ≡ Some ss → ps ≢ [] → ss ≢ [] → AreNamed j ps ss
named_there j ps ss e f some others = record {
  some = some;
  some_successors = others;
  are = each_said lawful_name IsNameOf name_said j.participants ps e;
  are_successors = each_said lawful_successor IsSuccessorOf successor_said j.successors ss f;
}

there_named : (j : ParsedJournal) (ps : List PlainName) (ss : List (PlainName × Position)) → AreNamed j ps ss → (all_names j ≡ Some ps) × (all_successors j ≡ Some ss)
there_named j ps ss h = (said_each lawful_name IsNameOf said_name j.participants ps h.are, said_each lawful_successor IsSuccessorOf said_successor j.successors ss h.are_successors)

-- what comes of the names, as the function has them
abbrev of_names : ℕ → ParsedJournal → Result PlainJournal JournalRefusal → Type 0
of_names size j r =
    (((ps : List PlainName) (ss : List (PlainName × Position)) → AreNamed j ps ss → ⊥) × (r ≡ Err (BadJournal size)))
    ⊎ ((ps : List PlainName) × (ss : List (PlainName × Position)) × AreNamed j ps ss × IsJudgedSo j.id ps ss r)

shards_is : (size : ℕ) (j : ParsedJournal) (po : Option (List PlainName)) (so : Option (List (PlainName × Position))) → all_names j ≡ po → all_successors j ≡ so → of_names size j (by_names size j.id po so)
shards_is size j None so e f = inl (λ ps ss h. let all = there_named j ps ss h in let none : None ≡ Some ps = sym e ∙ all.0 in cc, refl)
shards_is size j (Some []) so e f = inl (λ ps ss h. let all = there_named j ps ss h in let none : Some [] ≡ Some ps = sym e ∙ all.0 in let empty : [] ≡ ps = cc in h.some (sym empty), refl)
shards_is size j (Some (p ∷ ps)) None e f = inl (λ qs ss h. let all = there_named j qs ss h in let none : None ≡ Some ss = sym f ∙ all.1 in cc, refl)
shards_is size j (Some (p ∷ ps)) (Some []) e f = inl (λ qs ss h. let all = there_named j qs ss h in let none : Some [] ≡ Some ss = sym f ∙ all.1 in let empty : [] ≡ ss = cc in h.some_successors (sym empty), refl)
shards_is size j (Some (p ∷ ps)) (Some (s ∷ ss)) e f =
    inr (
      p ∷ ps,
      s ∷ ss,
      named_there j (p ∷ ps) (s ∷ ss) e f (λ none. cc) (λ none. cc),
      ordered j.id (p ∷ ps) (s ∷ ss) (p, ps, refl) (s, ss, refl) (gathered_keys plain_cmp [] (p ∷ ps)) (gathered_entries plain_cmp [] (s ∷ ss)) refl refl,
    )

judged_by : (size : ℕ) (j : ParsedJournal) (b : Bool) → j.shards ≡ b → judged_journal size j ≡ cond b (by_names size j.id (all_names j) (all_successors j)) (Ok (tables_journal j.id))
judged_by size j b e = ap (λ b. cond b (by_names size j.id (all_names j) (all_successors j)) (Ok (tables_journal j.id))) e

judgement_is : (size : ℕ) (j : ParsedJournal) → IsJudgement size j (judged_journal size j)
unfolding IsJudgement
judgement_is size j = go j.shards refl
  where
    go : (b : Bool) → j.shards ≡ b → IsJudgement size j (judged_journal size j)
    go false e = inl (e, judged_by size j false e)
    go true e =
        let f = judged_by size j true e in
        elim (shards_is size j (all_names j) (all_successors j) refl refl) [
          | inl h ↦ inr (inl (e, h.0, f ∙ h.1))
          | inr h ↦ inr (inr (h.0, h.1, e, h.2, subst (IsJudgedSo j.id h.0 h.1) (sym f) h.3))
        ]

-- ---- and nothing else does

by_named : (size : ℕ) (id : ℤ) (ps : List PlainName) (ss : List (PlainName × Position)) → ps ≢ [] → ss ≢ [] → by_names size id (Some ps) (Some ss) ≡ by_order id (gathered_keys plain_cmp [] ps) (gathered_entries plain_cmp [] ss)
by_named size id [] ss some others = absurd (some refl)
by_named size id (p ∷ ps) [] some others = absurd (others refl)
by_named size id (p ∷ ps) (s ∷ ss) some others = refl

gathered_none : (ps : List PlainName) → HasSome ps → (StandApart ps → ⊥) → gathered_keys plain_cmp [] ps ≡ None
gathered_none ps some h = go (gathered_keys plain_cmp [] ps) refl
  where
    go : (o : Option (List PlainName)) → gathered_keys plain_cmp [] ps ≡ o → o ≡ None
    go None e = refl
    go (Some ks) e = absurd (h (participants_apart ps ks (participants_made ps ks some e)))

entries_none : (ss : List (PlainName × Position)) → HasSome ss → (StandApart (names_of ss) → ⊥) → gathered_entries plain_cmp [] ss ≡ None
entries_none ss some h = go (gathered_entries plain_cmp [] ss) refl
  where
    go : (o : Option (List (PlainName × Position))) → gathered_entries plain_cmp [] ss ≡ o → o ≡ None
    go None e = refl
    go (Some es) e = absurd (h (successors_apart ss es (successors_made ss es some e)))

keys_some : (ps : List PlainName) → StandApart ps → (ks : List PlainName) × (gathered_keys plain_cmp [] ps ≡ Some ks)
keys_some ps h = go (gathered_keys plain_cmp [] ps) refl
  where
    go : (o : Option (List PlainName)) → gathered_keys plain_cmp [] ps ≡ o → (ks : List PlainName) × (o ≡ Some ks)
    go None e = absurd (apart_participants ps h e)
    go (Some ks) e = (ks, refl)

entries_some : (ss : List (PlainName × Position)) → StandApart (names_of ss) → (es : List (PlainName × Position)) × (gathered_entries plain_cmp [] ss ≡ Some es)
entries_some ss h = go (gathered_entries plain_cmp [] ss) refl
  where
    go : (o : Option (List (PlainName × Position))) → gathered_entries plain_cmp [] ss ≡ o → (es : List (PlainName × Position)) × (o ≡ Some es)
    go None e = absurd (apart_successors ss h e)
    go (Some es) e = (es, refl)

by_few : (j : PlainJournal) (b c : Bool) → b ≡ c → cond b (Ok j) (Err TooManyNames) ≡ cond c (Ok j) (Err TooManyNames)
by_few j b c e = ap (λ b. cond b (Ok j) (Err TooManyNames)) e

order_alone : (id : ℤ) (ps : List PlainName) (ss : List (PlainName × Position)) (r : Result PlainJournal JournalRefusal) → HasSome ps → HasSome ss → IsJudgedSo id ps ss r → by_order id (gathered_keys plain_cmp [] ps) (gathered_entries plain_cmp [] ss) ≡ r
order_alone id ps ss (Ok j) some others h =
    let keys = in_order_gathered plain_cmp names_total ps j.participants some h.2 in
    let entries : gathered_entries plain_cmp [] ss ≡ Some j.successors = entries_alike plain_cmp [] ss ∙ in_order_gathered successor_cmp successors_total ss j.successors others h.3 in
    let a : length j.participants ≤ 64 = omega (arith, h.4.0, length_permutation ps j.participants h.2.same) in
    let b : length j.successors ≤ 64 = omega (arith, h.4.1, length_permutation ss j.successors h.3.same) in
    let few : few_of j.participants j.successors ≡ true = and_from (nat_le (length j.participants) 64) (nat_le (length j.successors) 64) (le-leb (length j.participants) 64 a) (le-leb (length j.successors) 64 b) in
    ap (λ o. by_order id o (gathered_entries plain_cmp [] ss)) keys
    ∙ (ap (by_order id (Some j.participants)) entries
    ∙ (by_few (shards_journal id j.participants j.successors) (few_of j.participants j.successors) true few
    ∙ (ap (λ (i : ℤ). Ok (shards_journal i j.participants j.successors)) (sym h.0)
    ∙ ap (λ (b : Bool). Ok (record { id = j.id; shards = b; participants = j.participants; successors = j.successors })) (sym h.1))))
order_alone id ps ss (Err RepeatedParticipant) some others h = ap (λ o. by_order id o (gathered_entries plain_cmp [] ss)) (gathered_none ps some h)
order_alone id ps ss (Err RepeatedSuccessor) some others h =
    let keys = keys_some ps h.0 in
    ap (λ o. by_order id o (gathered_entries plain_cmp [] ss)) keys.1 ∙ ap (by_order id (Some keys.0)) (entries_none ss others h.1)
order_alone id ps ss (Err TooManyNames) some others h =
    let keys = keys_some ps h.0 in
    let entries = entries_some ss h.1 in
    ap (λ o. by_order id o (gathered_entries plain_cmp [] ss)) keys.1
    ∙ (ap (by_order id (Some keys.0)) entries.1 ∙ by_few (shards_journal id keys.0 entries.0) (few_of keys.0 entries.0) false (go keys.0 entries.0 (participants_made ps keys.0 some keys.1) (successors_made ss entries.0 others entries.1) (few_of keys.0 entries.0) refl))
  where
    go : (ks : List PlainName) (es : List (PlainName × Position)) → AreInOrder plain_cmp ps ks → AreInOrder successor_cmp ss es → (b : Bool) → few_of ks es ≡ b → b ≡ false
    go ks es keys entries false e = refl
    go ks es keys entries true e =
        let parts = and_parts (nat_le (length ks) 64) (nat_le (length es) 64) e in
        let a : length ps ≤ 64 = omega (arith, leb-true (length ks) 64 parts.0, length_permutation ps ks keys.same) in
        let b : length ss ≤ 64 = omega (arith, leb-true (length es) 64 parts.1, length_permutation ss es entries.same) in
        absurd (h.2 (a, b))
order_alone id ps ss (Err (BadJournal at)) some others h = absurd h
order_alone id ps ss (Err Memory) some others h = absurd h

shards_alone : (size : ℕ) (j : ParsedJournal) (r : Result PlainJournal JournalRefusal) → of_names size j r → by_names size j.id (all_names j) (all_successors j) ≡ r
shards_alone size j r (inl h) = go (shards_is size j (all_names j) (all_successors j) refl refl)
  where
    go : of_names size j (by_names size j.id (all_names j) (all_successors j)) → by_names size j.id (all_names j) (all_successors j) ≡ r
    go (inl k) = k.1 ∙ sym h.1
    go (inr k) = absurd (h.0 k.0 k.1 k.2)
shards_alone size j r (inr h) =
    let all = there_named j h.0 h.1 h.2 in
    ap (λ o. by_names size j.id o (all_successors j)) all.0
    ∙ (ap (by_names size j.id (Some h.0)) all.1
    ∙ (by_named size j.id h.0 h.1 h.2.some h.2.some_successors ∙ order_alone j.id h.0 h.1 r (some_of h.0 h.2.some) (some_of h.1 h.2.some_successors) h.3))

judgement_alone : (size : ℕ) (j : ParsedJournal) (r : Result PlainJournal JournalRefusal) → IsJudgement size j r → judged_journal size j ≡ r
unfolding IsJudgement
judgement_alone size j r (inl h) = judged_by size j false h.0 ∙ sym h.1
judgement_alone size j r (inr (inl h)) = judged_by size j true h.0 ∙ shards_alone size j r (inl (h.1, h.2))
judgement_alone size j r (inr (inr h)) = judged_by size j true h.2 ∙ shards_alone size j r (inr (h.0, h.1, h.3, h.4))

pub judgements_are_names : JudgementsAreNames
judgements_are_names = record { is = judgement_is; alone = judgement_alone }
