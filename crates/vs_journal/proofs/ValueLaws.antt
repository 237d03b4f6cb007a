-- Each journal that a text says is that of a value, and of one alone.
use Rattle.std.proofs.Common.{◌≡◌, ◌∙◌, ◌≤◌, ◌&&◌, ℕ, ℤ, Bool, true, false, List, [], ◌∷◌, Ok, length, map, refl, ap, sym, subst}
use Rattle.std.specs.List.{AllByRecursion}
use Rattle.std.specs.List.Sorted.{IsStrictlySortedBy}
use Rattle.std.specs.declared.cmp.Ordering.TheVariants.{Less}
use Rattle.std.proofs.Math.Bool.{Bool-set}
use Rattle.std.proofs.Math.Bridge.{le_prop}
use Rattle.std.proofs.lemmas.Bool.{and_from, and_parts, leb-true}
use Rattle.std.proofs.lemmas.List.{length-map}
use Rattle.std.proofs.lemmas.Slice.Eq.{bytes_eq-Decides}
use Rattle.vs_base.specs.Names.{names_differ, same_name}
use Rattle.vs_base.specs.declared.shard_name.ShardName.{ShardName}
use Rattle.vs_base.proofs.NameLemmas.{same_name-is}
use Rattle.vs_gtid.specs.Positions.{Position}
use Rattle.vs_gtid.specs.declared.journal.JournalValue.{JournalValue}
use Rattle.vs_gtid.specs.declared.journal.Successor.{Successor}
use Rattle.vs_outside.specs.Names.{has_name_length, is_dots, is_keyspace_text, is_name_byte, is_shard_byte, is_shard_text}
use Rattle.vs_journal.specs.Grammar.{parsed_journal}
use Rattle.vs_journal.specs.Journals.{JournalsAreValues}
use Rattle.vs_journal.specs.Judgement.{PlainJournal, PlainName, journal_said, plain_cmp, plain_journal, plain_name, plain_successor}
use Rattle.vs_journal.specs.NameOrder.{name_cmp}
use Rattle.vs_journal.proofs.GatherLaws.{Ascends}
use Rattle.vs_journal.proofs.JudgeLemmas.{differ_in_order}
use Rattle.vs_journal.proofs.WrittenLaws.{IsLawful, IsPrinted, KeepsAll, readable}

-- ---- names

short : (text : List ℕ) → has_name_length text ≡ true → length text ≤ 64
short text h = leb-true (length text) 64 (and_parts _ _ h).1

keyspace_short : (n : PlainName) → IsLawful n → length n.0 ≤ 64
keyspace_short n h = short n.0 (and_parts _ _ (and_parts (is_keyspace_text n.0) (is_shard_text n.1) h).0).0

shard_short : (n : PlainName) → IsLawful n → length n.1 ≤ 64
shard_short n h = short n.1 (and_parts _ _ (and_parts _ _ (and_parts (is_keyspace_text n.0) (is_shard_text n.1) h).1).1).0

abbrev name_of : (n : PlainName) → IsLawful n → ShardName
name_of n h = record { keyspace = n.0; shard = n.1; keyspace_fits = keyspace_short n h; shard_fits = shard_short n h }

names_of : (ns : List PlainName) → AllByRecursion IsLawful ns → (names : List ShardName) × (map plain_name names ≡ ns)
names_of [] h = ([], refl)
names_of (n ∷ ns) h = (let more = names_of ns h.1 in (name_of n h.0 ∷ more.0, ap (λ l. n ∷ l) more.1))

successors_of : (ss : List (PlainName × Position)) → AllByRecursion (λ s. IsLawful s.0 × IsPrinted s.1) ss → (successors : List Successor) × (map plain_successor successors ≡ ss)
successors_of [] h = ([], refl)
successors_of (s ∷ ss) h =
    let more = successors_of ss h.1 in
    let one : Successor = record { name = name_of s.0 h.0.0; position = s.1 } in
    (one ∷ more.0, ap (λ l. s ∷ l) more.1)

-- ---- names in order differ

above_names : (name : ShardName) (names : List ShardName) → AllByRecursion (λ m. plain_cmp (plain_name name) m ≡ Less) (map plain_name names) → AllByRecursion (λ m. name_cmp name m ≡ Less) names
above_names name [] h = tt
above_names name (n ∷ names) h = (h.0, above_names name names h.1)

ordered_names : (names : List ShardName) → Ascends plain_cmp (λ (n : PlainName). n) (map plain_name names) → IsStrictlySortedBy name_cmp names
unfolding IsStrictlySortedBy
ordered_names [] h = tt
ordered_names (n ∷ names) h = (above_names n names h.0, ordered_names names h.1)

above_successors : (name : ShardName) (successors : List Successor) → AllByRecursion (λ s. plain_cmp (plain_name name) s.0 ≡ Less) (map plain_successor successors) → AllByRecursion (λ m. name_cmp name m ≡ Less) (map (λ s. s.name) successors)
above_successors name [] h = tt
above_successors name (s ∷ successors) h = (h.0, above_successors name successors h.1)

ordered_successors : (successors : List Successor) → Ascends plain_cmp (λ (s : PlainName × Position). s.0) (map plain_successor successors) → IsStrictlySortedBy name_cmp (map (λ s. s.name) successors)
unfolding IsStrictlySortedBy
ordered_successors [] h = tt
ordered_successors (s ∷ successors) h = (above_successors s.name successors h.0, ordered_successors successors h.1)

-- ---- journals

value_of : (shards : Bool) (j : PlainJournal) → j.shards ≡ shards → KeepsAll shards j → (value : JournalValue) × (plain_journal value ≡ j)
value_of false j is h =
    let value : JournalValue = record {
      id = j.id;
      shards = false;
      participants = [];
      successors = [];
      few_participants = leb-true 0 64 refl;
      few_successors = leb-true 0 64 refl;
      participants_differ = refl;
      successors_differ = refl;
    } in
    let same : plain_journal value ≡ j =
    ap (λ (b : Bool). record { id = j.id; shards = b; participants = []; successors = [] }) (sym is)
    ∙ (ap (λ ps. record { id = j.id; shards = j.shards; participants = ps; successors = [] }) (sym h.0)
    ∙ ap (λ ss. record { id = j.id; shards = j.shards; participants = j.participants; successors = ss }) (sym h.1)) in
    (value, same)
value_of true j is h =
    let names = names_of j.participants h.lawful in
    let successors = successors_of j.successors h.lawful_successors in
    let value : JournalValue = record {
      id = j.id;
      shards = j.shards;
      participants = names.0;
      successors = successors.0;
      few_participants = subst (λ n. n ≤ 64) (sym (ap length names.1) ∙ length-map names.0 plain_name) h.few;
      few_successors = subst (λ n. n ≤ 64) (sym (ap length successors.1) ∙ length-map successors.0 plain_successor) h.few_successors;
      participants_differ = differ_in_order names.0 (ordered_names names.0 (subst (Ascends plain_cmp (λ (n : PlainName). n)) (sym names.1) h.ascending));
      successors_differ = differ_in_order (map (λ s. s.name) successors.0) (ordered_successors successors.0 (subst (Ascends plain_cmp (λ (s : PlainName × Position). s.0)) (sym successors.1) h.ascending_successors));
    } in
    let same : plain_journal value ≡ j =
    ap (λ ps. record { id = j.id; shards = j.shards; participants = ps; successors = map plain_successor successors.0 }) names.1
    ∙ ap (λ ss. record { id = j.id; shards = j.shards; participants = j.participants; successors = ss }) successors.1 in
    (value, same)

-- ---- there is one

name_alone : (a b : ShardName) → plain_name a ≡ plain_name b → a ≡ b
unfolding same_name
name_alone a b e =
    same_name-is a b (and_from _ _ ((bytes_eq-Decides a.keyspace b.keyspace).1 (ap (λ (n : PlainName). n.0) e)) ((bytes_eq-Decides a.shard b.shard).1 (ap (λ (n : PlainName). n.1) e)))

successor_alone : (a b : Successor) → plain_successor a ≡ plain_successor b → a ≡ b
successor_alone a b e =
    let P : ShardName → Successor = λ n. record { name = n; position = a.position } in
    let Q : Position → Successor = λ p. record { name = b.name; position = p } in
    ap P (name_alone a.name b.name (ap (λ (s : PlainName × Position). s.0) e)) ∙ ap Q (ap (λ (s : PlainName × Position). s.1) e)

all_alone : {A B : Type 0} (f : A → B) → ((a b : A) → f a ≡ f b → a ≡ b) → (xs ys : List A) → map f xs ≡ map f ys → xs ≡ ys
all_alone f one [] [] e = refl
all_alone f one [] (y ∷ ys) e = absurd (cc)
all_alone f one (x ∷ xs) [] e = absurd (cc)
all_alone f one (x ∷ xs) (y ∷ ys) e =
    let first : f x ≡ f y = cc in
    let more : map f xs ≡ map f ys = cc in
    ap (λ z. z ∷ xs) (one x y first) ∙ ap (λ zs. y ∷ zs) (all_alone f one xs ys more)

abbrev journal_of : (id : ℤ) (shards : Bool) (ps : List ShardName) (ss : List Successor) → length ps ≤ 64 → length ss ≤ 64 → names_differ ps ≡ true → names_differ (map (λ s. s.name) ss) ≡ true → JournalValue
journal_of id shards ps ss a b c d = record {
  id = id;
  shards = shards;
  participants = ps;
  successors = ss;
  few_participants = a;
  few_successors = b;
  participants_differ = c;
  successors_differ = d;
}

journal_alone : (v w : JournalValue) → plain_journal v ≡ plain_journal w → v ≡ w
journal_alone v w e =
    let names : v.participants ≡ w.participants = all_alone plain_name name_alone v.participants w.participants (ap (λ (j : PlainJournal). j.participants) e) in
    let successors : v.successors ≡ w.successors = all_alone plain_successor successor_alone v.successors w.successors (ap (λ (j : PlainJournal). j.successors) e) in
    let with_names : List ShardName → Type 0 = λ l. (x : length l ≤ 64) (y : names_differ l ≡ true) → v ≡ journal_of v.id v.shards l v.successors x v.few_successors y v.successors_differ in
    let with_both : List Successor → Type 0 = λ l. (x : length l ≤ 64) (y : names_differ (map (λ s. s.name) l) ≡ true) → v ≡ journal_of v.id v.shards w.participants l w.few_participants x w.participants_differ y in
    let first : with_names v.participants = λ x y.
    ap (λ z. journal_of v.id v.shards v.participants v.successors z v.few_successors v.participants_differ v.successors_differ) (le_prop v.few_participants x)
    ∙ ap (λ z. journal_of v.id v.shards v.participants v.successors x v.few_successors z v.successors_differ) (Bool-set _ _ v.participants_differ y) in
    let second : with_both v.successors = λ x y.
    subst with_names names first w.few_participants w.participants_differ
    ∙ (ap (λ z. journal_of v.id v.shards w.participants v.successors w.few_participants z w.participants_differ v.successors_differ) (le_prop v.few_successors x)
    ∙ ap (λ z. journal_of v.id v.shards w.participants v.successors w.few_participants x w.participants_differ z) (Bool-set _ _ v.successors_differ y)) in
    subst with_both successors second w.few_successors w.successors_differ
    ∙ (ap (λ z. journal_of z v.shards w.participants w.successors w.few_participants w.few_successors w.participants_differ w.successors_differ) (ap (λ (j : PlainJournal). j.id) e)
    ∙ ap (λ z. journal_of w.id z w.participants w.successors w.few_participants w.few_successors w.participants_differ w.successors_differ) (ap (λ (j : PlainJournal). j.shards) e))

pub journals_are_values : JournalsAreValues
journals_are_values = record {
  some = λ text j said. value_of j.shards j refl (readable text j (parsed_journal text) refl said).names;
  alone = journal_alone;
}
