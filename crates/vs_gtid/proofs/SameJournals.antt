-- Journals that pass the test are one, and one journal passes it.
use Rattle.std.proofs.Common.{◌≡◌, ℕ, ◌≤◌, Bool, true, false, not, List, [], ◌∷◌, length, map, if◌then◌else◌, refl, ap, sym, subst, ◌∙◌, true≢false, ℤ}
use Rattle.std.specs.Cmp.Lexicographic.{pointwise}
use Rattle.std.proofs.Math.Bridge.{le_prop}
use Rattle.std.proofs.Math.Bool.{Bool-set}
use Rattle.std.proofs.lemmas.Bool.{and_parts, eqb-true}
use Rattle.std.proofs.lemmas.Bool.Decides.{Decides-int_eq}
use Rattle.std.proofs.lemmas.Slice.Eq.{bytes_eq-Decides}
use Rattle.vs_base.specs.Names.{same_name, names_differ}
use Rattle.vs_base.specs.declared.ShardName.{ShardName}
use Rattle.vs_base.proofs.NameLemmas.{same_name-is}
use Rattle.vs_gtid.specs.declared.interval.Interval.{Interval}
use Rattle.vs_gtid.specs.declared.journal.JournalValue.{JournalValue}
use Rattle.vs_gtid.specs.declared.journal.Successor.{Successor}
use Rattle.vs_gtid.specs.Journals.{same_interval, same_successor, same_journal}

same_items : {A : Type 0} (E : A → A → Bool) → ((a b : A) → E a b ≡ true → a ≡ b) → (xs ys : List A) → pointwise E xs ys ≡ true → xs ≡ ys
same_items E is [] [] e = refl
same_items E is [] (y ∷ ys) e = absurd (true≢false (sym e))
same_items E is (x ∷ xs) [] e = absurd (true≢false (sym e))
same_items E is (x ∷ xs) (y ∷ ys) e =
    let parts = and_parts (E x y) (pointwise E xs ys) e in
    ap (λ z. z ∷ xs) (is x y parts.0) ∙ ap (λ l. y ∷ l) (same_items E is xs ys parts.1)

interval_of : List ℕ → ℕ → ℕ → Interval
interval_of u f l = record { uuid = u; first = f; last = l }

same_interval-is : (a b : Interval) → same_interval a b ≡ true → a ≡ b
unfolding interval_of
same_interval-is a b e =
    let parts = and_parts _ _ e in
    let numbers = and_parts _ _ parts.1 in
    ap (λ u. interval_of u a.first a.last) ((bytes_eq-Decides a.uuid b.uuid).0 parts.0)
    ∙ ap (λ f. interval_of b.uuid f a.last) (eqb-true a.first b.first numbers.0) ∙ ap (λ l. interval_of b.uuid b.first l) (eqb-true a.last b.last numbers.1)

same_successor-is : (a b : Successor) → same_successor a b ≡ true → a ≡ b
same_successor-is a b e =
    let parts = and_parts _ _ e in
    let P : ShardName → Successor = λ n. record { name = n; position = a.position } in
    let Q : List Interval → Successor = λ p. record { name = b.name; position = p } in
    ap P (same_name-is a.name b.name parts.0) ∙ ap Q (same_items same_interval same_interval-is a.position b.position parts.1)

same_bool : (a b : Bool) → (if a then b else not b) ≡ true → a ≡ b
same_bool true true e = refl
same_bool true false e = absurd (true≢false (sym e))
same_bool false true e = absurd (true≢false (sym e))
same_bool false false e = refl

abbrev journal_with : (id : ℤ) (sh : Bool) (ps : List ShardName) (ss : List Successor) → length ps ≤ 64 → length ss ≤ 64 → names_differ ps ≡ true →
    names_differ (map (λ s. s.name) ss) ≡ true → JournalValue
journal_with id sh ps ss a b c d = record {
  id = id;
  shards = sh;
  participants = ps;
  successors = ss;
  few_participants = a;
  few_successors = b;
  participants_differ = c;
  successors_differ = d;
}

journals_alike : (id id' : ℤ) (sh sh' : Bool) (ps ps' : List ShardName) (ss ss' : List Successor) (a : length ps ≤ 64) (a' : length ps' ≤ 64) (b : length ss ≤ 64) (b' : length ss' ≤ 64)
    (c : names_differ ps ≡ true) (c' : names_differ ps' ≡ true) (d : names_differ (map (λ s. s.name) ss) ≡ true) (d' : names_differ (map (λ s. s.name) ss') ≡ true) →
    id ≡ id' → sh ≡ sh' → ps ≡ ps' → ss ≡ ss' → journal_with id sh ps ss a b c d ≡ journal_with id' sh' ps' ss' a' b' c' d'
journals_alike id id' sh sh' ps ps' ss ss' a a' b b' c c' d d' i s p q =
    let AtPs : List ShardName → Type 0 = λ l. (x : length l ≤ 64) (y : names_differ l ≡ true) → journal_with id sh ps ss a b c d ≡ journal_with id sh l ss x b y d in
    let AtSs : List Successor → Type 0 = λ l. (x : length l ≤ 64) (y : names_differ (map (λ s. s.name) l) ≡ true) → journal_with id sh ps' ss a' b c' d ≡ journal_with id sh ps' l a' x c' y in
    subst AtPs p (λ x y. ap (λ z. journal_with id sh ps ss z b c d) (le_prop a x) ∙ ap (λ z. journal_with id sh ps ss x b z d) (Bool-set _ _ c y)) a' c'
    ∙ subst AtSs q (λ x y. ap (λ z. journal_with id sh ps' ss a' z c' d) (le_prop b x) ∙ ap (λ z. journal_with id sh ps' ss a' x c' z) (Bool-set _ _ d y)) b' d'
    ∙ ap (λ z. journal_with z sh ps' ss' a' b' c' d') i ∙ ap (λ z. journal_with id' z ps' ss' a' b' c' d') s

pub same_journal-is : (a b : JournalValue) → same_journal a b ≡ true → a ≡ b
unfolding same_journal
same_journal-is a b e =
    let parts = and_parts _ _ e in
    let front = and_parts _ _ parts.0 in
    let back = and_parts _ _ parts.1 in
    journals_alike a.id b.id a.shards b.shards a.participants b.participants a.successors b.successors
    a.few_participants b.few_participants a.few_successors b.few_successors a.participants_differ b.participants_differ a.successors_differ b.successors_differ
    ((Decides-int_eq a.id b.id).0 front.0) (same_bool a.shards b.shards front.1)
    (same_items same_name same_name-is a.participants b.participants back.0) (same_items same_successor same_successor-is a.successors b.successors back.1)
