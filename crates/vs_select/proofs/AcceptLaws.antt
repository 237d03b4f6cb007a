-- The machine takes what the productions say is a select, and can go on from each of its states.
use Rattle.std.proofs.Common.{◌≡◌, ◌++◌, ◌+◌, ◌<◌, ℕ, zero, suc, Bool, true, false, List, [], ◌∷◌, Option, Some, None, codes, nat_eq, length, map, refl, ap, sym, ◌∙◌, subst, inl, inr, append_assoc, append-nil, arith}
use Rattle.std.specs.Prelude.{option_map, not, if◌then◌else◌}
use Rattle.std.specs.List.{AllByRecursion, IsDistinct, list_any}
use Rattle.std.specs.Option.{option_and_then}
use Rattle.std.specs.Cmp.Lexicographic.{pointwise}
use Rattle.std.proofs.lemmas.Bool.{and_parts, and_right, eqb-true, or_from}
use Rattle.vs_select.specs.Grammar.{done, goes, literal_in, name_in, step, with_column, with_test}
use Rattle.vs_select.specs.Parts.{is_keyword, lower}
use Rattle.vs_select.specs.Productions.{AreColumns, AreMoreNames, AreSelect, AreTests, IsCondition, IsKeyword, IsLiteral, IsName}
use Rattle.vs_select.specs.declared.part.Part.{Part}
use Rattle.vs_select.specs.declared.part.Part.TheVariants as part
use Rattle.vs_select.specs.declared.state.State.{State}
use Rattle.vs_select.specs.declared.state.State.TheVariants.{Begin, Selected, Starred, Listed, Comma, From, Named, Wanting, Column, Compared, Is, IsNot, Tested}
use Rattle.vs_select.specs.declared.select.Literal.{Literal}
use Rattle.vs_select.specs.declared.select.Condition.{Condition}
use Rattle.vs_select.specs.declared.select.Condition.TheVariants.{Compares, IsNull, IsNotNull}
use Rattle.vs_select.specs.declared.select.Test.{Test}
use Rattle.vs_select.specs.declared.select.Select.{Select}
use Rattle.vs_select.proofs.GrammarLaws.{Distinct, accept, same_ways, with_tests}

by_keyword : (b : Bool) (t : State) (ps : List Part) → b ≡ true → option_and_then (λ u. accept u ps) (goes b t) ≡ accept t ps
by_keyword true t ps h = refl
by_keyword false t ps h = absurd (cc)

by_name : (f : List ℕ → Option State) (p : Part) (n : List ℕ) (ps : List Part) → IsName p n → option_and_then (λ u. accept u ps) (option_and_then f (name_in p)) ≡ option_and_then (λ u. accept u ps) (f n)
by_name f p n ps (inl e) = ap (λ q. option_and_then (λ u. accept u ps) (option_and_then f (name_in q))) e
by_name f p n ps (inr e) = ap (λ q. option_and_then (λ u. accept u ps) (option_and_then f (name_in q))) e

by_name_map : (f : List ℕ → State) (p : Part) (n : List ℕ) (ps : List Part) → IsName p n → option_and_then (λ u. accept u ps) (option_map f (name_in p)) ≡ accept (f n) ps
by_name_map f p n ps (inl e) = ap (λ q. option_and_then (λ u. accept u ps) (option_map f (name_in q))) e
by_name_map f p n ps (inr e) = ap (λ q. option_and_then (λ u. accept u ps) (option_map f (name_in q))) e

by_literal : (f : Literal → State) (p : Part) (l : Literal) (ps : List Part) → IsLiteral p l → option_and_then (λ u. accept u ps) (option_map f (literal_in p)) ≡ accept (f l) ps
by_literal f p (Literal.Number negative size) ps e = ap (λ q. option_and_then (λ u. accept u ps) (option_map f (literal_in q))) e
by_literal f p (Literal.Bytes b) ps e = ap (λ q. option_and_then (λ u. accept u ps) (option_map f (literal_in q))) e

-- ---- conditions

same_list : (a b : List ℕ) → pointwise nat_eq a b ≡ true → a ≡ b
same_list [] [] h = refl
same_list [] (y ∷ ys) h = absurd (cc)
same_list (x ∷ xs) [] h = absurd (cc)
same_list (x ∷ xs) (y ∷ ys) h =
    let parts = and_parts (nat_eq x y) (pointwise nat_eq xs ys) h in
    ap (λ z. z ∷ xs) (eqb-true x y parts.0) ∙ ap (λ zs. y ∷ zs) (same_list xs ys parts.1)

not_is_not_null : (p : Part) → IsKeyword (codes "not") p → is_keyword (codes "null") p ≡ false
not_is_not_null (part.Word w) h = ap (λ v. pointwise nat_eq v (codes "null")) (same_list (map lower w) (codes "not") h)
not_is_not_null p h = absurd (cc)

is_behind_column : (q : Select) (n : List ℕ) (p : Part) → IsKeyword (codes "is") p → step (Column q n) p ≡ Some (Is q n)
is_behind_column q n (part.Word w) h = ap (λ b. goes b (Is q n)) h
is_behind_column q n p h = absurd (cc)

from_behind_names : (names : List (List ℕ)) (p : Part) → IsKeyword (codes "from") p → step (Listed names) p ≡ Some (From (Some names))
from_behind_names names (part.Word w) h = ap (λ b. goes b (From (Some names))) h
from_behind_names names p h = absurd (cc)

null_behind_is : (b : Bool) (t : State) (o : Option State) → b ≡ true → (if b then Some t else o) ≡ Some t
null_behind_is true t o h = refl
null_behind_is false t o h = absurd (cc)

not_behind_is : (b c : Bool) (t u : State) → b ≡ false → c ≡ true → (if b then Some t else goes c u) ≡ Some u
not_behind_is false true t u h k = refl
not_behind_is false false t u h k = absurd (cc)
not_behind_is true c t u h k = absurd (cc)

then_accept : (ps : List Part) (o : Option State) (t : State) → o ≡ Some t → option_and_then (λ u. accept u ps) o ≡ accept t ps
then_accept ps o t h = ap (option_and_then (λ u. accept u ps)) h

condition_accepts : (c : Condition) (ps more : List Part) (q : Select) (n : List ℕ) → IsCondition ps c → accept (Column q n) (ps ++ more) ≡ accept (with_test q n c) more
condition_accepts (Compares by l) ps more q n h = ap (λ r. accept (Column q n) (r ++ more)) h.1 ∙ by_literal (λ l. with_test q n (Compares by l)) h.0 l more h.2
condition_accepts IsNull ps more q n h =
    ap (λ r. accept (Column q n) (r ++ more)) h.2
    ∙ (then_accept (h.1 ∷ more) (step (Column q n) h.0) (Is q n) (is_behind_column q n h.0 h.3)
    ∙ then_accept more (step (Is q n) h.1) (with_test q n IsNull) (null_behind_is (is_keyword (codes "null") h.1) _ _ h.4))
condition_accepts IsNotNull ps more q n h =
    ap (λ r. accept (Column q n) (r ++ more)) h.3
    ∙ (then_accept (h.1 ∷ h.2 ∷ more) (step (Column q n) h.0) (Is q n) (is_behind_column q n h.0 h.4)
    ∙ (then_accept (h.2 ∷ more) (step (Is q n) h.1) (IsNot q n) (not_behind_is (is_keyword (codes "null") h.1) (is_keyword (codes "not") h.1) _ _ (not_is_not_null h.1 h.5) h.5)
    ∙ by_keyword (is_keyword (codes "null") h.2) (with_test q n IsNotNull) more h.6))

-- ---- tests

tests_accept : (ts : List Test) (word : List ℕ) (ps : List Part) (st : State) (q : Select) → ((p : Part) (more : List Part) → accept st (p ∷ more) ≡ option_and_then (λ u. accept u more) (goes (is_keyword word p) (Wanting q))) → done st ≡ Some q → AreTests word ps ts → accept st ps ≡ Some (with_tests q ts)
tests_accept [] word ps st q turns ends h = ap (accept st) h ∙ (ends ∙ ap (λ us. Some (record q { tests = us })) (sym (append-nil q.tests)))
tests_accept (t ∷ ts) word ps st q turns ends h =
    ap (accept st) h.4
    ∙ (turns h.0 (h.1 ∷ (h.2 ++ h.3))
    ∙ (by_keyword (is_keyword word h.0) (Wanting q) (h.1 ∷ (h.2 ++ h.3)) h.5
    ∙ (by_name_map (Column q) h.1 t.column (h.2 ++ h.3) h.6
    ∙ (condition_accepts t.condition h.2 h.3 q t.column h.7
    ∙ (tests_accept ts (codes "and") h.3 (Tested (with_tests q (t ∷ []))) (with_tests q (t ∷ [])) (λ p more. refl) refl h.8
    ∙ ap (λ us. Some (record q { tests = us })) (append_assoc q.tests (t ∷ []) ts))))))

-- ---- columns

abbrev behind_columns : Option (List (List ℕ)) → State
behind_columns None = Starred
behind_columns (Some names) = Listed names

all_at : (P : List ℕ → Type 0) (xs : List (List ℕ)) (x : List ℕ) (ys : List (List ℕ)) → AllByRecursion P (xs ++ x ∷ ys) → P x
all_at P [] x ys h = h.0
all_at P (z ∷ zs) x ys h = all_at P zs x ys h.1

not_before : (front : List (List ℕ)) (n : List ℕ) (ns : List (List ℕ)) → Distinct (front ++ n ∷ ns) → list_any (pointwise nat_eq n) front ≡ false
unfolding IsDistinct
not_before [] n ns d = refl
not_before (m ∷ ms) n ns d = or_from (pointwise nat_eq n m) _ (same_ways n m ∙ all_at (λ y. pointwise nat_eq m y ≡ false) ms n ns d.0) (not_before ms n ns d.1)

by_column : (names : List (List ℕ)) (n : List ℕ) (ps : List Part) → list_any (pointwise nat_eq n) names ≡ false → option_and_then (λ u. accept u ps) (with_column names n) ≡ accept (Listed (names ++ n ∷ [])) ps
by_column names n ps h = ap (λ b. option_and_then (λ u. accept u ps) (goes (not b) (Listed (names ++ n ∷ [])))) h

names_accept : (ns front : List (List ℕ)) (more tail : List Part) → AreMoreNames more ns → Distinct (front ++ ns) → accept (Listed front) (more ++ tail) ≡ accept (Listed (front ++ ns)) tail
names_accept [] front more tail h d = ap (λ r. accept (Listed front) (r ++ tail)) h ∙ ap (λ f. accept (Listed f) tail) (sym (append-nil front))
names_accept (n ∷ ns) front more tail h d =
    let e : (front ++ n ∷ []) ++ ns ≡ front ++ (n ∷ ns) = append_assoc front (n ∷ []) ns in
    ap (λ r. accept (Listed front) (r ++ tail)) h.2
    ∙ (by_name (with_column front) h.0 n (h.1 ++ tail) h.3
    ∙ (by_column front n (h.1 ++ tail) (not_before front n ns d)
    ∙ (names_accept ns (front ++ n ∷ []) h.1 tail h.4 (subst Distinct (sym e) d)
    ∙ ap (λ f. accept (Listed f) tail) e)))

first_name : (p : Part) (n : List ℕ) (ps : List Part) → IsName p n → accept Selected (p ∷ ps) ≡ accept (Listed (n ∷ [])) ps
first_name p n ps (inl e) = ap (λ q. accept Selected (q ∷ ps)) e
first_name p n ps (inr e) = ap (λ q. accept Selected (q ∷ ps)) e

columns_accept : (o : Option (List (List ℕ))) (cs tail : List Part) → AreColumns cs o → accept Selected (cs ++ tail) ≡ accept (behind_columns o) tail
columns_accept None cs tail h = ap (λ r. accept Selected (r ++ tail)) h
columns_accept (Some []) cs tail h = absurd h
columns_accept (Some (n ∷ names)) cs tail h = ap (λ r. accept Selected (r ++ tail)) h.2 ∙ (first_name h.0 n (h.1 ++ tail) h.3 ∙ names_accept names (n ∷ []) h.1 tail h.4 h.5)

from_accepts : (o : Option (List (List ℕ))) (p : Part) (tail : List Part) → IsKeyword (codes "from") p → accept (behind_columns o) (p ∷ tail) ≡ accept (From o) tail
from_accepts None p tail h = by_keyword (is_keyword (codes "from") p) (From None) tail h
from_accepts (Some names) p tail h = then_accept tail (step (Listed names) p) (From (Some names)) (from_behind_names names p h)

abbrev bare : Select → Select
bare s = record { columns = s.columns; table = s.table; tests = [] }

pub selects_accepted : (ps : List Part) (s : Select) → AreSelect ps s → accept Begin ps ≡ Some s
selects_accepted ps s a =
    ap (accept Begin) a.are
    ∙ (by_keyword (is_keyword (codes "select") a.select) Selected (a.columns ++ (a.from ∷ a.table ∷ a.tests)) a.begins
    ∙ (columns_accept s.columns a.columns (a.from ∷ a.table ∷ a.tests) a.columns_are
    ∙ (from_accepts s.columns a.from (a.table ∷ a.tests) a.from_is
    ∙ (by_name_map (λ n. Named (record { columns = s.columns; table = n; tests = [] })) a.table s.table a.tests a.table_is
    ∙ tests_accept s.tests (codes "where") a.tests (Named (bare s)) (bare s) (λ p more. refl) refl a.tests_are))))

-- ---- each state can go on

letters : ℕ → List ℕ
letters zero = []
letters (suc n) = 0x61 ∷ letters n

length-letters : (n : ℕ) → length (letters n) ≡ n
unfolding letters
length-letters zero = refl
length-letters (suc n) = ap suc (length-letters n)

abbrev total : List (List ℕ) → ℕ
total [] = 0
total (n ∷ names) = length n + total names

other_length : (a b : List ℕ) → length b < length a → pointwise nat_eq a b ≡ false
other_length [] b h = absurd (omega arith)
other_length (x ∷ xs) [] h = refl
other_length (x ∷ xs) (y ∷ ys) h = and_right (nat_eq x y) (pointwise nat_eq xs ys) (other_length xs ys (omega arith))

none_so_long : (names : List (List ℕ)) (n : List ℕ) → total names < length n → list_any (pointwise nat_eq n) names ≡ false
none_so_long [] n h = refl
none_so_long (m ∷ ms) n h = or_from (pointwise nat_eq n m) _ (other_length n m (omega arith)) (none_so_long ms n (omega arith))

-- a name that is none of these
fresh : List (List ℕ) → List ℕ
fresh names = letters (suc (total names))

fresh_is_none : (names : List (List ℕ)) → list_any (pointwise nat_eq (fresh names)) names ≡ false
unfolding fresh
fresh_is_none names = none_so_long names (letters (suc (total names))) (let e = length-letters (suc (total names)) in omega (arith, e))

abbrev word : List ℕ → Part
word w = part.Word w

abbrev CanEnd : State → Type 0
CanEnd st = (more : List Part) × (s : Select) × (accept st more ≡ Some s)

abbrev table_t : Option (List (List ℕ)) → Select
table_t columns = record { columns = columns; table = codes "t"; tests = [] }

pub can_end : (st : State) → CanEnd st
can_end Begin = (word (codes "select") ∷ part.Star ∷ word (codes "from") ∷ word (codes "t") ∷ [], table_t None, refl)
can_end Selected = (part.Star ∷ word (codes "from") ∷ word (codes "t") ∷ [], table_t None, refl)
can_end Starred = (word (codes "from") ∷ word (codes "t") ∷ [], table_t None, refl)
can_end (Listed names) = (word (codes "from") ∷ word (codes "t") ∷ [], table_t (Some names), refl)
can_end (Comma names) = (word (fresh names) ∷ word (codes "from") ∷ word (codes "t") ∷ [], table_t (Some (names ++ fresh names ∷ [])), by_column names (fresh names) (word (codes "from") ∷ word (codes "t") ∷ []) (fresh_is_none names))
can_end (From columns) = (word (codes "t") ∷ [], table_t columns, refl)
can_end (Named q) = ([], q, refl)
can_end (Wanting q) = (word (codes "c") ∷ word (codes "is") ∷ word (codes "null") ∷ [], with_tests q (record { column = codes "c"; condition = IsNull } ∷ []), refl)
can_end (Column q n) = (word (codes "is") ∷ word (codes "null") ∷ [], with_tests q (record { column = n; condition = IsNull } ∷ []), refl)
can_end (Compared q n by) = (part.Number false 0 ∷ [], with_tests q (record { column = n; condition = Compares by (Literal.Number false 0) } ∷ []), refl)
can_end (Is q n) = (word (codes "null") ∷ [], with_tests q (record { column = n; condition = IsNull } ∷ []), refl)
can_end (IsNot q n) = (word (codes "null") ∷ [], with_tests q (record { column = n; condition = IsNotNull } ∷ []), refl)
can_end (Tested q) = ([], q, refl)
