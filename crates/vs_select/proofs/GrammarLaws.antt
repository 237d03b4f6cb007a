-- The machine over parts, and the productions: what is still to come from a state on.
use Rattle.std.proofs.Common.{◌≡◌, ◌++◌, ◌⊎◌, ℕ, Bool, true, false, List, [], ◌∷◌, Option, Some, None, codes, nat_eq, refl, ap, sym, ◌∙◌, subst, inl, inr, ⊎_elim, append_assoc, append-nil}
use Rattle.std.proofs.lemmas.Bool.{cases_eq, eq-eqb, ne_eqb, or_parts}
use Rattle.std.specs.Prelude.{option_map, not, ◌&&◌, if◌then◌else◌}
use Rattle.std.specs.List.{AllByRecursion, IsDistinct, list_any}
use Rattle.std.specs.Option.{option_and_then}
use Rattle.std.specs.Cmp.Lexicographic.{pointwise}
use Rattle.vs_select.specs.Grammar.{done, goes, literal_in, name_in, step, with_column, with_test}
use Rattle.vs_select.specs.Parts.{is_keyword}
use Rattle.vs_select.specs.Productions.{AreColumns, AreMoreNames, AreSelect, AreTests, IsCondition, IsKeyword, IsLiteral, IsName}
use Rattle.vs_select.specs.declared.part.Part.{Part}
use Rattle.vs_select.specs.declared.part.Part.TheVariants as part
use Rattle.vs_select.specs.declared.state.State.{State}
use Rattle.vs_select.specs.declared.state.State.TheVariants.{Begin, Selected, Starred, Listed, Comma, From, Named, Wanting, Column, Compared, Is, IsNot, Tested}
use Rattle.vs_select.specs.declared.select.Literal.{Literal}
use Rattle.vs_select.specs.declared.select.Condition.{Condition}
use Rattle.vs_select.specs.declared.select.Condition.TheVariants.{Compares, IsNull, IsNotNull}
use Rattle.vs_select.specs.declared.select.Test.{Test}
use Rattle.vs_select.specs.declared.select.Select.{Select}

-- the select of the parts from a state on
abbrev pub accept : State → List Part → Option Select
accept st [] = done st
accept st (p ∷ ps) = option_and_then (λ t. accept t ps) (step st p)

-- the state behind parts
abbrev pub walk : State → List Part → Option State
walk st [] = Some st
walk st (p ∷ ps) = option_and_then (λ t. walk t ps) (step st p)

pub accept-behind : (ps more : List Part) (st t : State) → walk st ps ≡ Some t → accept st (ps ++ more) ≡ accept t more
accept-behind [] more st t h = ap (λ u. accept u more) (cc)
accept-behind (p ∷ ps) more st t h = go (step st p) (λ u. accept-behind ps more u t) h
  where
    go : (o : Option State) → ((u : State) → walk u ps ≡ Some t → accept u (ps ++ more) ≡ accept t more) → option_and_then (λ u. walk u ps) o ≡ Some t → option_and_then (λ u. accept u (ps ++ more)) o ≡ accept t more
    go None later h = absurd (cc)
    go (Some u) later h = later u h

-- ---- what a step says

after_goes : (b : Bool) (t : State) (ps : List Part) (s : Select) → option_and_then (λ u. accept u ps) (goes b t) ≡ Some s → (b ≡ true) × (accept t ps ≡ Some s)
after_goes true t ps s h = (refl, h)
after_goes false t ps s h = absurd (cc)

after_name : (f : List ℕ → Option State) (p : Part) (ps : List Part) (s : Select) → option_and_then (λ u. accept u ps) (option_and_then f (name_in p)) ≡ Some s → (n : List ℕ) × IsName p n × (option_and_then (λ u. accept u ps) (f n) ≡ Some s)
after_name f (part.Word w) ps s h = (w, inl refl, h)
after_name f (part.Quoted w) ps s h = (w, inr refl, h)
after_name f p ps s h = absurd (cc)

after_name_map : (f : List ℕ → State) (p : Part) (ps : List Part) (s : Select) → option_and_then (λ u. accept u ps) (option_map f (name_in p)) ≡ Some s → (n : List ℕ) × IsName p n × (accept (f n) ps ≡ Some s)
after_name_map f (part.Word w) ps s h = (w, inl refl, h)
after_name_map f (part.Quoted w) ps s h = (w, inr refl, h)
after_name_map f p ps s h = absurd (cc)

after_literal : (f : Literal → State) (p : Part) (ps : List Part) (s : Select) → option_and_then (λ u. accept u ps) (option_map f (literal_in p)) ≡ Some s → (l : Literal) × IsLiteral p l × (accept (f l) ps ≡ Some s)
after_literal f (part.Number negative size) ps s h = (Literal.Number negative size, refl, h)
after_literal f (part.Bytes b) ps s h = (Literal.Bytes b, refl, h)
after_literal f p ps s h = absurd (cc)

after_column : (names : List (List ℕ)) (n : List ℕ) (ps : List Part) (s : Select) → option_and_then (λ u. accept u ps) (with_column names n) ≡ Some s → (list_any (pointwise nat_eq n) names ≡ false) × (accept (Listed (names ++ n ∷ [])) ps ≡ Some s)
after_column names n ps s h = go (list_any (pointwise nat_eq n) names) h
  where
    go : (b : Bool) → option_and_then (λ u. accept u ps) (goes (not b) (Listed (names ++ n ∷ []))) ≡ Some s → (b ≡ false) × (accept (Listed (names ++ n ∷ [])) ps ≡ Some s)
    go false h = (refl, h)
    go true h = absurd (cc)

-- ---- names but once

eq_ways : (a b : ℕ) → nat_eq a b ≡ nat_eq b a
eq_ways a b = ⊎_elim (λ e. eq-eqb a b e ∙ sym (eq-eqb b a (sym e))) (λ ne. ne_eqb a b ne ∙ sym (ne_eqb b a (λ e. ne (sym e)))) (cases_eq a b)

pub same_ways : (a b : List ℕ) → pointwise nat_eq a b ≡ pointwise nat_eq b a
same_ways [] [] = refl
same_ways [] (y ∷ ys) = refl
same_ways (x ∷ xs) [] = refl
same_ways (x ∷ xs) (y ∷ ys) = ap (λ b. b && pointwise nat_eq xs ys) (eq_ways x y) ∙ ap (λ b. nat_eq y x && b) (same_ways xs ys)

all_push : (P : List ℕ → Type 0) (xs : List (List ℕ)) (x : List ℕ) → AllByRecursion P xs → P x → AllByRecursion P (xs ++ x ∷ [])
all_push P [] x all here = (here, tt)
all_push P (y ∷ ys) x all here = (all.0, all_push P ys x all.1 here)

one_more_name : (names : List (List ℕ)) (n : List ℕ) → IsDistinct (pointwise nat_eq) names → list_any (pointwise nat_eq n) names ≡ false → IsDistinct (pointwise nat_eq) (names ++ n ∷ [])
unfolding IsDistinct
one_more_name [] n d h = (tt, tt)
one_more_name (m ∷ ms) n d h =
    let parts = or_parts (pointwise nat_eq n m) (list_any (pointwise nat_eq n) ms) h in
    (all_push (λ y. pointwise nat_eq m y ≡ false) ms n d.0 (same_ways m n ∙ parts.0), one_more_name ms n d.1 parts.1)

one_name : (n : List ℕ) → IsDistinct (pointwise nat_eq) (n ∷ [])
unfolding IsDistinct
one_name n = (tt, tt)

-- ---- what is still to come

abbrev pub with_tests : Select → List Test → Select
with_tests s ts = record s { tests = s.tests ++ ts }

abbrev pub test_of : List ℕ → Condition → Test
test_of n c = record { column = n; condition = c }

abbrev FromOn : List Part → Select → Type 0
FromOn ps s = (from table : Part) × (tests : List Part) × (ps ≡ from ∷ table ∷ tests) × IsKeyword (codes "from") from × IsName table s.table × AreTests (codes "where") tests s.tests

abbrev pub Distinct : List (List ℕ) → Type 0
Distinct names = IsDistinct (pointwise nat_eq) names

abbrev ToCome : State → List Part → Select → Type 0
ToCome Begin ps s = AreSelect ps s
ToCome Selected ps s = (columns tail : List Part) × (ps ≡ columns ++ tail) × AreColumns columns s.columns × FromOn tail s
ToCome Starred ps s = FromOn ps s × (s.columns ≡ None)
ToCome (Listed names) ps s = (more tail : List Part) × (ns : List (List ℕ)) × (ps ≡ more ++ tail) × AreMoreNames more ns × FromOn tail s × (s.columns ≡ Some (names ++ ns)) × (Distinct names → Distinct (names ++ ns))
ToCome (Comma names) ps s = (p : Part) × (more tail : List Part) × (n : List ℕ) × (ns : List (List ℕ)) × (ps ≡ p ∷ (more ++ tail)) × IsName p n × AreMoreNames more ns × FromOn tail s × (s.columns ≡ Some (names ++ n ∷ ns)) × (Distinct names → Distinct (names ++ n ∷ ns))
ToCome (From columns) ps s = (table : Part) × (tests : List Part) × (ps ≡ table ∷ tests) × IsName table s.table × AreTests (codes "where") tests s.tests × (s.columns ≡ columns)
ToCome (Named q) ps s = (ts : List Test) × AreTests (codes "where") ps ts × (s ≡ with_tests q ts)
ToCome (Tested q) ps s = (ts : List Test) × AreTests (codes "and") ps ts × (s ≡ with_tests q ts)
ToCome (Wanting q) ps s = (p : Part) × (condition more : List Part) × (t : Test) × (ts : List Test) × (ps ≡ p ∷ (condition ++ more)) × IsName p t.column × IsCondition condition t.condition × AreTests (codes "and") more ts × (s ≡ with_tests q (t ∷ ts))
ToCome (Column q n) ps s = (condition more : List Part) × (c : Condition) × (ts : List Test) × (ps ≡ condition ++ more) × IsCondition condition c × AreTests (codes "and") more ts × (s ≡ with_tests q (test_of n c ∷ ts))
ToCome (Compared q n by) ps s = (p : Part) × (more : List Part) × (l : Literal) × (ts : List Test) × (ps ≡ p ∷ more) × IsLiteral p l × AreTests (codes "and") more ts × (s ≡ with_tests q (test_of n (Compares by l) ∷ ts))
ToCome (Is q n) ps s = (rest more : List Part) × (c : Condition) × (ts : List Test) × (ps ≡ rest ++ more) × ((is : Part) → IsKeyword (codes "is") is → IsCondition (is ∷ rest) c) × AreTests (codes "and") more ts × (s ≡ with_tests q (test_of n c ∷ ts))
ToCome (IsNot q n) ps s = (null : Part) × (more : List Part) × (ts : List Test) × (ps ≡ null ∷ more) × IsKeyword (codes "null") null × AreTests (codes "and") more ts × (s ≡ with_tests q (test_of n IsNotNull ∷ ts))

no_more_tests : (q s : Select) → Some q ≡ Some s → s ≡ with_tests q []
no_more_tests q s h =
    let e : q ≡ s = cc in
    sym e ∙ ap (λ ts. record q { tests = ts }) (sym (append-nil q.tests))

ended : (st : State) (s : Select) → done st ≡ Some s → ToCome st [] s
ended (Named q) s h = ([], refl, no_more_tests q s h)
ended (Tested q) s h = ([], refl, no_more_tests q s h)
ended st s h = absurd (cc)

-- a test that was read, and those behind it
one_more_test : (q s : Select) (t : Test) (ts : List Test) → s ≡ with_tests (with_tests q (t ∷ [])) ts → s ≡ with_tests q (t ∷ ts)
one_more_test q s t ts h = h ∙ ap (λ us. record q { tests = us }) (append_assoc q.tests (t ∷ []) ts)

after_is : (b c : Bool) (t u : State) (ps : List Part) (s : Select) → option_and_then (λ v. accept v ps) (if b then Some t else goes c u) ≡ Some s → ((b ≡ true) × (accept t ps ≡ Some s)) ⊎ ((c ≡ true) × (accept u ps ≡ Some s))
after_is true c t u ps s h = inl (refl, h)
after_is false c t u ps s h = inr (after_goes c u ps s h)

abbrev Later : List Part → Type 0
Later ps = (st : State) (s : Select) → accept st ps ≡ Some s → ToCome st ps s

come_name : (p : Part) (ps : List Part) (s : Select) → Later ps → option_and_then (λ u. accept u ps) (option_and_then (with_column []) (name_in p)) ≡ Some s → ToCome Selected (p ∷ ps) s
come_name p ps s later h =
    let a = after_name (with_column []) p ps s h in
    let b = after_column [] a.0 ps s a.2 in
    let c = later (Listed (a.0 ∷ [])) s b.1 in
    let P : Option (List (List ℕ)) → Type 0 = λ o. AreColumns (p ∷ c.0) o in
    (p ∷ c.0, c.1, ap (λ r. p ∷ r) c.3, subst P (sym c.6) (p, c.0, refl, a.1, c.4, c.7 (one_name a.0)), c.5)

come_selected : (p : Part) (ps : List Part) (s : Select) → Later ps → accept Selected (p ∷ ps) ≡ Some s → ToCome Selected (p ∷ ps) s
come_selected part.Star ps s later h =
    let c = later Starred s h in
    let P : Option (List (List ℕ)) → Type 0 = λ o. AreColumns (part.Star ∷ []) o in
    (part.Star ∷ [], ps, refl, subst P (sym c.1) refl, c.0)
come_selected p ps s later h = come_name p ps s later h

come_from : (names : List (List ℕ)) (p : Part) (ps : List Part) (s : Select) → Later ps → option_and_then (λ u. accept u ps) (goes (is_keyword (codes "from") p) (From (Some names))) ≡ Some s → ToCome (Listed names) (p ∷ ps) s
come_from names p ps s later h =
    let a = after_goes (is_keyword (codes "from") p) (From (Some names)) ps s h in
    let c = later (From (Some names)) s a.1 in
    ([], p ∷ ps, [], refl, refl, (p, c.0, c.1, ap (λ r. p ∷ r) c.2, a.0, c.3, c.4), c.5 ∙ ap Some (sym (append-nil names)), λ d. subst Distinct (sym (append-nil names)) d)

come_listed : (names : List (List ℕ)) (p : Part) (ps : List Part) (s : Select) → Later ps → accept (Listed names) (p ∷ ps) ≡ Some s → ToCome (Listed names) (p ∷ ps) s
come_listed names part.Comma ps s later h =
    let c = later (Comma names) s h in
    (part.Comma ∷ c.0 ∷ c.1, c.2, c.3 ∷ c.4, ap (λ r. part.Comma ∷ r) c.5, (c.0, c.1, refl, c.6, c.7), c.8, c.9, c.10)
come_listed names p ps s later h = come_from names p ps s later h

come_comma : (names : List (List ℕ)) (p : Part) (ps : List Part) (s : Select) → Later ps → accept (Comma names) (p ∷ ps) ≡ Some s → ToCome (Comma names) (p ∷ ps) s
come_comma names p ps s later h =
    let a = after_name (with_column names) p ps s h in
    let b = after_column names a.0 ps s a.2 in
    let c = later (Listed (names ++ a.0 ∷ [])) s b.1 in
    let e : (names ++ a.0 ∷ []) ++ c.2 ≡ names ++ (a.0 ∷ c.2) = append_assoc names (a.0 ∷ []) c.2 in
    (p, c.0, c.1, a.0, c.2, ap (λ r. p ∷ r) c.3, a.1, c.4, c.5, c.6 ∙ ap Some e, λ d. subst Distinct e (c.7 (one_more_name names a.0 d b.0)))

come_table : (columns : Option (List (List ℕ))) (p : Part) (ps : List Part) (s : Select) → Later ps → accept (From columns) (p ∷ ps) ≡ Some s → ToCome (From columns) (p ∷ ps) s
come_table columns p ps s later h =
    let a = after_name_map (λ n. Named (record { columns = columns; table = n; tests = [] })) p ps s h in
    let c = later (Named (record { columns = columns; table = a.0; tests = [] })) s a.2 in
    let Q : List Test → Type 0 = λ ts. AreTests (codes "where") ps ts in
    (p, ps, refl, subst (IsName p) (sym (ap (λ (r : Select). r.table) c.2)) a.1, subst Q (sym (ap (λ (r : Select). r.tests) c.2)) c.1, ap (λ (r : Select). r.columns) c.2)

come_column : (q : Select) (n : List ℕ) (p : Part) (ps : List Part) (s : Select) → Later ps → accept (Column q n) (p ∷ ps) ≡ Some s → ToCome (Column q n) (p ∷ ps) s
come_column q n (part.Sign by) ps s later h =
    let c = later (Compared q n by) s h in
    (part.Sign by ∷ c.0 ∷ [], c.1, Compares by c.2, c.3, ap (λ r. part.Sign by ∷ r) c.4, (c.0, refl, c.5), c.6, c.7)
come_column q n p ps s later h = come_is p ps s later h
  where
    come_is : (p : Part) (ps : List Part) (s : Select) → Later ps → option_and_then (λ u. accept u ps) (goes (is_keyword (codes "is") p) (Is q n)) ≡ Some s → ToCome (Column q n) (p ∷ ps) s
    come_is p ps s later h =
        let a = after_goes (is_keyword (codes "is") p) (Is q n) ps s h in
        let c = later (Is q n) s a.1 in
        (p ∷ c.0, c.1, c.2, c.3, ap (λ r. p ∷ r) c.4, c.5 p a.0, c.6, c.7)

come_null : (q : Select) (n : List ℕ) (p : Part) (ps : List Part) (s : Select) → Later ps → accept (Is q n) (p ∷ ps) ≡ Some s → ToCome (Is q n) (p ∷ ps) s
come_null q n p ps s later h = go (after_is (is_keyword (codes "null") p) (is_keyword (codes "not") p) (with_test q n IsNull) (IsNot q n) ps s h)
  where
    go : ((is_keyword (codes "null") p ≡ true) × (accept (with_test q n IsNull) ps ≡ Some s)) ⊎ ((is_keyword (codes "not") p ≡ true) × (accept (IsNot q n) ps ≡ Some s)) → ToCome (Is q n) (p ∷ ps) s
    go (inl a) =
        let c = later (with_test q n IsNull) s a.1 in
        (p ∷ [], ps, IsNull, c.0, refl, λ is k. (is, p, refl, k, a.0), c.1, one_more_test q s (test_of n IsNull) c.0 c.2)
    go (inr a) =
        let c = later (IsNot q n) s a.1 in
        (p ∷ c.0 ∷ [], c.1, IsNotNull, c.2, ap (λ r. p ∷ r) c.3, λ is k. (is, p, c.0, refl, k, a.0, c.4), c.5, c.6)

pub to_come : (ps : List Part) (st : State) (s : Select) → accept st ps ≡ Some s → ToCome st ps s
to_come [] st s h = ended st s h
to_come (p ∷ ps) Begin s h =
    let a = after_goes (is_keyword (codes "select") p) Selected ps s h in
    let c = to_come ps Selected s a.1 in
    record { select = p; columns = c.0; from = c.4.0; table = c.4.1; tests = c.4.2; are = ap (λ r. p ∷ r) (c.2 ∙ ap (λ t. c.0 ++ t) c.4.3); begins = a.0; columns_are = c.3; from_is = c.4.4; table_is = c.4.5; tests_are = c.4.6 }
to_come (p ∷ ps) Selected s h = come_selected p ps s (to_come ps) h
to_come (p ∷ ps) Starred s h =
    let a = after_goes (is_keyword (codes "from") p) (From None) ps s h in
    let c = to_come ps (From None) s a.1 in
    ((p, c.0, c.1, ap (λ r. p ∷ r) c.2, a.0, c.3, c.4), c.5)
to_come (p ∷ ps) (Listed names) s h = come_listed names p ps s (to_come ps) h
to_come (p ∷ ps) (Comma names) s h = come_comma names p ps s (to_come ps) h
to_come (p ∷ ps) (From columns) s h = come_table columns p ps s (to_come ps) h
to_come (p ∷ ps) (Named q) s h =
    let a = after_goes (is_keyword (codes "where") p) (Wanting q) ps s h in
    let c = to_come ps (Wanting q) s a.1 in
    (c.3 ∷ c.4, (p, c.0, c.1, c.2, ap (λ r. p ∷ r) c.5, a.0, c.6, c.7, c.8), c.9)
to_come (p ∷ ps) (Wanting q) s h =
    let a = after_name_map (Column q) p ps s h in
    let c = to_come ps (Column q a.0) s a.2 in
    (p, c.0, c.1, test_of a.0 c.2, c.3, ap (λ r. p ∷ r) c.4, a.1, c.5, c.6, c.7)
to_come (p ∷ ps) (Column q n) s h = come_column q n p ps s (to_come ps) h
to_come (p ∷ ps) (Compared q n by) s h =
    let a = after_literal (λ l. with_test q n (Compares by l)) p ps s h in
    let c = to_come ps (with_test q n (Compares by a.0)) s a.2 in
    (p, ps, a.0, c.0, refl, a.1, c.1, one_more_test q s (test_of n (Compares by a.0)) c.0 c.2)
to_come (p ∷ ps) (Is q n) s h = come_null q n p ps s (to_come ps) h
to_come (p ∷ ps) (IsNot q n) s h =
    let a = after_goes (is_keyword (codes "null") p) (with_test q n IsNotNull) ps s h in
    let c = to_come ps (with_test q n IsNotNull) s a.1 in
    (p, ps, c.0, refl, a.0, c.1, one_more_test q s (test_of n IsNotNull) c.0 c.2)
to_come (p ∷ ps) (Tested q) s h =
    let a = after_goes (is_keyword (codes "and") p) (Wanting q) ps s h in
    let c = to_come ps (Wanting q) s a.1 in
    (c.3 ∷ c.4, (p, c.0, c.1, c.2, ap (λ r. p ∷ r) c.5, a.0, c.6, c.7, c.8), c.9)
