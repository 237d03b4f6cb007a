-- Names and places, one by one.
use Rattle.std.proofs.Common.{◌≡◌, ◌+◌, ◌++◌, ℕ, zero, suc, Bool, true, false, List, [], ◌∷◌, Option, Some, None, map, cond, refl, ap, sym, ◌∙◌, arith}
use Rattle.std.specs.Prelude.{option_map}
use Rattle.std.specs.List.{find, range_with_len}
use Rattle.std.specs.Option.{option_or}
use Rattle.std.proofs.lemmas.List.Folds.{find-append}
use Rattle.vs_base.specs.declared.table.Column.{Column}
use Rattle.vs_select.specs.Binding.{is_unknown, listed, names_in}
use Rattle.vs_select.specs.declared.select.Select.{Select}
use Rattle.vs_select.specs.declared.select.Test.{Test}

map-cond : {X Y : Type 0} (f : X → Y) (b : Bool) (x y : Option X) → cond b (option_map f x) (option_map f y) ≡ option_map f (cond b x y)
map-cond f true x y = refl
map-cond f false x y = refl

find-map : {X Y : Type 0} (p : Y → Bool) (f : X → Y) (xs : List X) → find p (map f xs) ≡ option_map f (find (λ x. p (f x)) xs)
find-map p f [] = refl
find-map p f (x ∷ xs) = ap (λ o. cond (p (f x)) (Some (f x)) o) (find-map p f xs) ∙ map-cond f (p (f x)) (Some x) (find (λ y. p (f y)) xs)

-- the first unknown name is a column's that is taken, or else a test's
pub names_found : (columns : List Column) (s : Select) → find (is_unknown columns) (names_in s) ≡ option_or (find (is_unknown columns) (listed s.columns)) (option_map (λ (t : Test). t.column) (find (λ (t : Test). is_unknown columns t.column) s.tests))
names_found columns s = find-append (is_unknown columns) (listed s.columns) (map (λ t. t.column) s.tests) ∙ ap (option_or (find (is_unknown columns) (listed s.columns))) (find-map (is_unknown columns) (λ t. t.column) s.tests)

-- one place more
places_from : (a n : ℕ) → range_with_len a (n + 1) ≡ range_with_len a n ++ (a + n) ∷ []
places_from a zero =
    let e : a ≡ a + 0 = omega arith in
    ap (λ x. x ∷ []) e
places_from a (suc n) =
    let more : suc n + 1 ≡ suc (n + 1) = omega arith in
    let last : a + 1 + n ≡ a + suc n = omega arith in
    ap (range_with_len a) more ∙ (ap (λ r. a ∷ r) (places_from (a + 1) n) ∙ ap (λ x. a ∷ (range_with_len (a + 1) n ++ x ∷ [])) last)

pub places_more : (n : ℕ) → range_with_len 0 (n + 1) ≡ range_with_len 0 n ++ n ∷ []
places_more n =
    let e : 0 + n ≡ n = omega arith in
    places_from 0 n ∙ ap (λ x. range_with_len 0 n ++ x ∷ []) e

pub found_in_tests : (columns : List Column) (s : Select) (tests : List Test) (t : Test) → None ≡ find (is_unknown columns) (listed s.columns) → tests ≡ s.tests → Some t ≡ find (λ (test : Test). is_unknown columns test.column) tests → Some t.column ≡ find (is_unknown columns) (names_in s)
found_in_tests columns s tests t listed_known same found =
    let column : Test → List ℕ = λ test. test.column in
    let in_tests : Some t ≡ find (λ (test : Test). is_unknown columns test.column) s.tests = found ∙ ap (find (λ (test : Test). is_unknown columns test.column)) same in
    ap (option_map column) in_tests ∙ (ap (λ o. option_or o (option_map column (find (λ (test : Test). is_unknown columns test.column) s.tests))) listed_known ∙ sym (names_found columns s))
