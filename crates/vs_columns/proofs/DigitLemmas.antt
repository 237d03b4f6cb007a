-- Digits of a number: how many they are, and the last of them; digits without zeros in front, part by part.
use Rattle.std.proofs.Common.{pow-suc, ◌≡◌, ◌<◌, ◌^◌, ◌*◌, ◌≤◌, ℕ, zero, suc, not, subst, ◌-◌, ◌+◌, ◌/◌, ◌%◌, ◌==◌, if◌then◌else◌, codes, Bool, true, false, ◌||◌, List, [], ◌∷◌, ◌++◌, length, drop, refl, sym, ap, ◌∙◌, arith, add-suc}
use Rattle.std.specs.Char.{digit_value}
use Rattle.std.specs.Str.Parse.{digits_value, AllDigits}
use Rattle.std.proofs.lemmas.Int.Digits.{digits_value_push, digits_push}
use Rattle.std.proofs.lemmas.Str.{digit_value_digit}
use Rattle.std.proofs.lemmas.List.{length_push, drop-append-le, append-nil, drop_all}
use Rattle.std.proofs.lemmas.Bool.Decides.{nat_tests}
use Rattle.vs_columns.proofs.KeptLemmas.{appended}
use Rattle.vs_columns.specs.Digits.{padded, without_zeros, has_some, shown, begun_by}

pub length_padded : (k n : ℕ) → length (padded k n) ≡ k
unfolding padded
length_padded zero n = refl
length_padded (suc k) n = length_push (padded k (n / 10)) (48 + n % 10) ∙ ap (λ x. x + 1) (length_padded k (n / 10)) ∙ omega arith

-- the last k of j + k digits
pub drop_padded : (j k n : ℕ) → drop j (padded (j + k) n) ≡ padded k n
unfolding padded
drop_padded j zero n = drop_all j (padded (j + 0) n) (omega (arith, length_padded (j + 0) n))
drop_padded j (suc k) n =
    rw (add-suc j k)
    (let e = drop-append-le j (padded (j + k) (n / 10)) ((48 + n % 10) ∷ []) (omega (arith, length_padded (j + k) (n / 10))) in
    e ∙ ap (λ ds. ds ++ (48 + n % 10) ∷ []) (drop_padded j k (n / 10)))

without_append : (ds es : List ℕ) → without_zeros (ds ++ es) ≡ without_zeros ds ++ shown (has_some (without_zeros ds)) es
without_append [] es = refl
without_append (d ∷ ds) es = grind (arith, nat_tests, without_append ds es)

some_append : (ds es : List ℕ) → has_some (without_zeros (ds ++ es)) ≡ has_some (without_zeros ds) || has_some (without_zeros es)
some_append [] es = refl
some_append (d ∷ ds) es = grind (arith, nat_tests, some_append ds es)

-- what is shown of two texts of digits one behind the other
pub shown_append : (begun : Bool) (ds es : List ℕ) → shown begun (ds ++ es) ≡ shown begun ds ++ shown (begun_by begun ds) es
shown_append true ds es = refl
shown_append false ds es = without_append ds es

pub begun_append : (begun : Bool) (ds es : List ℕ) → begun_by begun (ds ++ es) ≡ begun_by (begun_by begun ds) es
begun_append true ds es = refl
begun_append false ds es = some_append ds es

pub empty_or_some : (ds : List ℕ) → not (length ds == 0) ≡ has_some ds
empty_or_some [] = refl
empty_or_some (d ∷ ds) = grind (arith, nat_tests)

-- the last digits of nine, and of six
pub last_of_nine : (k n : ℕ) → k ≤ 9 → drop (9 - k) (padded 9 n) ≡ padded k n
last_of_nine k n h = subst (λ m. drop (9 - k) (padded m n) ≡ padded k n) (omega arith) (drop_padded (9 - k) k n)

pub last_of_six : (k n : ℕ) → k ≤ 6 → drop (6 - k) (padded 6 n) ≡ padded k n
last_of_six k n h = subst (λ m. drop (6 - k) (padded m n) ≡ padded k n) (omega arith) (drop_padded (6 - k) k n)

-- what is shown of some digits and then of others is what is shown of both
pub shown_behind : (begun next : Bool) (ds es old mid new : List ℕ) → mid ≡ old ++ shown begun ds → next ≡ begun_by begun ds → new ≡ mid ++ shown next es → new ≡ old ++ shown begun (ds ++ es)
shown_behind begun next ds es old mid new p b q =
    appended old mid new (shown begun ds) (shown next es) p q
    ∙ ap (λ n. old ++ (shown begun ds ++ shown n es)) b
    ∙ ap (λ xs. old ++ xs) (sym (shown_append begun ds es))

pub begun_behind : (begun next last : Bool) (ds es : List ℕ) → next ≡ begun_by begun ds → last ≡ begun_by next es → last ≡ begun_by begun (ds ++ es)
begun_behind begun next last ds es b q = q ∙ ap (λ n. begun_by n es) b ∙ sym (begun_append begun ds es)

-- digits were shown, or the first that isn't 0 is still to come
pub begun_here : (begun none : Bool) (ds es : List ℕ) → begun ≡ false → none ≡ (length es == 0) → es ≡ shown begun ds → not none ≡ begun_by begun ds
begun_here true none ds es b p q = cc
begun_here false none ds es b p q = ap not p ∙ empty_or_some es ∙ ap has_some q

-- digits without zeros in front, or one 0
none_left : (ws old mid new : List ℕ) → false ≡ has_some ws → mid ≡ old ++ ws → new ≡ mid ++ 48 ∷ [] → new ≡ old ++ (if has_some ws then ws else codes "0")
none_left [] old mid new b p q = q ∙ ap (λ xs. xs ++ 48 ∷ []) (p ∙ append-nil old)
none_left (w ∷ ws) old mid new b p q = cc

pub none_shown : (ds old mid new : List ℕ) → false ≡ begun_by false ds → mid ≡ old ++ shown false ds → new ≡ mid ++ 48 ∷ [] → new ≡ old ++ (if has_some (without_zeros ds) then without_zeros ds else codes "0")
none_shown ds old mid new b p q = none_left (without_zeros ds) old mid new b p q

some_left : (ws old new : List ℕ) → true ≡ has_some ws → new ≡ old ++ ws → new ≡ old ++ (if has_some ws then ws else codes "0")
some_left [] old new b p = cc
some_left (w ∷ ws) old new b p = p

pub some_shown : (ds old new : List ℕ) → true ≡ begun_by false ds → new ≡ old ++ shown false ds → new ≡ old ++ (if has_some (without_zeros ds) then without_zeros ds else codes "0")
some_shown ds old new b p = some_left (without_zeros ds) old new b p

digit_back : (d : ℕ) → d < 10 → digit_value (48 + d) ≡ d
digit_back d small = let e = digit_value_digit (48 + d) (omega arith, omega arith) in omega arith

-- the digits of a number are that number's
pub padded_value : (k n : ℕ) → n < 10 ^ k → digits_value 10 (padded k n) ≡ n
unfolding padded
padded_value zero n few = omega arith
padded_value (suc k) n few =
    let rest : n / 10 < 10 ^ k = omega (arith, pow-suc 10 k) in
    digits_value_push 10 (padded k (n / 10)) (48 + n % 10)
    ∙ ap (λ m. m * 10 + digit_value (48 + n % 10)) (padded_value k (n / 10) rest)
    ∙ ap (λ d. n / 10 * 10 + d) (digit_back (n % 10) (omega arith))
    ∙ omega arith

pub padded_digits : (k n : ℕ) → AllDigits 10 (padded k n)
unfolding padded
padded_digits zero n = tt
padded_digits (suc k) n =
    digits_push 10 (padded k (n / 10)) (48 + n % 10) (padded_digits k (n / 10)) (omega (arith, digit_back (n % 10) (omega arith)))
