-- Each kind of field is read again as it was spelled.
use Rattle.std.proofs.Common.{◌≡◌, ℕ, zero, suc, ◌+◌, ◌*◌, ◌/◌, ◌%◌, ◌<◌, ◌≤◌, ◌^◌, ◌==◌, not, ◌&&◌, Bool, true, false, if◌then◌else◌, List, [], ◌∷◌, ◌++◌, append_assoc, append-nil, length, length-append, map, ℤ, pos, negsuc, Option, Some, None, Ok, Err, inl, inr, refl, ap, sym, subst, ◌∙◌, arith, nat_lt}
use Rattle.std.specs.List.{list_all}
use Rattle.std.specs.Int.{w32, w64, cast_signed, cast_unsigned}
use Rattle.std.proofs.lemmas.Bool.{cases_lt, ltb-true}
use Rattle.std.proofs.lemmas.Bool.Decides.{nat_tests}
use Rattle.std.proofs.lemmas.Int.{to_z-of_z}
use Rattle.std.proofs.Math.Dec.{eqb-suc-zero}
use Rattle.std.proofs.Math.Seq.{drop-append_seam}
use mir.Val.{SFits}
use Rattle.vs_wire.specs.Varint.{◌>>=◌, varint}
use Rattle.vs_wire.specs.Fields.{number, sized, IsValue}
use Rattle.vs_wire.proofs.VarintLemmas.{varint_in-varint, varint-last, varint-more}
use Rattle.vs_proto.specs.declared.refusal.Fault.TheVariants.{NotUtf8}
use Rattle.vs_proto.specs.Kinds.{is_text, if_any, if_some, text, bytes, texts, uint64, int64, enumeration, flag, sint64s, numeric, fits_signed, from_flag, zigzag, unzigzag, numbers_in, packed_bytes, with_numbers, take_texts, take_number}
use Rattle.vs_proto.specs.Shapes.{Shape, fits, one, many, inside, take_more, if_set, all_set, IsReadAgain}
use Rattle.vs_proto.proofs.PackedLemmas.{numbers_in-next, numbers_in-end}
use Rattle.vs_proto.proofs.ShapeLaws.{Each, IsRanged, KindLaw, take_all}

-- ---- texts and bytes

text_again : (strict : Bool) (a : List ℕ) → is_text strict a ≡ true → take_all (text strict).taken [] (if_any a) ≡ Ok a
text_again strict [] fit = refl
text_again strict (b ∷ bs) fit = ap (λ t. (if t then Ok (b ∷ bs) else Err NotUtf8) >>= λ a. Ok a) fit

any_ranged : (a : List ℕ) → Each IsRanged (if_any a)
any_ranged [] = tt
any_ranged (b ∷ bs) = (tt, tt)

pub text_law : (strict : Bool) → KindLaw (text strict)
text_law strict = record { reads = λ a fit small. text_again strict a fit; ranged = λ a fit. any_ranged a }

bytes_again : (a : List ℕ) → take_all bytes.taken [] (if_any a) ≡ Ok a
bytes_again [] = refl
bytes_again (b ∷ bs) = refl

pub bytes_law : KindLaw bytes
bytes_law = record { reads = λ a fit small. bytes_again a; ranged = λ a fit. any_ranged a }

both : (a b : Bool) → (a && b) ≡ true → (a ≡ true) × (b ≡ true)
both true b e = (refl, e)
both false b e = cc

texts_on : (strict : Bool) (old bs : List (List ℕ)) → list_all (is_text strict) bs ≡ true →
    take_all (take_texts strict) old (map sized bs) ≡ Ok (old ++ bs)
texts_on strict old [] fit = ap Ok (sym (append-nil old))
texts_on strict old (a ∷ bs) fit =
    let parts = both (is_text strict a) (list_all (is_text strict) bs) fit in
    ap (λ t. (if t then Ok (old ++ a ∷ []) else Err NotUtf8) >>= λ x. take_all (take_texts strict) x (map sized bs)) parts.0
    ∙ texts_on strict (old ++ a ∷ []) bs parts.1 ∙ ap Ok (append_assoc old (a ∷ []) bs)

texts_ranged : (bs : List (List ℕ)) → Each IsRanged (map sized bs)
texts_ranged [] = tt
texts_ranged (a ∷ bs) = (tt, texts_ranged bs)

pub texts_law : (strict : Bool) → KindLaw (texts strict)
texts_law strict = record { reads = λ bs fit small. texts_on strict [] bs fit; ranged = λ bs fit. texts_ranged bs }

-- ---- numbers

number_again : {A : Type 0} (from : ℕ → A) (n : ℕ) (a : A) → from n ≡ a → take_all (take_number from) (from 0) (if_some n) ≡ Ok a
number_again from zero a e = ap Ok e
number_again from (suc n) a e =
    ap (λ t. take_all (take_number from) (from 0) (if t then [] else number (suc n) ∷ [])) (eqb-suc-zero n) ∙ ap Ok e

some_ranged : (n : ℕ) → n < 2 ^ 64 → Each IsRanged (if_some n)
some_ranged zero h = tt
some_ranged (suc n) h =
    let P : Bool → Type 0 = λ t. Each IsRanged (if t then [] else number (suc n) ∷ []) in
    subst P (sym (eqb-suc-zero n)) (h, tt)

numeric_law : {A : Type 0} (to : A → ℕ) (from : ℕ → A) (fit : A → Bool) → ((a : A) → fit a ≡ true → from (to a) ≡ a) →
    ((a : A) → fit a ≡ true → to a < 2 ^ 64) → KindLaw (numeric to from fit)
numeric_law to from fit back small = record {
  reads = λ a f s. number_again from (to a) a (back a f);
  ranged = λ a f. some_ranged (to a) (small a f);
}

pub uint64_law : KindLaw uint64
uint64_law = numeric_law (λ n. n) (λ n. n) (λ n. nat_lt n (2 ^ 64)) (λ n f. refl) (λ n f. ltb-true n (2 ^ 64) f)

half_fits : (z : ℤ) → fits_signed (2 ^ 63) z ≡ true → SFits w64 z
half_fits (pos n) f = record { sfits = ltb-true n (2 ^ 63) f }
half_fits (negsuc n) f = record { sfits = ltb-true n (2 ^ 63) f }

unsigned_small : (z : ℤ) → fits_signed (2 ^ 63) z ≡ true → cast_unsigned w64 z < 2 ^ 64
unsigned_small (pos n) f = let h = ltb-true n (2 ^ 63) f in omega arith
unsigned_small (negsuc n) f = let h = ltb-true n (2 ^ 63) f in omega arith

pub int64_law : KindLaw int64
int64_law = numeric_law (cast_unsigned w64) (cast_signed w64) (fits_signed (2 ^ 63)) (λ z f. to_z-of_z w64 z (half_fits z f)) unsigned_small

quarter_fits : (z : ℤ) → fits_signed (2 ^ 31) z ≡ true → SFits w32 z
quarter_fits (pos n) f = record { sfits = ltb-true n (2 ^ 31) f }
quarter_fits (negsuc n) f = record { sfits = ltb-true n (2 ^ 31) f }

low_half : (z : ℤ) → fits_signed (2 ^ 31) z ≡ true → cast_unsigned w64 z % 2 ^ 32 ≡ cast_unsigned w32 z
low_half (pos n) f = let h = ltb-true n (2 ^ 31) f in omega arith
low_half (negsuc n) f = let h = ltb-true n (2 ^ 31) f in omega arith

enum_small : (z : ℤ) → fits_signed (2 ^ 31) z ≡ true → cast_unsigned w64 z < 2 ^ 64
enum_small (pos n) f = let h = ltb-true n (2 ^ 31) f in omega arith
enum_small (negsuc n) f = let h = ltb-true n (2 ^ 31) f in omega arith

pub enumeration_law : KindLaw enumeration
enumeration_law = numeric_law (cast_unsigned w64) (λ n. cast_signed w32 (n % 2 ^ 32)) (fits_signed (2 ^ 31))
    (λ z f. ap (λ n. cast_signed w32 n) (low_half z f) ∙ to_z-of_z w32 z (quarter_fits z f)) enum_small

flag_back : (b : Bool) → true ≡ true → not (from_flag b == 0) ≡ b
flag_back true f = refl
flag_back false f = refl

flag_small : (b : Bool) → true ≡ true → from_flag b < 2 ^ 64
flag_small true f = omega arith
flag_small false f = omega arith

pub flag_law : KindLaw flag
flag_law = numeric_law from_flag (λ n. not (n == 0)) (λ b. true) flag_back flag_small

-- ---- packed lists

zigzag_small : (z : ℤ) → fits_signed (2 ^ 63) z ≡ true → zigzag z < 2 ^ 64
zigzag_small (pos n) f = let h = ltb-true n (2 ^ 63) f in omega arith
zigzag_small (negsuc n) f = let h = ltb-true n (2 ^ 63) f in omega arith

unzigzag_even : (n m : ℕ) → m ≡ 2 * n → unzigzag m ≡ pos n
unzigzag_even n m e =
    let even : (m % 2 == 0) ≡ true = grind (arith, nat_tests) in
    let half : m / 2 ≡ n = omega arith in
    ap (λ t. if t then pos (m / 2) else negsuc (m / 2)) even ∙ ap pos half

unzigzag_odd : (n m : ℕ) → m ≡ 2 * n + 1 → unzigzag m ≡ negsuc n
unzigzag_odd n m e =
    let odd : (m % 2 == 0) ≡ false = grind (arith, nat_tests) in
    let half : m / 2 ≡ n = omega arith in
    ap (λ t. if t then pos (m / 2) else negsuc (m / 2)) odd ∙ ap negsuc half

zigzag_back : (z : ℤ) → unzigzag (zigzag z) ≡ z
zigzag_back (pos n) = unzigzag_even n (2 * n) refl
zigzag_back (negsuc n) = unzigzag_odd n (2 * n + 1) refl

zigzags_back : (zs : List ℤ) → map unzigzag (map zigzag zs) ≡ zs
zigzags_back [] = refl
zigzags_back (z ∷ zs) = ap (λ x. x ∷ map unzigzag (map zigzag zs)) (zigzag_back z) ∙ ap (λ xs. z ∷ xs) (zigzags_back zs)

some_bytes : (n : ℕ) → n < 2 ^ 64 → 0 < length (varint n)
some_bytes n h = elim (cases_lt n 128) [
  | inl low ↦ rw varint-last (omega arith)
  | inr high ↦ rw varint-more (omega arith)
]

packed_again : (zs : List ℤ) (k at : ℕ) → list_all (fits_signed (2 ^ 63)) zs ≡ true → length (packed_bytes zs) ≤ k →
    numbers_in k at (packed_bytes zs) ≡ Ok (map zigzag zs)
packed_again [] k at fit h = numbers_in-end k at [] refl
packed_again (z ∷ zs) zero at fit h =
    let parts = both (fits_signed (2 ^ 63) z) (list_all (fits_signed (2 ^ 63)) zs) fit in
    let some = some_bytes (zigzag z) (zigzag_small z parts.0) in
    let size = length-append (varint (zigzag z)) (packed_bytes zs) in
    absurd (omega arith)
packed_again (z ∷ zs) (suc k) at fit h =
    let parts = both (fits_signed (2 ^ 63) z) (list_all (fits_signed (2 ^ 63)) zs) fit in
    let small = zigzag_small z parts.0 in
    let some = some_bytes (zigzag z) small in
    let v = varint (zigzag z) in
    let size = length-append v (packed_bytes zs) in
    numbers_in-next k at (v ++ packed_bytes zs) (zigzag z) (length v) (omega arith) (varint_in-varint (zigzag z) (packed_bytes zs) small)
    ∙ ap (λ b. numbers_in k (at + length v) b >>= λ ns. Ok (zigzag z ∷ ns)) (drop-append_seam v (packed_bytes zs))
    ∙ ap (λ r. r >>= λ ns. Ok (zigzag z ∷ ns)) (packed_again zs k (at + length v) parts.1 (omega arith))

sint64s_again : (zs : List ℤ) → list_all (fits_signed (2 ^ 63)) zs ≡ true → take_all sint64s.taken [] (sint64s.spelled zs) ≡ Ok zs
sint64s_again [] fit = refl
sint64s_again (z ∷ zs) fit =
    ap (λ r. with_numbers [] r >>= λ a. Ok a) (packed_again (z ∷ zs) (length (packed_bytes (z ∷ zs))) 0 fit (omega arith))
    ∙ ap Ok (zigzags_back (z ∷ zs))

sint64s_ranged : (zs : List ℤ) → Each IsRanged (sint64s.spelled zs)
sint64s_ranged [] = tt
sint64s_ranged (z ∷ zs) = (tt, tt)

pub sint64s_law : KindLaw sint64s
sint64s_law = record { reads = λ zs fit small. sint64s_again zs fit; ranged = λ zs fit. sint64s_ranged zs }

-- ---- messages

one_again : {M : Type 0} (shape : Shape M) → IsReadAgain shape → (a : Option M) → (one shape).fits a ≡ true → Each IsValue (if_set shape a) →
    take_all (one shape).taken None (if_set shape a) ≡ Ok a
one_again shape again None fit small = refl
one_again shape again (Some m) fit small = ap (λ r. (inside r >>= λ x. Ok (Some x)) >>= λ a. Ok a) (again m fit small.0)

one_ranged : {M : Type 0} (shape : Shape M) (a : Option M) → Each IsRanged (if_set shape a)
one_ranged shape None = tt
one_ranged shape (Some m) = (tt, tt)

pub one_law : {M : Type 0} (shape : Shape M) → IsReadAgain shape → KindLaw (one shape)
one_law shape again = record { reads = λ a fit small. one_again shape again a fit small; ranged = λ a fit. one_ranged shape a }

many_on : {M : Type 0} (shape : Shape M) → IsReadAgain shape → (old ms : List M) → list_all (fits shape) ms ≡ true → Each IsValue (all_set shape ms) →
    take_all (take_more shape) old (all_set shape ms) ≡ Ok (old ++ ms)
many_on shape again old [] fit small = ap Ok (sym (append-nil old))
many_on shape again old (m ∷ ms) fit small =
    let parts = both (fits shape m) (list_all (fits shape) ms) fit in
    ap (λ r. (inside r >>= λ x. Ok (old ++ x ∷ [])) >>= λ a. take_all (take_more shape) a (all_set shape ms)) (again m parts.0 small.0)
    ∙ many_on shape again (old ++ m ∷ []) ms parts.1 small.1 ∙ ap Ok (append_assoc old (m ∷ []) ms)

many_ranged : {M : Type 0} (shape : Shape M) (ms : List M) → Each IsRanged (all_set shape ms)
many_ranged shape [] = tt
many_ranged shape (m ∷ ms) = (tt, many_ranged shape ms)

pub many_law : {M : Type 0} (shape : Shape M) → IsReadAgain shape → KindLaw (many shape)
many_law shape again = record { reads = λ ms fit small. many_on shape again [] ms fit small; ranged = λ ms fit. many_ranged shape ms }
