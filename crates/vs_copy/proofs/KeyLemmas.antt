-- Keys of one table that stand at one place of its order are the same.
use Rattle.std.proofs.Common.{◌≡◌, ℕ, zero, suc, ◌+◌, ◌-◌, ◌*◌, ◌<◌, ◌≤◌, ◌==◌, Bool, true, false, not, cond, ◌&&◌, nat_le, nat_lt, List, [], ◌∷◌, length, fold, Option, Some, None, option_and_then, refl, ap, sym, ◌∙◌, arith}
use Rattle.std.specs.Prelude.{ℤ}
use Rattle.std.specs.List.{list_all}
use Rattle.std.specs.Ordering.{nat_cmp, ordering_then}
use Rattle.std.specs.FinMap.{int_cmp-IsAntisymmetric, nat_cmp-IsAntisymmetric, slice_cmp-IsAntisymmetric}
use Rattle.std.specs.Cmp.Lexicographic.{slice_cmp}
use Rattle.std.specs.declared.cmp.Ordering.{Ordering}
use Rattle.std.specs.declared.cmp.Ordering.TheVariants.{Less, Equal, Greater}
use Rattle.std.proofs.lemmas.Bool.{leb-true}
use Rattle.std.proofs.lemmas.Bool.Decides.{nat_tests}
use Rattle.vs_base.specs.declared.cell.Cell.{Cell}
use Rattle.vs_base.specs.declared.table.ColumnKind.{ColumnKind}
use Rattle.vs_base.specs.Keys.{cell_order, key_order, number_order}
use Rattle.vs_base.specs.Numbers.{below_zero, digits_value, from_zero, is_digit, is_numeral, number_in, number_of, signed, whole_range}

pub both : (a b : Bool) → (a && b) ≡ true → (a ≡ true) × (b ≡ true)
both true b e = (refl, e)
both false b e = absurd (cc)

-- ---- digits

abbrev next_value : ℕ → ℕ → ℕ
next_value n d = 10 * n + (d - 0x30)

digit_bounds : (d : ℕ) → is_digit d ≡ true → (48 ≤ d) × (d ≤ 57)
digit_bounds d h = let p = both (nat_le 0x30 d) (nat_le d 0x39) h in (leb-true 48 d p.0, leb-true d 57 p.1)

one_digit : (m n x y : ℕ) → 48 ≤ x → x ≤ 57 → 48 ≤ y → y ≤ 57 → next_value m x ≡ next_value n y → (m ≡ n) × (x ≡ y)
one_digit m n x y a b c d e = (omega arith, omega arith)

same_digits : (xs ys : List ℕ) (m n : ℕ) → list_all is_digit xs ≡ true → list_all is_digit ys ≡ true → length xs ≡ length ys →
    fold next_value m xs ≡ fold next_value n ys → (m ≡ n) × (xs ≡ ys)
same_digits [] [] m n p q same e = (e, refl)
same_digits [] (y ∷ ys) m n p q same e = absurd (omega arith)
same_digits (x ∷ xs) [] m n p q same e = absurd (omega arith)
same_digits (x ∷ xs) (y ∷ ys) m n p q same e =
    let a = both (is_digit x) (list_all is_digit xs) p in
    let b = both (is_digit y) (list_all is_digit ys) q in
    let x_is = digit_bounds x a.0 in
    let y_is = digit_bounds y b.0 in
    let rest = same_digits xs ys (next_value m x) (next_value n y) a.1 b.1 (omega arith) e in
    let here = one_digit m n x y x_is.0 x_is.1 y_is.0 y_is.1 rest.0 in
    (here.0, ap (λ d. d ∷ xs) here.1 ∙ ap (λ ds. y ∷ ds) rest.1)

-- more digits behind a greater front have a greater value
grows : (xs ys : List ℕ) (m n : ℕ) → list_all is_digit xs ≡ true → list_all is_digit ys ≡ true → length xs ≤ length ys → m < n →
    fold next_value m xs < fold next_value n ys
grows [] [] m n p q few less = less
grows [] (y ∷ ys) m n p q few less =
    grows [] ys m (next_value n y) p (both (is_digit y) (list_all is_digit ys) q).1 (omega arith) (omega arith)
grows (x ∷ xs) [] m n p q few less = absurd (omega arith)
grows (x ∷ xs) (y ∷ ys) m n p q few less =
    let a = both (is_digit x) (list_all is_digit xs) p in
    let x_is = digit_bounds x a.0 in
    grows xs ys (next_value m x) (next_value n y) a.1 (both (is_digit y) (list_all is_digit ys) q).1 (omega arith) (omega arith)

all_digits : (xs : List ℕ) → is_numeral xs ≡ true → list_all is_digit xs ≡ true
all_digits [] h = refl
all_digits (d ∷ []) h = ap (λ b. b && true) h
all_digits (d ∷ e ∷ ds) h = (both (list_all is_digit (d ∷ e ∷ ds)) (not (d == 0x30)) h).0

not_zero : (d : ℕ) → 48 ≤ d → not (d == 48) ≡ true → 49 ≤ d
not_zero d low h = grind (arith, nat_tests)

shorter : (xs ys : List ℕ) → is_numeral xs ≡ true → is_numeral ys ≡ true → length xs < length ys → digits_value xs < digits_value ys
shorter [] ys p q few = absurd (cc)
shorter (x ∷ xs) [] p q few = absurd (omega arith)
shorter (x ∷ xs) (d ∷ []) p q few = absurd (omega arith)
shorter (x ∷ xs) (d ∷ e ∷ ds) p q few =
    let all = both (list_all is_digit (d ∷ e ∷ ds)) (not (d == 0x30)) q in
    let front = both (is_digit d) (list_all is_digit (e ∷ ds)) all.0 in
    let lead = not_zero d (digit_bounds d front.0).0 all.1 in
    grows (x ∷ xs) (e ∷ ds) 0 (next_value 0 d) (all_digits (x ∷ xs) p) front.1 (omega arith) (omega arith)

numeral_exact : (xs ys : List ℕ) → is_numeral xs ≡ true → is_numeral ys ≡ true → digits_value xs ≡ digits_value ys → xs ≡ ys
numeral_exact xs ys p q e = go (nat_lt (length xs) (length ys)) (nat_lt (length ys) (length xs)) refl refl
  where
    go : (a b : Bool) → nat_lt (length xs) (length ys) ≡ a → nat_lt (length ys) (length xs) ≡ b → xs ≡ ys
    go true b f g =
        let few : length xs < length ys = grind (arith, nat_tests) in
        let less = shorter xs ys p q few in absurd (omega arith)
    go false true f g =
        let few : length ys < length xs = grind (arith, nat_tests) in
        let less = shorter ys xs q p few in absurd (omega arith)
    go false false f g =
        let same : length xs ≡ length ys = grind (arith, nat_tests) in
        (same_digits xs ys 0 0 (all_digits xs p) (all_digits ys q) same e).1

-- ---- numbers

-- a text that is read as this number
record Reads (text : List ℕ) (number : ℤ) : Type 0 where
  below : Bool
  digits : List ℕ
  are : text ≡ cond below (0x2D ∷ digits) digits
  numeral : is_numeral digits ≡ true
  is : number ≡ signed below (digits_value digits)
  some : below ≡ true → 1 ≤ digits_value digits

some_same : {X : Type 0} (x y : X) → Some x ≡ Some y → x ≡ y
some_same x y e = cc

reads_below : (count : ℕ) (c : ℕ) (cs : List ℕ) (n : ℤ) (b : Bool) → c ≡ 0x2D →
    (is_numeral cs && (nat_le 1 (digits_value cs) && nat_le (digits_value cs) count)) ≡ b →
    cond b (Some (signed true (digits_value cs))) None ≡ Some n → Reads (c ∷ cs) n
reads_below count c cs n false is f e = absurd (cc)
reads_below count c cs n true is f e =
    let p = both (is_numeral cs) (nat_le 1 (digits_value cs) && nat_le (digits_value cs) count) f in
    record {
      below = true;
      digits = cs;
      are = ap (λ x. x ∷ cs) is;
      numeral = p.0;
      is = sym (some_same (signed true (digits_value cs)) n e);
      some = λ t. leb-true 1 (digits_value cs) (both (nat_le 1 (digits_value cs)) (nat_le (digits_value cs) count) p.1).0;
    }

reads_from : (count : ℕ) (text : List ℕ) (n : ℤ) (b : Bool) → (is_numeral text && nat_lt (digits_value text) count) ≡ b →
    cond b (Some (signed false (digits_value text))) None ≡ Some n → Reads text n
reads_from count text n false f e = absurd (cc)
reads_from count text n true f e =
    record {
      below = false;
      digits = text;
      are = refl;
      numeral = (both (is_numeral text) (nat_lt (digits_value text) count) f).0;
      is = sym (some_same (signed false (digits_value text)) n e);
      some = λ t. absurd (cc);
    }

reads_either : (range : ℕ × ℕ) (c : ℕ) (cs : List ℕ) (n : ℤ) (b : Bool) → (c == 0x2D) ≡ b →
    cond b (below_zero range.0 cs) (from_zero range.1 (c ∷ cs)) ≡ Some n → Reads (c ∷ cs) n
reads_either range c cs n true is e = reads_below range.0 c cs n _ (grind (arith, nat_tests)) refl e
reads_either range c cs n false is e = reads_from range.1 (c ∷ cs) n _ refl e

reads : (range : ℕ × ℕ) (text : List ℕ) (n : ℤ) → number_in range text ≡ Some n → Reads text n
reads range [] n e = absurd (cc)
reads range (c ∷ cs) n e = reads_either range c cs n (c == 0x2D) refl e

below_same : (m n : ℕ) → 1 ≤ m → 1 ≤ n → signed true m ≡ signed true n → m ≡ n
below_same zero n p q e = absurd (omega arith)
below_same (suc m) zero p q e = absurd (omega arith)
below_same (suc m) (suc n) p q e = let same : m ≡ n = cc in ap suc same

apart : (m n : ℕ) → 1 ≤ m → signed true m ≡ signed false n → ⊥
apart zero n p e = omega arith
apart (suc m) n p e = cc

reads_exact : (a b : List ℕ) (n : ℤ) → Reads a n → Reads b n → a ≡ b
reads_exact a b n p q = go p.below q.below refl refl
  where
    go : (x y : Bool) → p.below ≡ x → q.below ≡ y → a ≡ b
    go true true e f =
        let same = below_same (digits_value p.digits) (digits_value q.digits) (p.some e) (q.some f)
        (ap (λ s. signed s (digits_value p.digits)) (sym e) ∙ sym p.is ∙ q.is ∙ ap (λ s. signed s (digits_value q.digits)) f) in
        p.are ∙ ap (λ s. cond s (0x2D ∷ p.digits) p.digits) e
        ∙ ap (λ ds. 0x2D ∷ ds) (numeral_exact p.digits q.digits p.numeral q.numeral same)
        ∙ ap (λ s. cond s (0x2D ∷ q.digits) q.digits) (sym f) ∙ sym q.are
    go false false e f =
        let values : signed false (digits_value p.digits) ≡ signed false (digits_value q.digits) =
        ap (λ s. signed s (digits_value p.digits)) (sym e) ∙ sym p.is ∙ q.is ∙ ap (λ s. signed s (digits_value q.digits)) f in
        let same : digits_value p.digits ≡ digits_value q.digits = cc in
        p.are ∙ ap (λ s. cond s (0x2D ∷ p.digits) p.digits) e
        ∙ numeral_exact p.digits q.digits p.numeral q.numeral same
        ∙ ap (λ s. cond s (0x2D ∷ q.digits) q.digits) (sym f) ∙ sym q.are
    go true false e f =
        absurd (apart (digits_value p.digits) (digits_value q.digits) (p.some e)
        (ap (λ s. signed s (digits_value p.digits)) (sym e) ∙ sym p.is ∙ q.is ∙ ap (λ s. signed s (digits_value q.digits)) f))
    go false true e f =
        absurd (apart (digits_value q.digits) (digits_value p.digits) (q.some f)
        (ap (λ s. signed s (digits_value q.digits)) (sym f) ∙ sym q.is ∙ p.is ∙ ap (λ s. signed s (digits_value p.digits)) e))

number_exact : (range : Option (ℕ × ℕ)) (a b : List ℕ) (n : ℤ) → option_and_then (λ r. number_in r a) range ≡ Some n →
    option_and_then (λ r. number_in r b) range ≡ Some n → a ≡ b
number_exact None a b n p q = absurd (cc)
number_exact (Some range) a b n p q = reads_exact a b n (reads range a n p) (reads range b n q)

-- ---- cells and keys

text_by : (kind : ColumnKind) (a b : List ℕ) (m n : Option ℤ) → number_of kind a ≡ m → number_of kind b ≡ n →
    number_order m n (slice_cmp nat_cmp a b) ≡ Equal → a ≡ b
text_by kind a b (Some m) (Some n) p q e =
    number_exact (whole_range kind) a b n (p ∙ ap Some (int_cmp-IsAntisymmetric m n e)) q
text_by kind a b (Some m) None p q e = absurd (cc)
text_by kind a b None (Some n) p q e = absurd (cc)
text_by kind a b None None p q e = slice_cmp-IsAntisymmetric nat_cmp-IsAntisymmetric a b e

cell_exact : (kind : ColumnKind) (a b : Cell) → cell_order kind a b ≡ Equal → a ≡ b
cell_exact kind Cell.Null Cell.Null e = refl
cell_exact kind Cell.Null (Cell.Bytes b) e = absurd (cc)
cell_exact kind (Cell.Bytes a) Cell.Null e = absurd (cc)
cell_exact kind (Cell.Bytes a) (Cell.Bytes b) e = ap Cell.Bytes (text_by kind a b (number_of kind a) (number_of kind b) refl refl e)

both_equal : (o p : Ordering) → ordering_then o p ≡ Equal → (o ≡ Equal) × (p ≡ Equal)
both_equal Less p e = absurd (cc)
both_equal Equal p e = (refl, e)
both_equal Greater p e = absurd (cc)

pub key_exact : (kinds : List ColumnKind) (a b : List Cell) → length a ≡ length kinds → length b ≡ length kinds → key_order kinds a b ≡ Equal → a ≡ b
key_exact [] [] [] p q e = refl
key_exact [] (x ∷ xs) b p q e = absurd (omega arith)
key_exact [] [] (y ∷ ys) p q e = absurd (omega arith)
key_exact (k ∷ ks) [] b p q e = absurd (omega arith)
key_exact (k ∷ ks) (x ∷ xs) [] p q e = absurd (omega arith)
key_exact (k ∷ ks) (x ∷ xs) (y ∷ ys) p q e =
    let both_are = both_equal (cell_order k x y) (key_order ks xs ys) e in
    ap (λ c. c ∷ xs) (cell_exact k x y both_are.0) ∙ ap (λ cs. y ∷ cs) (key_exact ks xs ys (omega arith) (omega arith) both_are.1)
