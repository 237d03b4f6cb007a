-- The order of keys is total.
use Rattle.std.proofs.Common.{◌≡◌, ℕ, suc, List, [], ◌∷◌, length, Option, Some, None, refl, sym, ◌∙◌, arith}
use Rattle.std.specs.Prelude.{ℤ}
use Rattle.std.specs.Cmp.{IsTotalOrder}
use Rattle.std.specs.Cmp.Lexicographic.{slice_cmp}
use Rattle.std.specs.Ordering.{nat_cmp, ordering_reverse, ordering_then}
use Rattle.std.specs.declared.cmp.Ordering.{Ordering}
use Rattle.std.specs.declared.cmp.Ordering.TheVariants.{Less, Equal, Greater}
use Rattle.std.proofs.lemmas.Cmp.{int_cmp_total, nat_cmp_total, nat_list_cmp_total, on_total, then_total}
use Rattle.std.proofs.lemmas.Bool.Decides.{nat_tests}
use Rattle.vs_base.specs.declared.cell.Cell.{Cell}
use Rattle.vs_base.specs.declared.table.ColumnKind.{ColumnKind}
use Rattle.vs_base.specs.Keys.{cell_order, key_order, number_order, text_order}
use Rattle.vs_base.specs.Numbers.{number_of}

abbrev by_bytes : List ℕ → List ℕ → Ordering
by_bytes = slice_cmp nat_cmp

-- ---- texts, by the numbers that they are

number_antisymm : (o p : Option ℤ) (a b : List ℕ) → number_order o p (by_bytes a b) ≡ ordering_reverse (number_order p o (by_bytes b a))
number_antisymm (Some m) (Some n) a b = int_cmp_total.antisymm m n
number_antisymm (Some m) None a b = refl
number_antisymm None (Some n) a b = refl
number_antisymm None None a b = nat_list_cmp_total.antisymm a b

number_trans : (o p q : Option ℤ) (a b c : List ℕ) → number_order o p (by_bytes a b) ≡ Less → number_order p q (by_bytes b c) ≡ Less →
    number_order o q (by_bytes a c) ≡ Less
number_trans (Some l) (Some m) (Some n) a b c e f = int_cmp_total.trans l m n e f
number_trans (Some l) (Some m) None a b c e f = refl
number_trans (Some l) None (Some n) a b c e f = absurd (cc)
number_trans (Some l) None None a b c e f = refl
number_trans None (Some m) q a b c e f = absurd (cc)
number_trans None None (Some n) a b c e f = absurd (cc)
number_trans None None None a b c e f = nat_list_cmp_total.trans a b c e f

number_congr : (o p q : Option ℤ) (a b c : List ℕ) → number_order o p (by_bytes a b) ≡ Equal →
    number_order o q (by_bytes a c) ≡ number_order p q (by_bytes b c)
number_congr (Some l) (Some m) (Some n) a b c e = int_cmp_total.congr l m n e
number_congr (Some l) (Some m) None a b c e = refl
number_congr (Some l) None q a b c e = absurd (cc)
number_congr None (Some m) q a b c e = absurd (cc)
number_congr None None (Some n) a b c e = refl
number_congr None None None a b c e = nat_list_cmp_total.congr a b c e

text_total : (kind : ColumnKind) → IsTotalOrder (text_order kind)
text_total kind = record {
  antisymm = λ a b. number_antisymm (number_of kind a) (number_of kind b) a b;
  trans = λ a b c. number_trans (number_of kind a) (number_of kind b) (number_of kind c) a b c;
  congr = λ a b c. number_congr (number_of kind a) (number_of kind b) (number_of kind c) a b c;
}

-- ---- cells, NULL ahead

cell_antisymm : (kind : ColumnKind) (a b : Cell) → cell_order kind a b ≡ ordering_reverse (cell_order kind b a)
cell_antisymm kind Cell.Null Cell.Null = refl
cell_antisymm kind Cell.Null (Cell.Bytes b) = refl
cell_antisymm kind (Cell.Bytes a) Cell.Null = refl
cell_antisymm kind (Cell.Bytes a) (Cell.Bytes b) = (text_total kind).antisymm a b

cell_trans : (kind : ColumnKind) (a b c : Cell) → cell_order kind a b ≡ Less → cell_order kind b c ≡ Less → cell_order kind a c ≡ Less
cell_trans kind Cell.Null Cell.Null c e f = absurd (cc)
cell_trans kind Cell.Null (Cell.Bytes b) Cell.Null e f = absurd (cc)
cell_trans kind Cell.Null (Cell.Bytes b) (Cell.Bytes c) e f = refl
cell_trans kind (Cell.Bytes a) Cell.Null c e f = absurd (cc)
cell_trans kind (Cell.Bytes a) (Cell.Bytes b) Cell.Null e f = absurd (cc)
cell_trans kind (Cell.Bytes a) (Cell.Bytes b) (Cell.Bytes c) e f = (text_total kind).trans a b c e f

cell_congr : (kind : ColumnKind) (a b c : Cell) → cell_order kind a b ≡ Equal → cell_order kind a c ≡ cell_order kind b c
cell_congr kind Cell.Null Cell.Null c e = refl
cell_congr kind Cell.Null (Cell.Bytes b) c e = absurd (cc)
cell_congr kind (Cell.Bytes a) Cell.Null c e = absurd (cc)
cell_congr kind (Cell.Bytes a) (Cell.Bytes b) Cell.Null e = refl
cell_congr kind (Cell.Bytes a) (Cell.Bytes b) (Cell.Bytes c) e = (text_total kind).congr a b c e

cell_total : (kind : ColumnKind) → IsTotalOrder (cell_order kind)
cell_total kind = record { antisymm = cell_antisymm kind; trans = cell_trans kind; congr = cell_congr kind }

-- ---- keys, column by column

abbrev by_length : List Cell → List Cell → Ordering
by_length xs ys = nat_cmp (length xs) (length ys)

length_total : IsTotalOrder by_length
length_total = on_total length nat_cmp_total

-- the first cells, and then the rest
abbrev paired : (ColumnKind → List ColumnKind → Cell × List Cell → Cell × List Cell → Ordering)
paired k ks x y = ordering_then (cell_order k x.0 y.0) (key_order ks x.1 y.1)

paired_total : (k : ColumnKind) (ks : List ColumnKind) → IsTotalOrder (key_order ks) → IsTotalOrder (paired k ks)
paired_total k ks rest = then_total (on_total (λ (x : Cell × List Cell). x.0) (cell_total k)) (on_total (λ (x : Cell × List Cell). x.1) rest)

none_ahead : (n : ℕ) → nat_cmp 0 (suc n) ≡ Less
none_ahead n = grind (arith, nat_tests)

some_behind : (n : ℕ) → nat_cmp (suc n) 0 ≡ Greater
some_behind n = grind (arith, nat_tests)

module _ (k : ColumnKind) (ks : List ColumnKind) (rest : IsTotalOrder (key_order ks)) where
  key_antisymm : (x y : List Cell) → key_order (k ∷ ks) x y ≡ ordering_reverse (key_order (k ∷ ks) y x)
  key_antisymm [] [] = length_total.antisymm [] []
  key_antisymm [] (b ∷ ys) = length_total.antisymm [] (b ∷ ys)
  key_antisymm (a ∷ xs) [] = length_total.antisymm (a ∷ xs) []
  key_antisymm (a ∷ xs) (b ∷ ys) = (paired_total k ks rest).antisymm (a, xs) (b, ys)

  key_trans : (x y z : List Cell) → key_order (k ∷ ks) x y ≡ Less → key_order (k ∷ ks) y z ≡ Less → key_order (k ∷ ks) x z ≡ Less
  key_trans [] [] [] e f = f
  key_trans [] [] (c ∷ zs) e f = f
  key_trans [] (b ∷ ys) [] e f = length_total.trans [] (b ∷ ys) [] e f
  key_trans [] (b ∷ ys) (c ∷ zs) e f = none_ahead (length zs)
  key_trans (a ∷ xs) [] [] e f = e
  key_trans (a ∷ xs) [] (c ∷ zs) e f = absurd (behind e)
    where
      behind : nat_cmp (suc (length xs)) 0 ≡ Less → ⊥
      behind e = let more = some_behind (length xs) in cc
  key_trans (a ∷ xs) (b ∷ ys) [] e f = absurd (behind f)
    where
      behind : nat_cmp (suc (length ys)) 0 ≡ Less → ⊥
      behind e = let more = some_behind (length ys) in cc
  key_trans (a ∷ xs) (b ∷ ys) (c ∷ zs) e f = (paired_total k ks rest).trans (a, xs) (b, ys) (c, zs) e f

  key_congr : (x y z : List Cell) → key_order (k ∷ ks) x y ≡ Equal → key_order (k ∷ ks) x z ≡ key_order (k ∷ ks) y z
  key_congr [] [] z e = refl
  key_congr [] (b ∷ ys) z e = absurd (ahead e)
    where
      ahead : nat_cmp 0 (suc (length ys)) ≡ Equal → ⊥
      ahead e = let more = none_ahead (length ys) in cc
  key_congr (a ∷ xs) [] z e = absurd (behind e)
    where
      behind : nat_cmp (suc (length xs)) 0 ≡ Equal → ⊥
      behind e = let more = some_behind (length xs) in cc
  key_congr (a ∷ xs) (b ∷ ys) [] e = some_behind (length xs) ∙ sym (some_behind (length ys))
  key_congr (a ∷ xs) (b ∷ ys) (c ∷ zs) e = (paired_total k ks rest).congr (a, xs) (b, ys) (c, zs) e

  one_more : IsTotalOrder (key_order (k ∷ ks))
  one_more = record { antisymm = key_antisymm; trans = key_trans; congr = key_congr }

pub key_total : (kinds : List ColumnKind) → IsTotalOrder (key_order kinds)
key_total [] = length_total
key_total (k ∷ ks) = one_more k ks (key_total ks)
