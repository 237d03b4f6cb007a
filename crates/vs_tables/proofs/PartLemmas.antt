-- Parts of keys are ordered as the keys are.
use Rattle.std.proofs.Common.{◌≡◌, ℕ, suc, List, [], ◌∷◌, length, Option, Some, None, refl, ap, ap₂, sym, ◌∙◌, arith}
use Rattle.std.specs.Prelude.{ℤ}
use Rattle.std.specs.Ordering.{nat_cmp, int_cmp, ordering_then}
use Rattle.std.specs.FinMap.{IsAntisymmetric, int_cmp-IsAntisymmetric, nat_cmp-IsAntisymmetric, slice_cmp-IsAntisymmetric}
use Rattle.std.specs.Cmp.Lexicographic.{slice_cmp}
use Rattle.std.specs.declared.cmp.Ordering.{Ordering}
use Rattle.std.specs.declared.cmp.Ordering.TheVariants.{Less, Greater}
use Rattle.std.proofs.lemmas.Bool.Decides.{nat_tests}
use Rattle.vs_base.specs.declared.cell.Cell.{Cell}
use Rattle.vs_base.specs.declared.table.ColumnKind.{ColumnKind}
use Rattle.vs_base.specs.Keys.{cell_order, key_order, number_order}
use Rattle.vs_base.specs.Numbers.{number_of}
use Rattle.vs_tables.specs.Parts.{part_by, part_of, parts_of}
use Rattle.vs_tables.specs.Rows.{parts_order}
use Rattle.vs_tables.specs.declared.key.KeyPart.{KeyPart}
use Rattle.vs_tables.specs.contracts.key.KeyPartOrd.TheImpl as parts

abbrev part_order : KeyPart → KeyPart → Ordering
part_order = parts.ghosts.cmp

part_exact : IsAntisymmetric part_order
part_exact KeyPart.Null KeyPart.Null e = refl
part_exact KeyPart.Null (KeyPart.Number n) e = absurd (cc)
part_exact KeyPart.Null (KeyPart.Bytes b) e = absurd (cc)
part_exact (KeyPart.Number m) KeyPart.Null e = absurd (cc)
part_exact (KeyPart.Number m) (KeyPart.Number n) e = ap KeyPart.Number (int_cmp-IsAntisymmetric m n e)
part_exact (KeyPart.Number m) (KeyPart.Bytes b) e = absurd (cc)
part_exact (KeyPart.Bytes a) KeyPart.Null e = absurd (cc)
part_exact (KeyPart.Bytes a) (KeyPart.Number n) e = absurd (cc)
part_exact (KeyPart.Bytes a) (KeyPart.Bytes b) e = ap KeyPart.Bytes (slice_cmp-IsAntisymmetric nat_cmp-IsAntisymmetric a b e)

-- parts that compare so are equal
pub parts_exact : IsAntisymmetric parts_order
parts_exact = slice_cmp-IsAntisymmetric part_exact

number_parts : (o p : Option ℤ) (a b : List ℕ) → part_order (part_by o a) (part_by p b) ≡ number_order o p (slice_cmp nat_cmp a b)
number_parts (Some m) (Some n) a b = refl
number_parts (Some m) None a b = refl
number_parts None (Some n) a b = refl
number_parts None None a b = refl

null_ahead : (o : Option ℤ) (b : List ℕ) → part_order KeyPart.Null (part_by o b) ≡ Less
null_ahead (Some n) b = refl
null_ahead None b = refl

null_behind : (o : Option ℤ) (b : List ℕ) → part_order (part_by o b) KeyPart.Null ≡ Greater
null_behind (Some n) b = refl
null_behind None b = refl

cell_parts : (kind : ColumnKind) (a b : Cell) → part_order (part_of kind a) (part_of kind b) ≡ cell_order kind a b
cell_parts kind Cell.Null Cell.Null = refl
cell_parts kind Cell.Null (Cell.Bytes b) = null_ahead (number_of kind b) b
cell_parts kind (Cell.Bytes a) Cell.Null = null_behind (number_of kind a) a
cell_parts kind (Cell.Bytes a) (Cell.Bytes b) = number_parts (number_of kind a) (number_of kind b) a b

none_ahead : (n : ℕ) → Less ≡ nat_cmp 0 (suc n)
none_ahead n = grind (arith, nat_tests)

none_behind : (n : ℕ) → Greater ≡ nat_cmp (suc n) 0
none_behind n = grind (arith, nat_tests)

one_more : (m n : ℕ) → nat_cmp m n ≡ nat_cmp (suc m) (suc n)
one_more m n = grind (arith, nat_tests)

pub ordered_alike : (kinds : List ColumnKind) (xs ys : List Cell) → parts_order (parts_of kinds xs) (parts_of kinds ys) ≡ key_order kinds xs ys
ordered_alike [] [] [] = refl
ordered_alike [] [] (y ∷ ys) = none_ahead (length ys)
ordered_alike [] (x ∷ xs) [] = none_behind (length xs)
ordered_alike [] (x ∷ xs) (y ∷ ys) = ordered_alike [] xs ys ∙ one_more (length xs) (length ys)
ordered_alike (k ∷ ks) [] [] = refl
ordered_alike (k ∷ ks) [] (y ∷ ys) = none_ahead (length ys)
ordered_alike (k ∷ ks) (x ∷ xs) [] = none_behind (length xs)
ordered_alike (k ∷ ks) (x ∷ xs) (y ∷ ys) = ap₂ ordering_then (cell_parts k x y) (ordered_alike ks xs ys)
