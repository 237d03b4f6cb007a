-- What a copy and a select make of rows, at small values.
use Rattle.std.proofs.Common.{◌≡◌, ℕ, List, [], ◌∷◌, Option, Some, None, nat_lt, nat_cmp, if◌then◌else◌, refl, arith}
use Rattle.vs_base.specs.declared.Cell.TheVariants.{Bytes}
use Rattle.vs_base.specs.declared.Change.{Change}
use Rattle.vs_base.specs.declared.LastKey.{LastKey}
use Rattle.vs_gtid.specs.Positions.{has}
use Rattle.vs_gtid.specs.declared.Work.TheVariants.{Rows}
use Rattle.vs_gtid.specs.declared.Entry.{Entry}
use Rattle.vs_model.specs.Logs.{Image, Log}
use Rattle.vs_model.specs.Copy.{Bound, picked_change, change_within, changes_in, front, next_rows, within_limits}
use Rattle.vs_model.proofs.Examples.{one_fits, up_to, entry, log}

abbrev pub id_of : Image → ℕ
id_of (Bytes (n ∷ text) ∷ cells) = n
id_of cells = 0

-- a select that keeps the ids below 9
abbrev pub below_nine : Bound
below_nine = record {
  row = λ table image. if nat_lt (id_of image) 9 then Some image else None;
  tables = (7 ∷ []) ∷ [];
  key = λ table image. image;
  order = λ table a b. nat_cmp (id_of a) (id_of b);
}

abbrev pub row : ℕ → Image
row n = Bytes (n ∷ []) ∷ []

abbrev pub change : Option Image → Option Image → Change
change before after = record { table = 7 ∷ []; before = before; after = after }

abbrev pub last_key : ℕ → LastKey
last_key n = record { table = 7 ∷ []; key = row n; table_fits = one_fits 7; few_cells = omega arith; few_bytes = omega arith }

picks : (picked_change below_nine (change (Some (row 5)) (Some (row 50))) ≡ Some (change (Some (row 5)) None))
    × (picked_change below_nine (change (Some (row 40)) (Some (row 50))) ≡ None)
picks = (refl, refl)

-- One transaction inserts the rows 1 to 3, and the next makes row 1 row 5.
abbrev pub inserts : Entry
inserts = entry 1 (omega arith) (omega arith) (Rows (change None (Some (row 1)) ∷ change None (Some (row 2)) ∷ change None (Some (row 3)) ∷ []))

abbrev pub renames : Entry
renames = entry 2 (omega arith) (omega arith) (Rows (change (Some (row 1)) (Some (row 5)) ∷ []))

abbrev pub copied : Log
copied = log (inserts ∷ renames ∷ [])

abbrev rows_to : ℕ → Option LastKey → Option (List ℕ × List (Image × Image))
rows_to n l = next_rows below_nine (changes_in (front copied (up_to 1 n))) l

chunks : (rows_to 1 None ≡ Some (7 ∷ [], (row 1, row 1) ∷ (row 2, row 2) ∷ (row 3, row 3) ∷ []))
    × (rows_to 2 (Some (last_key 2)) ≡ Some (7 ∷ [], (row 3, row 3) ∷ (row 5, row 5) ∷ []))
    × (rows_to 2 (Some (last_key 5)) ≡ None)
    × (change_within below_nine (last_key 2) (change (Some (row 1)) (Some (row 5))) ≡ change (Some (row 1)) None)
    × (within_limits 99 4194303 ((row 1, row 1) ∷ (row 2, row 2) ∷ []) ≡ (row 1, row 1) ∷ [])
unfolding has
chunks = (refl, refl, refl, refl, refl)
