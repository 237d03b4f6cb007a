-- Rows are read where, and only where, the bytes are those of rows.
use Rattle.std.proofs.Common.{◌≡◌, ◌≤◌, ◌<◌, ◌↔◌, ℕ, zero, suc, ◌+◌, Bool, true, false, nat_lt, List, [], ◌∷◌, ◌++◌, length, take, drop, refl, sym, ap, subst, ◌∙◌, append_assoc, arith}
use Rattle.std.specs.Prelude.{Option, Some, None, Result, Ok, Err, if◌then◌else◌}
use Rattle.std.proofs.lemmas.Bool.Decides.{nat_tests}
use Rattle.std.proofs.lemmas.Bool.{lt-ltb, ltb-true}
use Rattle.std.proofs.lemmas.List.{append-nil, length-take-le, length-append, take_at, drop_at, take-append-drop}
use Rattle.vs_base.specs.declared.cell.Cell.{Cell}
use Rattle.vs_base.specs.declared.cell.Cell.TheVariants.{Bytes}
use Rattle.vs_base.specs.declared.change.Change.{Change}
use Rattle.vs_columns.specs.declared.refusal.ValueRefusal.{ValueRefusal}
use Rattle.vs_columns.specs.Values.{Outcome, value_of}
use Rattle.vs_rows.specs.declared.kind.RowsKind.{RowsKind}
use Rattle.vs_rows.specs.declared.kind.RowsKind.TheVariants.{Insert, Update, Delete}
use Rattle.vs_rows.specs.declared.columns.RowColumn.{RowColumn}
use Rattle.vs_rows.specs.declared.table.RowTable.{RowTable}
use Rattle.vs_rows.specs.Reading.{◌>>=◌}
use Rattle.vs_rows.specs.Bits.{bit_bytes, has_bit}
use Rattle.vs_rows.specs.Layouts.{cut}
use Rattle.vs_rows.specs.Rows.{null_cell, told_cell, cell_at, cells_at, image_at, change_at, changes_by, changes_in}
use Rattle.vs_rows.specs.Grammar.{IsCell, AreCells, IsImage, IsRow, IsRowOf, AreRows}
use Rattle.vs_rows.proofs.ValueLemmas.{value_within, value_alone, value_before}

-- what two steps find, each found
pub bind_some : {A B : Type 0} (r : Option A) (f : A → Option B) (y : B) → (r >>= f) ≡ Some y → (x : A) × (r ≡ Some x) × (f x ≡ Some y)
bind_some None f y h = cc
bind_some (Some x) f y h = (x, refl, h)

abbrev pub found : {A : Type 0} → A → List ℕ → Option (A × List ℕ)
found a b = Some (a, b)

pub same_parts : {A : Type 0} (a x : A) (b y : List ℕ) → found a b ≡ found x y → (a ≡ x) × (b ≡ y)
same_parts {A = A} a x b y h =
    let same : (let p : A × List ℕ = (a, b) in p) ≡ (x, y) = cc in
    (ap (λ (p : A × List ℕ). p.0) same, ap (λ (p : A × List ℕ). p.1) same)

cut_by : (n : ℕ) (bytes : List ℕ) (b : Bool) (x : List ℕ × List ℕ) → nat_lt (length bytes) n ≡ b → (if b then None else Some (take n bytes, drop n bytes)) ≡ Some x → (bytes ≡ x.0 ++ x.1) × (length x.0 ≡ n)
cut_by n bytes true x t h = cc
cut_by n bytes false x t h =
    let enough : n ≤ length bytes = grind (arith, nat_tests) in
    let front : take n bytes ≡ x.0 = cc in
    let back : drop n bytes ≡ x.1 = cc in
    (sym (take-append-drop n bytes) ∙ (ap (λ xs. xs ++ drop n bytes) front ∙ ap (λ xs. x.0 ++ xs) back), ap length (sym front) ∙ length-take-le n bytes enough)

-- what is cut off stands in front of the rest
pub cut_splits : (n : ℕ) (bytes : List ℕ) (x : List ℕ × List ℕ) → cut n bytes ≡ Some x → (bytes ≡ x.0 ++ x.1) × (length x.0 ≡ n)
cut_splits n bytes x h = cut_by n bytes (nat_lt (length bytes) n) x refl h

pub long_enough : (own rest : List ℕ) (n : ℕ) → length own ≡ n → nat_lt (length (own ++ rest)) n ≡ false
long_enough own rest n e = grind (arith, nat_tests, length-append own rest)

pub cut_joins : (n : ℕ) (own rest : List ℕ) → length own ≡ n → cut n (own ++ rest) ≡ Some (own, rest)
cut_joins n own rest e = rw (long_enough own rest n e, take_at own rest n e, drop_at own rest n e) refl

-- a part of the front, and what stands behind it
abbrev Splits : {A : Type 0} → (List ℕ → A → Type 0) → List ℕ → A × List ℕ → Type 0
Splits Is bytes x = (own : List ℕ) × (bytes ≡ own ++ x.1) × Is own x.0

told_splits : (column : RowColumn) (bytes : List ℕ) (o : Outcome) (x : Cell × List ℕ) → value_of column.kind column.meta bytes ≡ o → told_cell o bytes ≡ Some x → Splits (IsCell false column) bytes x
told_splits column bytes (Ok (text, n)) x e h =
    let cell : Bytes text ≡ x.0 = cc in
    let behind : drop n bytes ≡ x.1 = cc in
    (take n bytes, sym (take-append-drop n bytes) ∙ ap (λ xs. take n bytes ++ xs) behind, (text, value_alone column.kind column.meta bytes text n e, sym cell))
told_splits column bytes (Err refusal) x e h = cc

cell_splits : (b : Bool) (column : RowColumn) (bytes : List ℕ) (x : Cell × List ℕ) → cell_at b column bytes ≡ Some x → Splits (IsCell b column) bytes x
unfolding cell_at
cell_splits true column bytes x h =
    let cell : null_cell column ≡ x.0 = cc in
    let behind : bytes ≡ x.1 = cc in
    ([], behind, (refl, sym cell))
cell_splits false column bytes x h = told_splits column bytes (value_of column.kind column.meta bytes) x refl h

cell_joins : (b : Bool) (column : RowColumn) (own rest : List ℕ) (cell : Cell) → IsCell b column own cell → cell_at b column (own ++ rest) ≡ Some (cell, rest)
unfolding cell_at
cell_joins true column own rest cell h = rw (h.0, h.1) refl
cell_joins false column own rest cell (text, v, e) =
    rw (value_before column.kind column.meta own rest text v, drop_at own rest (length own) refl, e) refl

cells_split : (place : ℕ) (nulls : List ℕ) (columns : List RowColumn) (bytes : List ℕ) (x : List Cell × List ℕ) → cells_at place nulls columns bytes ≡ Some x → Splits (AreCells place nulls columns) bytes x
unfolding cells_at
cells_split place nulls [] bytes (cells, rest) h =
    let none : List Cell = [] in
    let parts = same_parts none cells bytes rest h in
    let P : List Cell → Type 0 = λ xs. Splits (AreCells place nulls []) bytes (xs, rest) in
    subst P parts.0 ([], parts.1, refl)
cells_split place nulls (column ∷ columns) bytes (cells, rest) h =
    let f = bind_some (cell_at (has_bit nulls place) column bytes) _ (cells, rest) h in
    let s = bind_some (cells_at (place + 1) nulls columns f.0.1) _ (cells, rest) f.2 in
    let one = cell_splits (has_bit nulls place) column bytes f.0 f.1 in
    let more = cells_split (place + 1) nulls columns f.0.1 s.0 s.1 in
    let parts = same_parts (f.0.0 ∷ s.0.0) cells s.0.1 rest s.2 in
    let P : List Cell → Type 0 = λ xs. Splits (AreCells place nulls (column ∷ columns)) bytes (xs, rest) in
    subst P parts.0
    (one.0 ++ more.0, one.1 ∙ (ap (λ xs. one.0 ++ xs) (more.1 ∙ ap (λ xs. more.0 ++ xs) parts.1) ∙ sym (append_assoc one.0 more.0 rest)), (one.0, more.0, refl, one.2, more.2))

cells_join : (place : ℕ) (nulls : List ℕ) (columns : List RowColumn) (own rest : List ℕ) (cells : List Cell) → AreCells place nulls columns own cells → cells_at place nulls columns (own ++ rest) ≡ Some (cells, rest)
unfolding cells_at
cells_join place nulls [] own rest [] h = rw h refl
cells_join place nulls [] own rest (cell ∷ cells) h = absurd h
cells_join place nulls (column ∷ columns) own rest [] h = absurd h
cells_join place nulls (column ∷ columns) own rest (cell ∷ cells) (first, more, are, one, others) =
    let whole : own ++ rest ≡ first ++ (more ++ rest) = ap (λ xs. xs ++ rest) are ∙ append_assoc first more rest in
    rw (whole, cell_joins (has_bit nulls place) column first (more ++ rest) cell one, cells_join (place + 1) nulls columns more rest cells others) refl

image_splits : (columns : List RowColumn) (bytes : List ℕ) (x : List Cell × List ℕ) → image_at columns bytes ≡ Some x → Splits (IsImage columns) bytes x
unfolding image_at
image_splits columns bytes x h =
    let f = bind_some (cut (bit_bytes (length columns)) bytes) _ x h in
    let bits = cut_splits (bit_bytes (length columns)) bytes f.0 f.1 in
    let cells = cells_split 0 f.0.0 columns f.0.1 x f.2 in
    (f.0.0 ++ cells.0, bits.0 ∙ (ap (λ xs. f.0.0 ++ xs) cells.1 ∙ sym (append_assoc f.0.0 cells.0 x.1)), record { nulls = f.0.0; values = cells.0; are = refl; bits = bits.1; cells_are = cells.2 })

image_joins : (columns : List RowColumn) (own rest : List ℕ) (cells : List Cell) → IsImage columns own cells → image_at columns (own ++ rest) ≡ Some (cells, rest)
unfolding image_at
image_joins columns own rest cells i =
    let whole : own ++ rest ≡ i.nulls ++ (i.values ++ rest) = ap (λ xs. xs ++ rest) i.are ∙ append_assoc i.nulls i.values rest in
    rw (whole, cut_joins (bit_bytes (length columns)) i.nulls (i.values ++ rest) i.bits, cells_join 0 i.nulls columns i.values rest cells i.cells_are) refl

row_splits : (kind : RowsKind) (table : RowTable) (bytes : List ℕ) (x : Change × List ℕ) → change_at kind table bytes ≡ Some x → Splits (IsRow kind table) bytes x
unfolding change_at
row_splits Insert table bytes (change, rest) h =
    let f = bind_some (image_at table.columns bytes) _ (change, rest) h in
    let i = image_splits table.columns bytes f.0 f.1 in
    let made : Change = record { table = table.name; before = None; after = Some f.0.0 } in
    let parts = same_parts made change f.0.1 rest f.2 in
    let P : Change → Type 0 = λ c. Splits (IsRow Insert table) bytes (c, rest) in
    subst P parts.0 (i.0, i.1 ∙ ap (λ xs. i.0 ++ xs) parts.1, (refl, i.2))
row_splits Delete table bytes (change, rest) h =
    let f = bind_some (image_at table.columns bytes) _ (change, rest) h in
    let i = image_splits table.columns bytes f.0 f.1 in
    let made : Change = record { table = table.name; before = Some f.0.0; after = None } in
    let parts = same_parts made change f.0.1 rest f.2 in
    let P : Change → Type 0 = λ c. Splits (IsRow Delete table) bytes (c, rest) in
    subst P parts.0 (i.0, i.1 ∙ ap (λ xs. i.0 ++ xs) parts.1, (refl, i.2))
row_splits Update table bytes (change, rest) h =
    let f = bind_some (image_at table.columns bytes) _ (change, rest) h in
    let s = bind_some (image_at table.columns f.0.1) _ (change, rest) f.2 in
    let i = image_splits table.columns bytes f.0 f.1 in
    let j = image_splits table.columns f.0.1 s.0 s.1 in
    let made : Change = record { table = table.name; before = Some f.0.0; after = Some s.0.0 } in
    let parts = same_parts made change s.0.1 rest s.2 in
    let P : Change → Type 0 = λ c. Splits (IsRow Update table) bytes (c, rest) in
    subst P parts.0 (i.0 ++ j.0, i.1 ∙ (ap (λ xs. i.0 ++ xs) (j.1 ∙ ap (λ xs. j.0 ++ xs) parts.1) ∙ sym (append_assoc i.0 j.0 rest)), (refl, (i.0, j.0, refl, i.2, j.2)))

row_joins_by : (kind : RowsKind) (table : RowTable) (own rest : List ℕ) (before after : Option (List Cell)) → IsRowOf kind table own before after → change_at kind table (own ++ rest) ≡ Some (record { table = table.name; before = before; after = after }, rest)
unfolding change_at
row_joins_by Insert table own rest None (Some after) h = rw (image_joins table.columns own rest after h) refl
row_joins_by Insert table own rest None None h = absurd h
row_joins_by Insert table own rest (Some before) after h = absurd h
row_joins_by Delete table own rest (Some before) None h = rw (image_joins table.columns own rest before h) refl
row_joins_by Delete table own rest (Some before) (Some after) h = absurd h
row_joins_by Delete table own rest None after h = absurd h
row_joins_by Update table own rest (Some before) (Some after) (first, second, are, i, j) =
    let whole : own ++ rest ≡ first ++ (second ++ rest) = ap (λ xs. xs ++ rest) are ∙ append_assoc first second rest in
    rw (whole, image_joins table.columns first (second ++ rest) before i, image_joins table.columns second rest after j) refl
row_joins_by Update table own rest (Some before) None h = absurd h
row_joins_by Update table own rest None after h = absurd h

row_joins : (kind : RowsKind) (table : RowTable) (own rest : List ℕ) (change : Change) → IsRow kind table own change → change_at kind table (own ++ rest) ≡ Some (change, rest)
row_joins kind table own rest change (name, h) =
    row_joins_by kind table own rest change.before change.after h
    ∙ ap (λ n. let o : Option (Change × List ℕ) = Some (record { table = n; before = change.before; after = change.after }, rest) in o) (sym name)

-- rows, to the end of the bytes

shorter : (own rest : List ℕ) → length rest < length (own ++ rest) → 1 ≤ length own
shorter own rest h = omega (arith, length-append own rest)

guarded : (b : Bool) (x : Option (List Change)) (y : List Change) → (if b then x else None) ≡ Some y → (b ≡ true) × (x ≡ Some y)
guarded true x y h = (refl, h)
guarded false x y h = cc

rows_split : (most : ℕ) (kind : RowsKind) (table : RowTable) (bytes : List ℕ) (changes : List Change) → changes_by most kind table bytes ≡ Some changes → AreRows kind table bytes changes
unfolding changes_by
rows_split most kind table [] changes h =
    let none : [] ≡ changes = cc in
    let P : List Change → Type 0 = λ cs. AreRows kind table [] cs in
    subst P none refl
rows_split zero kind table (b ∷ bs) changes h = cc
rows_split (suc most) kind table (b ∷ bs) changes h =
    let f = bind_some (change_at kind table (b ∷ bs)) _ changes h in
    let s = bind_some (if nat_lt (length f.0.1) (length (b ∷ bs)) then changes_by most kind table f.0.1 else None) _ changes f.2 in
    let g = guarded (nat_lt (length f.0.1) (length (b ∷ bs))) (changes_by most kind table f.0.1) s.0 s.1 in
    let row = row_splits kind table (b ∷ bs) f.0 f.1 in
    let less : length f.0.1 < length (b ∷ bs) = ltb-true (length f.0.1) (length (b ∷ bs)) g.0 in
    let some : 1 ≤ length row.0 = shorter row.0 f.0.1 (subst (λ xs. length f.0.1 < length xs) row.1 less) in
    let are : f.0.0 ∷ s.0 ≡ changes = same_list (f.0.0 ∷ s.0) changes s.2 in
    let P : List Change → Type 0 = λ cs. AreRows kind table (b ∷ bs) cs in
    subst P are (row.0, f.0.1, row.1, some, row.2, rows_split most kind table f.0.1 s.0 g.1)
  where
    same_list : (a x : List Change) → (let o : Option (List Change) = Some a in o) ≡ Some x → a ≡ x
    same_list a x h = cc

rows_next : (most : ℕ) (kind : RowsKind) (table : RowTable) (bytes own rest : List ℕ) (change : Change) (changes : List Change) → bytes ≡ own ++ rest → 1 ≤ length own → IsRow kind table own change → changes_by most kind table rest ≡ Some changes → changes_by (suc most) kind table bytes ≡ Some (change ∷ changes)
unfolding changes_by
rows_next most kind table [] own rest change changes are some row more = absurd (omega (arith, ap length are, length-append own rest))
rows_next most kind table (b ∷ bs) own rest change changes are some row more =
    let here : change_at kind table (b ∷ bs) ≡ Some (change, rest) = ap (λ xs. change_at kind table xs) are ∙ row_joins kind table own rest change row in
    let less : nat_lt (length rest) (length (b ∷ bs)) ≡ true = lt-ltb (length rest) (length (b ∷ bs)) (omega (arith, ap length are, length-append own rest)) in
    rw (here, less, more) refl

rows_join : (most : ℕ) (kind : RowsKind) (table : RowTable) (bytes : List ℕ) (changes : List Change) → length bytes ≤ most → AreRows kind table bytes changes → changes_by most kind table bytes ≡ Some changes
unfolding changes_by
rows_join most kind table bytes [] few h = rw h refl
rows_join zero kind table bytes (change ∷ changes) few (own, rest, are, some, row, more) = absurd (omega (arith, ap length are, length-append own rest))
rows_join (suc most) kind table bytes (change ∷ changes) few (own, rest, are, some, row, more) =
    rows_next most kind table bytes own rest change changes are some row
    (rows_join most kind table rest changes (omega (arith, ap length are, length-append own rest)) more)

-- Rows are read exactly where the bytes are those of rows.
pub rows_read : (kind : RowsKind) (table : RowTable) (bytes : List ℕ) (changes : List Change) → (changes_in kind table bytes ≡ Some changes) ↔ AreRows kind table bytes changes
unfolding changes_in
rows_read kind table bytes changes = (rows_split (length bytes) kind table bytes changes, rows_join (length bytes) kind table bytes changes (omega arith))
