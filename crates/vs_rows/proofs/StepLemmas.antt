-- What is read part by part: the parts so far, in front of those that are still read.
use Rattle.std.proofs.Common.{◌≡◌, ◌≤◌, ◌<◌, ℕ, zero, suc, ◌+◌, ◌-◌, Bool, true, false, ◌&&◌, List, [], ◌∷◌, ◌++◌, length, drop, nat_lt, get_or, ◌==◌, refl, sym, ap, ◌∙◌, append_assoc, arith}
use Rattle.std.specs.Prelude.{Option, Some, None, Result, Ok, Err, if◌then◌else◌, slice_index_or}
use Rattle.std.proofs.lemmas.List.{append-nil, at_drop_more, at_drop_all}
use Rattle.std.proofs.lemmas.Bool.{le-ltb, lt-ltb}
use Rattle.std.proofs.lemmas.Bool.Decides.{nat_tests}
use Rattle.vs_base.specs.declared.cell.Cell.{Cell}
use Rattle.vs_base.specs.declared.change.Change.{Change}
use Rattle.vs_rows.specs.declared.fault.Fault.{Fault}
use Rattle.vs_rows.specs.declared.fault.Fault.TheVariants.{Wrong, Memory}
use Rattle.vs_rows.specs.declared.kind.RowsKind.{RowsKind}
use Rattle.vs_rows.specs.declared.table.RowTable.{RowTable}
use Rattle.vs_rows.specs.declared.columns.TypedColumn.{TypedColumn}
use Rattle.vs_rows.specs.declared.columns.WantedColumn.{WantedColumn}
use Rattle.vs_rows.specs.declared.columns.RowColumn.{RowColumn}
use Rattle.vs_rows.specs.Reading.{◌>>=◌, Fails}
use Rattle.vs_rows.specs.Bits.{has_bit, all_set}
use Rattle.vs_rows.specs.Columns.{typed_column, typed_columns, row_column, row_columns}
use Rattle.vs_rows.specs.Rows.{cell_at, cells_at, change_at, changes_by, changes_in}

-- the bits so far are 1, and so is the next, or not
pub bits_go_on : (n : ℕ) (bytes : List ℕ) → all_set n bytes ≡ true → has_bit bytes n ≡ true → all_set (n + 1) bytes ≡ true
unfolding all_set
bits_go_on n bytes h b =
    let k : n + 1 ≡ suc n = omega arith in
    rw (k, h, b) refl

both : (a b : Bool) → b ≡ false → (a && b) ≡ false
both true b h = h
both false b h = refl

bits_stop_by : (more n : ℕ) (bytes : List ℕ) → has_bit bytes n ≡ false → all_set (suc (more + n)) bytes ≡ false
unfolding all_set
bits_stop_by zero n bytes b =
    let k : 0 + n ≡ n = omega arith in
    rw k (both (all_set n bytes) (has_bit bytes n) b)
bits_stop_by (suc more) n bytes b =
    let k : suc more + n ≡ suc (more + n) = omega arith in
    rw k (ap (λ a. a && has_bit bytes (suc (more + n))) (bits_stop_by more n bytes b))

pub bits_stop : (n count : ℕ) (bytes : List ℕ) → n < count → has_bit bytes n ≡ false → all_set count bytes ≡ false
bits_stop n count bytes lt b =
    let k : suc (count - suc n + n) ≡ count = omega arith in
    ap (λ m. all_set m bytes) (sym k) ∙ bits_stop_by (count - suc n) n bytes b

-- what was read before, and what is still read
abbrev pub with_front : {A : Type 0} → List A → Option (List A) → Option (List A)
with_front front read = read >>= λ xs. Some (front ++ xs)

abbrev pub with_front_rest : {A : Type 0} → List A → Option (List A × List ℕ) → Option (List A × List ℕ)
with_front_rest front read = read >>= λ xs. Some (front ++ xs.0, xs.1)

regroup : {A : Type 0} (front : List A) (x : A) (read : Option (List A)) → with_front front (read >>= λ xs. Some (x ∷ xs)) ≡ with_front (front ++ x ∷ []) read
regroup front x (Some xs) = ap Some (simp append_assoc)
regroup front x None = refl

regroup_rest : {A : Type 0} (front : List A) (x : A) (read : Option (List A × List ℕ)) → with_front_rest front (read >>= λ xs. Some (x ∷ xs.0, xs.1)) ≡ with_front_rest (front ++ x ∷ []) read
regroup_rest {A = A} front x (Some xs) = ap (λ (ys : List A). Some (ys, xs.1)) (simp append_assoc)
regroup_rest front x None = refl

-- where one says nothing, so does the other
pub fails_so : {A B : Type 0} (fault : Fault) (x : Option A) (y : Option B) → (x ≡ None → y ≡ None) → Fails fault x → Fails fault y
fails_so Wrong x y f h = f h
fails_so Memory x y f h = tt

-- the types of a table map

typed_step : (front : List TypedColumn) (code : ℕ) (more rest behind : List ℕ) (column : TypedColumn) → typed_column code rest ≡ Some (column, behind) → with_front front (typed_columns (code ∷ more) rest) ≡ with_front (front ++ column ∷ []) (typed_columns more behind)
unfolding typed_columns
typed_step front code more rest behind column h = rw h (regroup front column (typed_columns more behind))

typed_stop : (front : List TypedColumn) (code : ℕ) (more rest : List ℕ) → typed_column code rest ≡ None → with_front front (typed_columns (code ∷ more) rest) ≡ None
unfolding typed_columns
typed_stop front code more rest h = rw h refl

pub typed_go_on : (front : List TypedColumn) (types : List ℕ) (i : ℕ) (rest behind : List ℕ) (column : TypedColumn) (total : Option (List TypedColumn)) → i < length types → typed_column (get_or types i 0) rest ≡ Some (column, behind)
    → with_front front (typed_columns (drop i types) rest) ≡ total → with_front (front ++ column ∷ []) (typed_columns (drop (i + 1) types) behind) ≡ total
typed_go_on front types i rest behind column total lt h so_far =
    sym (at_drop_more (λ xs. with_front front (typed_columns xs rest)) types i 0 lt ∙ typed_step front (get_or types i 0) (drop (i + 1) types) rest behind column h) ∙ so_far

pub typed_fails : (fault : Fault) (front : List TypedColumn) (types : List ℕ) (i : ℕ) (rest : List ℕ) (total : Option (List TypedColumn)) → i < length types → Fails fault (typed_column (get_or types i 0) rest)
    → with_front front (typed_columns (drop i types) rest) ≡ total → Fails fault total
typed_fails fault front types i rest total lt h so_far =
    fails_so fault (typed_column (get_or types i 0) rest) total
    (λ none. sym so_far ∙ (at_drop_more (λ xs. with_front front (typed_columns xs rest)) types i 0 lt ∙ typed_stop front (get_or types i 0) (drop (i + 1) types) rest none)) h

typed_last : (front : List TypedColumn) (rest : List ℕ) (b : Bool) → (length rest == 0) ≡ b → with_front front (typed_columns [] rest) ≡ (if b then Some front else None)
unfolding typed_columns
typed_last front rest true e = rw e (ap Some (append-nil front))
typed_last front rest false e = rw e refl

pub typed_end : (front : List TypedColumn) (types : List ℕ) (i : ℕ) (rest : List ℕ) (b : Bool) (total : Option (List TypedColumn)) → length types ≤ i → (length rest == 0) ≡ b
    → with_front front (typed_columns (drop i types) rest) ≡ total → total ≡ (if b then Some front else None)
typed_end front types i rest b total le e so_far =
    sym so_far ∙ (at_drop_all (λ xs. with_front front (typed_columns xs rest)) types i le ∙ typed_last front rest b e)

-- the columns of a table, beside those of its table map

match_step : (front : List RowColumn) (w : WantedColumn) (t : TypedColumn) (ws : List WantedColumn) (ts : List TypedColumn) (column : RowColumn) → Some column ≡ row_column w t
    → with_front front (row_columns (w ∷ ws) (t ∷ ts)) ≡ with_front (front ++ column ∷ []) (row_columns ws ts)
unfolding row_columns
match_step front w t ws ts column h = rw (← h) (regroup front column (row_columns ws ts))

match_stop : (front : List RowColumn) (w : WantedColumn) (t : TypedColumn) (ws : List WantedColumn) (ts : List TypedColumn) → None ≡ row_column w t → with_front front (row_columns (w ∷ ws) (t ∷ ts)) ≡ None
unfolding row_columns
match_stop front w t ws ts h = rw (← h) refl

match_here : (front : List RowColumn) (ws : List WantedColumn) (ts : List TypedColumn) (i : ℕ) (d : WantedColumn) (t : TypedColumn) → i < length ws → i < length ts → t ≡ get_or ts i t
    → with_front front (row_columns (drop i ws) (drop i ts)) ≡ with_front front (row_columns (get_or ws i d ∷ drop (i + 1) ws) (t ∷ drop (i + 1) ts))
match_here front ws ts i d t lw lt et =
    at_drop_more (λ xs. with_front front (row_columns xs (drop i ts))) ws i d lw
    ∙ (at_drop_more (λ xs. with_front front (row_columns (get_or ws i d ∷ drop (i + 1) ws) xs)) ts i t lt
    ∙ ap (λ x. with_front front (row_columns (get_or ws i d ∷ drop (i + 1) ws) (x ∷ drop (i + 1) ts))) (sym et))

pub match_goes_on : (front : List RowColumn) (ws : List WantedColumn) (ts : List TypedColumn) (i : ℕ) (d : WantedColumn) (t : TypedColumn) (column : RowColumn) (total : Option (List RowColumn)) → i < length ws → i < length ts → t ≡ get_or ts i t → Some column ≡ row_column (get_or ws i d) t
    → with_front front (row_columns (drop i ws) (drop i ts)) ≡ total → with_front (front ++ column ∷ []) (row_columns (drop (i + 1) ws) (drop (i + 1) ts)) ≡ total
match_goes_on front ws ts i d t column total lw lt et h so_far =
    sym (match_here front ws ts i d t lw lt et ∙ match_step front (get_or ws i d) t (drop (i + 1) ws) (drop (i + 1) ts) column h) ∙ so_far

pub match_ends : (front : List RowColumn) (ws : List WantedColumn) (ts : List TypedColumn) (i : ℕ) (d : WantedColumn) (t : TypedColumn) (total : Option (List RowColumn)) → i < length ws → i < length ts → t ≡ get_or ts i t → None ≡ row_column (get_or ws i d) t
    → with_front front (row_columns (drop i ws) (drop i ts)) ≡ total → total ≡ None
match_ends front ws ts i d t total lw lt et h so_far =
    sym so_far ∙ (match_here front ws ts i d t lw lt et ∙ match_stop front (get_or ws i d) t (drop (i + 1) ws) (drop (i + 1) ts) h)

match_last : (front : List RowColumn) → with_front front (row_columns [] []) ≡ Some front
unfolding row_columns
match_last front = ap Some (append-nil front)

pub match_done : (front : List RowColumn) (ws : List WantedColumn) (ts : List TypedColumn) (i : ℕ) (total : Option (List RowColumn)) → length ws ≤ i → length ts ≤ i
    → with_front front (row_columns (drop i ws) (drop i ts)) ≡ total → total ≡ Some front
match_done front ws ts i total lw lt so_far =
    sym so_far ∙ (at_drop_all (λ xs. with_front front (row_columns xs (drop i ts))) ws i lw ∙ (at_drop_all (λ xs. with_front front (row_columns [] xs)) ts i lt ∙ match_last front))

none_behind : (x : Option RowColumn) (y : Option (List RowColumn)) → y ≡ None → (x >>= λ column. y >>= λ others. Some (column ∷ others)) ≡ None
none_behind None y h = refl
none_behind (Some column) y h = rw h refl

pub other_count : (ws : List WantedColumn) (ts : List TypedColumn) → (length ws ≡ length ts → ⊥) → row_columns ws ts ≡ None
unfolding row_columns
other_count [] [] h = absurd (h refl)
other_count [] (t ∷ ts) h = refl
other_count (w ∷ ws) [] h = refl
other_count (w ∷ ws) (t ∷ ts) h = none_behind (row_column w t) (row_columns ws ts) (other_count ws ts (λ e. h (omega arith)))

-- the cells of an image

cells_step : (front : List Cell) (place : ℕ) (nulls : List ℕ) (column : RowColumn) (columns : List RowColumn) (rest behind : List ℕ) (cell : Cell) → cell_at (has_bit nulls place) column rest ≡ Some (cell, behind)
    → with_front_rest front (cells_at place nulls (column ∷ columns) rest) ≡ with_front_rest (front ++ cell ∷ []) (cells_at (place + 1) nulls columns behind)
unfolding cells_at
cells_step front place nulls column columns rest behind cell h = rw h (regroup_rest front cell (cells_at (place + 1) nulls columns behind))

cells_stop : (front : List Cell) (place : ℕ) (nulls : List ℕ) (column : RowColumn) (columns : List RowColumn) (rest : List ℕ) → cell_at (has_bit nulls place) column rest ≡ None
    → with_front_rest front (cells_at place nulls (column ∷ columns) rest) ≡ None
unfolding cells_at
cells_stop front place nulls column columns rest h = rw h refl

cells_here : (front : List Cell) (place : ℕ) (nulls : List ℕ) (column : RowColumn) (columns : List RowColumn) (rest : List ℕ) → place < length columns → column ≡ get_or columns place column
    → with_front_rest front (cells_at place nulls (drop place columns) rest) ≡ with_front_rest front (cells_at place nulls (column ∷ drop (place + 1) columns) rest)
cells_here front place nulls column columns rest lt e =
    at_drop_more (λ xs. with_front_rest front (cells_at place nulls xs rest)) columns place column lt
    ∙ ap (λ x. with_front_rest front (cells_at place nulls (x ∷ drop (place + 1) columns) rest)) (sym e)

pub cells_go_on : (front : List Cell) (place : ℕ) (nulls : List ℕ) (column : RowColumn) (columns : List RowColumn) (rest behind : List ℕ) (b : Bool) (cell : Cell) (total : Option (List Cell × List ℕ)) → place < length columns → column ≡ get_or columns place column → b ≡ has_bit nulls place → cell_at b column rest ≡ Some (cell, behind)
    → with_front_rest front (cells_at place nulls (drop place columns) rest) ≡ total → with_front_rest (front ++ cell ∷ []) (cells_at (place + 1) nulls (drop (place + 1) columns) behind) ≡ total
cells_go_on front place nulls column columns rest behind b cell total lt e bit h so_far =
    sym (cells_here front place nulls column columns rest lt e ∙ cells_step front place nulls column (drop (place + 1) columns) rest behind cell (ap (λ x. cell_at x column rest) (sym bit) ∙ h)) ∙ so_far

pub cells_fail : (fault : Fault) (front : List Cell) (place : ℕ) (nulls : List ℕ) (column : RowColumn) (columns : List RowColumn) (rest : List ℕ) (b : Bool) (total : Option (List Cell × List ℕ)) → place < length columns → column ≡ get_or columns place column → b ≡ has_bit nulls place → Fails fault (cell_at b column rest)
    → with_front_rest front (cells_at place nulls (drop place columns) rest) ≡ total → Fails fault total
cells_fail fault front place nulls column columns rest b total lt e bit h so_far =
    fails_so fault (cell_at b column rest) total
    (λ none. sym so_far ∙ (cells_here front place nulls column columns rest lt e ∙ cells_stop front place nulls column (drop (place + 1) columns) rest (ap (λ x. cell_at x column rest) (sym bit) ∙ none))) h

cells_last : (front : List Cell) (place : ℕ) (nulls rest : List ℕ) → with_front_rest front (cells_at place nulls [] rest) ≡ Some (front, rest)
unfolding cells_at
cells_last front place nulls rest = ap (λ (xs : List Cell). Some (xs, rest)) (append-nil front)

pub cells_done : (front : List Cell) (place : ℕ) (nulls : List ℕ) (columns : List RowColumn) (rest : List ℕ) (total : Option (List Cell × List ℕ)) → length columns ≤ place
    → with_front_rest front (cells_at place nulls (drop place columns) rest) ≡ total → total ≡ Some (front, rest)
cells_done front place nulls columns rest total le so_far =
    sym so_far ∙ (at_drop_all (λ xs. with_front_rest front (cells_at place nulls xs rest)) columns place le ∙ cells_last front place nulls rest)

-- the rows of an event

-- the changes so far, in front of those of the rest
pub record GoesOn (kind : RowsKind) (table : RowTable) (front : List Change) (rest : List ℕ) (total : Option (List Change)) : Type 0 where
  pub most : ℕ
  pub enough : length rest ≤ most
  pub same : with_front front (changes_by most kind table rest) ≡ total

with_none : (front : List Change) (none : Option (List Change)) → none ≡ None → with_front front none ≡ None
with_none front none h = rw h refl

row_step : (most : ℕ) (kind : RowsKind) (table : RowTable) (front : List Change) (b : ℕ) (bs behind : List ℕ) (change : Change) → change_at kind table (b ∷ bs) ≡ Some (change, behind) → nat_lt (length behind) (length (b ∷ bs)) ≡ true
    → with_front front (changes_by (suc most) kind table (b ∷ bs)) ≡ with_front (front ++ change ∷ []) (changes_by most kind table behind)
unfolding changes_by
row_step most kind table front b bs behind change h lt = rw (h, lt) (regroup front change (changes_by most kind table behind))

row_stop : (most : ℕ) (kind : RowsKind) (table : RowTable) (front : List Change) (b : ℕ) (bs : List ℕ) → change_at kind table (b ∷ bs) ≡ None → with_front front (changes_by most kind table (b ∷ bs)) ≡ None
unfolding changes_by
row_stop zero kind table front b bs h = refl
row_stop (suc most) kind table front b bs h = rw h refl

row_stays : (most : ℕ) (kind : RowsKind) (table : RowTable) (front : List Change) (b : ℕ) (bs behind : List ℕ) (change : Change) → change_at kind table (b ∷ bs) ≡ Some (change, behind) → nat_lt (length behind) (length (b ∷ bs)) ≡ false
    → with_front front (changes_by most kind table (b ∷ bs)) ≡ None
unfolding changes_by
row_stays zero kind table front b bs behind change h lt = refl
row_stays (suc most) kind table front b bs behind change h lt = rw (h, lt) refl

pub rows_begin : (kind : RowsKind) (table : RowTable) (rows : List ℕ) (front : List Change) → front ≡ [] → GoesOn kind table front rows (changes_in kind table rows)
unfolding changes_in
rows_begin kind table rows front e = record {
  most = length rows;
  enough = omega arith;
  same = rw e (with_empty (changes_by (length rows) kind table rows));
}
  where
    with_empty : (read : Option (List Change)) → with_front [] read ≡ read
    with_empty None = refl
    with_empty (Some xs) = refl

row_goes : (most : ℕ) (kind : RowsKind) (table : RowTable) (front : List Change) (rest behind : List ℕ) (change : Change) (total : Option (List Change)) → 1 ≤ length rest → length behind < length rest → change_at kind table rest ≡ Some (change, behind)
    → length rest ≤ most → with_front front (changes_by most kind table rest) ≡ total → GoesOn kind table (front ++ change ∷ []) behind total
row_goes most kind table front [] behind change total some less h enough same = absurd (omega arith)
row_goes zero kind table front (b ∷ bs) behind change total some less h enough same = absurd (omega arith)
row_goes (suc most) kind table front (b ∷ bs) behind change total some less h enough same = record {
  most = most;
  enough = omega arith;
  same = sym (row_step most kind table front b bs behind change h (lt-ltb (length behind) (length (b ∷ bs)) less)) ∙ same;
}

pub rows_go_on : (kind : RowsKind) (table : RowTable) (front : List Change) (rest behind : List ℕ) (change : Change) (total : Option (List Change)) → 1 ≤ length rest → length behind < length rest → change_at kind table rest ≡ Some (change, behind)
    → GoesOn kind table front rest total → GoesOn kind table (front ++ change ∷ []) behind total
rows_go_on kind table front rest behind change total some less h g = row_goes g.most kind table front rest behind change total some less h g.enough g.same

row_none : (most : ℕ) (kind : RowsKind) (table : RowTable) (front : List Change) (rest : List ℕ) (total : Option (List Change)) → 1 ≤ length rest → change_at kind table rest ≡ None → with_front front (changes_by most kind table rest) ≡ total → total ≡ None
row_none most kind table front [] total some h same = absurd (omega arith)
row_none most kind table front (b ∷ bs) total some h same = sym same ∙ row_stop most kind table front b bs h

pub rows_fail : (fault : Fault) (kind : RowsKind) (table : RowTable) (front : List Change) (rest : List ℕ) (total : Option (List Change)) → 1 ≤ length rest → Fails fault (change_at kind table rest) → GoesOn kind table front rest total → Fails fault total
rows_fail fault kind table front rest total some h g =
    fails_so fault (change_at kind table rest) total (λ none. row_none g.most kind table front rest total some none g.same) h

row_stuck : (most : ℕ) (kind : RowsKind) (table : RowTable) (front : List Change) (rest behind : List ℕ) (change : Change) (total : Option (List Change)) → 1 ≤ length rest → length rest ≤ length behind → change_at kind table rest ≡ Some (change, behind)
    → with_front front (changes_by most kind table rest) ≡ total → total ≡ None
row_stuck most kind table front [] behind change total some less h same = absurd (omega arith)
row_stuck most kind table front (b ∷ bs) behind change total some less h same = sym same ∙ row_stays most kind table front b bs behind change h (le-ltb (length behind) (length (b ∷ bs)) less)

pub rows_stuck : (kind : RowsKind) (table : RowTable) (front : List Change) (rest behind : List ℕ) (change : Change) (total : Option (List Change)) → 1 ≤ length rest → length rest ≤ length behind → change_at kind table rest ≡ Some (change, behind)
    → GoesOn kind table front rest total → total ≡ None
rows_stuck kind table front rest behind change total some less h g = row_stuck g.most kind table front rest behind change total some less h g.same

row_end : (most : ℕ) (kind : RowsKind) (table : RowTable) (front : List Change) (rest : List ℕ) (total : Option (List Change)) → length rest ≡ 0 → with_front front (changes_by most kind table rest) ≡ total → total ≡ Some front
unfolding changes_by
row_end most kind table front [] total none same = sym same ∙ ap Some (append-nil front)
row_end most kind table front (b ∷ bs) total none same = absurd (omega arith)

pub rows_done : (kind : RowsKind) (table : RowTable) (front : List Change) (rest : List ℕ) (total : Option (List Change)) → length rest ≡ 0 → GoesOn kind table front rest total → total ≡ Some front
rows_done kind table front rest total none g = row_end g.most kind table front rest total none g.same

pub some_left : (xs : List ℕ) (b : Bool) → b ≡ (length xs == 0) → b ≡ false → 1 ≤ length xs
some_left [] b e h = cc
some_left (x ∷ xs) b e h = omega arith

pub none_left : (xs : List ℕ) (b : Bool) → b ≡ (length xs == 0) → b ≡ true → length xs ≡ 0
none_left [] b e h = refl
none_left (x ∷ xs) b e h = grind (arith, nat_tests)
