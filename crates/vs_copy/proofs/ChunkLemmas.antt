-- Rows that come into a chunk one by one.
use Rattle.std.proofs.Common.{◌≡◌, ℕ, zero, suc, ◌+◌, ◌-◌, ◌<◌, ◌≤◌, Bool, true, false, cond, ◌&&◌, ◌||◌, nat_le, nat_lt, min, List, [], ◌∷◌, ◌++◌, map, length, Option, Some, None, refl, ap, ap₂, sym, ◌∙◌, subst, arith, zero-add, append_assoc, append-nil, length-append}
use Rattle.std.specs.List.{AllByRecursion, last_or}
use Rattle.std.proofs.Math.Dec.{eqb-suc-zero}
use Rattle.std.proofs.lemmas.Bool.{leb-true}
use Rattle.std.proofs.lemmas.Bool.Decides.{nat_tests}
use Rattle.vs_base.specs.declared.cell.Cell.{Cell}
use Rattle.vs_base.specs.Cells.{row_size}
use Rattle.vs_model.specs.Copy.{chunk_of, within_limits}
use Rattle.vs_copy.specs.Chunks.{has_room, room_for}

abbrev pub Told : Type 0
Told = List Cell × List Cell

-- a chunk begins without a row
pub from_nothing : (rows : List Told) → chunk_of rows ≡ room_for 0 0 rows
from_nothing [] = refl
from_nothing (row ∷ rows) = ap (λ size. row ∷ within_limits 99 size rows) (sym (zero-add (row_size row.1)))

-- beyond the limit no count of bytes matters
all_full : (n size : ℕ) (rows : List Told) → 4194305 ≤ size → within_limits n size rows ≡ []
all_full zero size [] full = refl
all_full zero size (row ∷ rows) full = refl
all_full (suc n) size [] full = refl
all_full (suc n) size (row ∷ rows) full =
    let over : nat_le (size + row_size row.1) 4194304 ≡ false = grind (arith, nat_tests) in
    ap (λ b. cond b (row ∷ within_limits n (size + row_size row.1) rows) []) over

pub counted : (n size : ℕ) (rows : List Told) → within_limits n (min size 4194305) rows ≡ within_limits n size rows
counted n size rows = go (nat_le size 4194304) refl
  where
    go : (b : Bool) → nat_le size 4194304 ≡ b → within_limits n (min size 4194305) rows ≡ within_limits n size rows
    go true e =
        let few = leb-true size 4194304 e in
        let same : min size 4194305 ≡ size = omega arith in ap (λ s. within_limits n s rows) same
    go false e =
        let many : 4194305 ≤ size = grind (arith, nat_tests) in
        let same : min size 4194305 ≡ 4194305 = omega arith in
        all_full n (min size 4194305) rows (omega arith) ∙ sym (all_full n size rows many)

-- one row more, as the program counts: the bytes of a row up to one more than the limit
abbrev pub with_more : ℕ → ℕ → Told → List Told → List Told
with_more n size row rows = cond (has_room n size (min (row_size row.1) 4194305)) (row ∷ room_for (suc n) (size + min (row_size row.1) 4194305) rows) []

test_same : (size more : ℕ) → nat_le (size + more) 4194304 ≡ nat_le (size + min more 4194305) 4194304
test_same size more = grind (arith, nat_tests)

pub one_more : (n size : ℕ) (row : Told) (rows : List Told) → (n ≡ 0 → size ≡ 0) → n ≤ 100 → room_for n size (row ∷ rows) ≡ with_more n size row rows
one_more zero size row rows none few =
    ap (λ l. row ∷ l)
    (ap (λ s. within_limits 99 (s + row_size row.1) rows) (none refl)
    ∙ ap (λ s. within_limits 99 s rows) (zero-add (row_size row.1))
    ∙ sym (counted 99 (row_size row.1) rows)
    ∙ sym (ap (λ s. within_limits 99 s rows) (zero-add (min (row_size row.1) 4194305)))
    ∙ sym (ap (λ s. within_limits 99 (s + min (row_size row.1) 4194305) rows) (none refl)))
one_more (suc n) size row rows none few = go (nat_lt (suc n) 100) (nat_le (size + row_size row.1) 4194304) refl refl
  where
    test_is : (b d : Bool) → nat_lt (suc n) 100 ≡ b → nat_le (size + row_size row.1) 4194304 ≡ d →
        has_room (suc n) size (min (row_size row.1) 4194305) ≡ (b && d)
    test_is b d e f =
        ap (λ z. z || (nat_lt (suc n) 100 && nat_le (size + min (row_size row.1) 4194305) 4194304)) (eqb-suc-zero n)
        ∙ ap₂ (λ x y. x && y) e (sym (test_same size (row_size row.1)) ∙ f)

    go : (b d : Bool) → nat_lt (suc n) 100 ≡ b → nat_le (size + row_size row.1) 4194304 ≡ d →
        within_limits (99 - n) size (row ∷ rows) ≡ with_more (suc n) size row rows
    go true true e f =
        let fewer : suc n < 100 = grind (arith, nat_tests) in
        let one : 99 - n ≡ suc (98 - n) = omega arith in
        let fit = leb-true (size + row_size row.1) 4194304 f in
        let same : row_size row.1 ≡ min (row_size row.1) 4194305 = omega arith in
        let left : 98 - n ≡ 99 - suc n = omega arith in
        ap (λ k. within_limits k size (row ∷ rows)) one
        ∙ ap (λ t. cond t (row ∷ within_limits (98 - n) (size + row_size row.1) rows) []) f
        ∙ ap (λ l. row ∷ l) (ap₂ (λ k s. within_limits k (size + s) rows) left same)
        ∙ sym (ap (λ t. cond t (row ∷ room_for (suc (suc n)) (size + min (row_size row.1) 4194305) rows) []) (test_is true true e f))
    go true false e f =
        let fewer : suc n < 100 = grind (arith, nat_tests) in
        let one : 99 - n ≡ suc (98 - n) = omega arith in
        ap (λ k. within_limits k size (row ∷ rows)) one
        ∙ ap (λ t. cond t (row ∷ within_limits (98 - n) (size + row_size row.1) rows) []) f
        ∙ sym (ap (λ t. cond t (row ∷ room_for (suc (suc n)) (size + min (row_size row.1) 4194305) rows) []) (test_is true false e f))
    go false d e f =
        let many : 100 ≤ suc n = grind (arith, nat_tests) in
        let none_left : 99 - n ≡ 0 = omega arith in
        ap (λ k. within_limits k size (row ∷ rows)) none_left
        ∙ sym (ap (λ t. cond t (row ∷ room_for (suc (suc n)) (size + min (row_size row.1) 4194305) rows) []) (test_is false d e f))

-- ---- what holds of each row holds of the last

pub last_of : {X : Type 0} (P : X → Type 0) (xs : List X) (y x : X) → P y → AllByRecursion P xs → last_or (Some y) xs ≡ Some x → P x
last_of P [] y x p all is = let same : y ≡ x = cc in subst P same p
last_of P (z ∷ zs) y x p all is = last_of P zs z x all.0 all.1 is

pub last_has : {X : Type 0} (P : X → Type 0) (xs : List X) (x : X) → AllByRecursion P xs → last_or None xs ≡ Some x → P x
last_has P [] x all is = absurd (cc)
last_has P (z ∷ zs) x all is = last_of P zs z x all.0 all.1 is

within_each : (P : List Cell → Type 0) (n size : ℕ) (rows : List Told) → AllByRecursion (λ row. P row.0) rows →
    AllByRecursion P (map (λ row. row.0) (within_limits n size rows))
within_each P n size [] all = tt
within_each P zero size (row ∷ rows) all = tt
within_each P (suc n) size (row ∷ rows) all =
    go (nat_le (size + row_size row.1) 4194304) (within_each P n (size + row_size row.1) rows all.1)
  where
    go : (b : Bool) → AllByRecursion P (map (λ row. row.0) (within_limits n (size + row_size row.1) rows)) →
        AllByRecursion P (map (λ row. row.0) (cond b (row ∷ within_limits n (size + row_size row.1) rows) []))
    go true on = (all.0, on)
    go false on = tt

pub chunk_each : (P : List Cell → Type 0) (rows : List Told) → AllByRecursion (λ row. P row.0) rows → AllByRecursion P (map (λ row. row.0) (chunk_of rows))
chunk_each P [] all = tt
chunk_each P (row ∷ rows) all = (all.0, within_each P 99 (row_size row.1) rows all.1)

-- a chunk without a last row has none
some_last : {X : Type 0} (y : X) (xs : List X) → last_or (Some y) xs ≡ None → ⊥
some_last y [] is = cc
some_last y (z ∷ zs) is = some_last z zs is

pub none_last : (rows : List Told) → last_or None (map (λ row. row.0) (chunk_of rows)) ≡ None → rows ≡ []
none_last [] is = refl
none_last (row ∷ rows) is = absurd (some_last row.0 (map (λ r. r.0) (within_limits 99 (row_size row.1) rows)) is)

-- ---- a chunk that is being filled from rows

-- what it has, and what it may still have of the rows that are left, is what a chunk of all has
pub record IsFilled (all : List Told) (taken : List (List Cell)) (last : Option (List Cell)) (size : ℕ) (left : List Told) : Type 0 where
  pub rows : map (λ (row : Told). row.1) (chunk_of all) ≡ taken ++ map (λ (row : Told). row.1) (room_for (length taken) size left)
  pub keys : last_or None (map (λ (row : Told). row.0) (chunk_of all)) ≡ last_or last (map (λ (row : Told). row.0) (room_for (length taken) size left))
  pub empty : length taken ≡ 0 → size ≡ 0
  pub few : length taken ≤ 100
  pub small : size ≤ 4194305

-- it has these rows, and that key is the last one's
pub record IsFull (all : List Told) (taken : List (List Cell)) (last : Option (List Cell)) : Type 0 where
  pub rows : taken ≡ map (λ (row : Told). row.1) (chunk_of all)
  pub keys : last ≡ last_or None (map (λ (row : Told). row.0) (chunk_of all))

pub begun : (all : List Told) → IsFilled all [] None 0 all
begun all = record {
  rows = ap (map (λ (row : Told). row.1)) (from_nothing all);
  keys = ap (λ rows. last_or None (map (λ (row : Told). row.0) rows)) (from_nothing all);
  empty = λ e. refl;
  few = omega arith;
  small = omega arith;
}

room_none : (n size : ℕ) → room_for n size [] ≡ []
room_none zero size = refl
room_none (suc n) size = within_none (99 - n)
  where
    within_none : (k : ℕ) → within_limits k size [] ≡ []
    within_none zero = refl
    within_none (suc k) = refl

nothing_left : (all : List Told) (taken : List (List Cell)) (last : Option (List Cell)) (size : ℕ) (left : List Told) → IsFilled all taken last size left →
    room_for (length taken) size left ≡ [] → IsFull all taken last
nothing_left all taken last size left f none = record {
  rows = sym (f.rows ∙ ap (λ (rows : List Told). taken ++ map (λ (row : Told). row.1) rows) none ∙ append-nil taken);
  keys = sym (f.keys ∙ ap (λ (rows : List Told). last_or last (map (λ (row : Told). row.0) rows)) none);
}

-- no row is left
pub all_taken : (all : List Told) (taken : List (List Cell)) (last : Option (List Cell)) (size : ℕ) → IsFilled all taken last size [] → IsFull all taken last
all_taken all taken last size f = nothing_left all taken last size [] f (room_none (length taken) size)

-- the next row has no room
pub no_room : (all : List Told) (taken : List (List Cell)) (last : Option (List Cell)) (size : ℕ) (row : Told) (left : List Told) (more : ℕ) →
    IsFilled all taken last size (row ∷ left) → more ≡ min (row_size row.1) 4194305 → has_room (length taken) size more ≡ false → IsFull all taken last
no_room all taken last size row left more f counts full =
    nothing_left all taken last size (row ∷ left) f
    (one_more (length taken) size row left f.empty f.few
    ∙ ap (λ b. cond b (row ∷ room_for (suc (length taken)) (size + min (row_size row.1) 4194305) left) [])
    (ap (has_room (length taken) size) (sym counts) ∙ full))

room_small : (n size more : ℕ) → (n ≡ 0 → size ≡ 0) → more ≤ 4194305 → has_room n size more ≡ true → size + more ≤ 4194305
room_small zero size more empty small room = let none = empty refl in omega arith
room_small (suc n) size more empty small room = go (nat_lt (suc n) 100) (sym (ap (λ z. z || (nat_lt (suc n) 100 && nat_le (size + more) 4194304)) (eqb-suc-zero n)) ∙ room)
  where
    go : (b : Bool) → (b && nat_le (size + more) 4194304) ≡ true → size + more ≤ 4194305
    go true e = let fit = leb-true (size + more) 4194304 e in omega arith
    go false e = absurd (cc)

room_few : (n size more : ℕ) → has_room n size more ≡ true → n + 1 ≤ 100
room_few zero size more room = omega arith
room_few (suc n) size more room = go (nat_lt (suc n) 100) refl (sym (ap (λ z. z || (nat_lt (suc n) 100 && nat_le (size + more) 4194304)) (eqb-suc-zero n)) ∙ room)
  where
    go : (b : Bool) → nat_lt (suc n) 100 ≡ b → (b && nat_le (size + more) 4194304) ≡ true → suc n + 1 ≤ 100
    go true f e = let few : suc n < 100 = grind (arith, nat_tests) in omega arith
    go false f e = absurd (cc)

-- the next row comes in
pub one_taken : (all : List Told) (taken : List (List Cell)) (last : Option (List Cell)) (size : ℕ) (row : Told) (left : List Told) (more : ℕ) →
    IsFilled all taken last size (row ∷ left) → more ≡ min (row_size row.1) 4194305 → has_room (length taken) size more ≡ true →
    IsFilled all (taken ++ row.1 ∷ []) (Some row.0) (size + more) left
one_taken all taken last size row left more f counts room =
    record {
      rows = f.rows ∙ ap (λ (rows : List Told). taken ++ map (λ (r : Told). r.1) rows) step
          ∙ sym (append_assoc taken (row.1 ∷ []) (map (λ (r : Told). r.1) (room_for (length (taken ++ row.1 ∷ [])) (size + more) left)));
      keys = f.keys ∙ ap (λ (rows : List Told). last_or last (map (λ (r : Told). r.0) rows)) step;
      empty = λ e. absurd (omega (arith, length_is, e));
      few = omega (arith, length_is, room_few (length taken) size more room);
      small = room_small (length taken) size more f.empty (omega (arith, counts)) room;
    }
  where
    length_is : length (taken ++ row.1 ∷ []) ≡ length taken + 1
    length_is = length-append taken (row.1 ∷ [])

    step : room_for (length taken) size (row ∷ left) ≡ row ∷ room_for (length (taken ++ row.1 ∷ [])) (size + more) left
    step =
        let same : suc (length taken) ≡ length (taken ++ row.1 ∷ []) = omega (arith, length_is) in
        one_more (length taken) size row left f.empty f.few
        ∙ ap (λ b. cond b (row ∷ room_for (suc (length taken)) (size + min (row_size row.1) 4194305) left) [])
        (ap (has_room (length taken) size) (sym counts) ∙ room)
        ∙ ap₂ (λ (n s : ℕ). row ∷ room_for n s left) same (ap (λ s. size + s) (sym counts))
