-- A value is told by its own bytes.
use Rattle.std.proofs.Common.{◌≡◌, ◌≤◌, ◌<◌, ℕ, zero, suc, ◌+◌, ◌*◌, Bool, true, false, ◌&&◌, nat_lt, if◌then◌else◌, List, ◌++◌, length, take, drop, get_or, Result, Ok, Err, refl, sym, ap, ◌∙◌, arith}
use Rattle.std.proofs.lemmas.Bool.Decides.{nat_tests}
use Rattle.std.proofs.lemmas.List.{get_or_append_left, get_or-take, length-append, length-drop, length-take-le, take_at, drop-append-le, drop-take}
use Rattle.byteorder.specs.Endian.{little_from, little_number}
use Rattle.vs_base.specs.declared.table.ColumnKind.{ColumnKind}
use Rattle.vs_base.specs.declared.table.ColumnKind.TheVariants as kind
use Rattle.vs_columns.specs.declared.refusal.ValueRefusal.{ValueRefusal}
use Rattle.vs_columns.specs.declared.refusal.ValueRefusal.TheVariants.{ShortValue, BadValue}
use Rattle.vs_columns.specs.Kinds.{agreed, code_of, may_stand}
use Rattle.vs_columns.specs.Values.{Outcome, fixed, behind_length, body_of, text_of, with_size, told, value_of}

-- where the bytes are the same, so is their number
same_little : (i n : ℕ) (xs ys : List ℕ) → ((k : ℕ) → k < i + n → get_or xs k 0 ≡ get_or ys k 0) → little_from i n xs ≡ little_from i n ys
same_little i zero xs ys h = refl
same_little i (suc n) xs ys h =
    ap (λ b. b + 256 * little_from (suc i) n xs) (h i (omega arith))
    ∙ ap (λ m. get_or ys i 0 + 256 * m) (same_little (suc i) n xs ys (λ k below. h k (omega arith)))

little_front : (w n : ℕ) (bytes rest : List ℕ) → w ≤ n → n ≤ length bytes → little_number w (take n bytes ++ rest) ≡ little_number w bytes
little_front w n bytes rest few enough =
    same_little 0 w (take n bytes ++ rest) bytes
    (λ k below. get_or_append_left (take n bytes) rest 0 k (omega (arith, length-take-le n bytes enough)) ∙ get_or-take n bytes k 0 (omega arith))

fixed_holds : (n : ℕ) (bytes rest : List ℕ) → n ≤ length bytes → fixed n (take n bytes ++ rest) ≡ Ok (take n bytes, n)
fixed_holds n bytes rest enough =
    let whole : nat_lt (length (take n bytes ++ rest)) n ≡ false = grind (arith, nat_tests, length-append (take n bytes) rest, length-take-le n bytes enough) in
    ap (λ b. let o : Outcome = if b then Err ShortValue else Ok (take n (take n bytes ++ rest), n) in o) whole
    ∙ ap (λ text. let o : Outcome = Ok (text, n) in o) (take_at (take n bytes) rest n (length-take-le n bytes enough))

size_by : Outcome → ℕ
size_by (Ok (body, n)) = n
size_by (Err refusal) = 0

same_size : (m n : ℕ) (xs ys : List ℕ) → (let o : Outcome = Ok (xs, m) in o) ≡ Ok (ys, n) → m ≡ n
unfolding size_by
same_size m n xs ys e = ap size_by e

fixed_whole : (k n : ℕ) (bytes rest body : List ℕ) (b : Bool) → nat_lt (length bytes) k ≡ b → (let o : Outcome = if b then Err ShortValue else Ok (take k bytes, k) in o) ≡ Ok (body, n) → fixed k (take n bytes ++ rest) ≡ Ok (body, n)
fixed_whole k n bytes rest body true t e = cc
fixed_whole k n bytes rest body false t e =
    let size = same_size k n (take k bytes) body e in
    ap (λ m. fixed k (take m bytes ++ rest)) (sym size) ∙ fixed_holds k bytes rest (grind (arith, nat_tests)) ∙ e

fixed_front : (k n : ℕ) (bytes rest body : List ℕ) → fixed k bytes ≡ Ok (body, n) → fixed k (take n bytes ++ rest) ≡ Ok (body, n)
fixed_front k n bytes rest body e = fixed_whole k n bytes rest body (nat_lt (length bytes) k) refl e

lent_so : (w l : ℕ) (bytes rest : List ℕ) → w + l ≤ length bytes → little_number w (take (w + l) bytes ++ rest) ≡ l → behind_length w (take (w + l) bytes ++ rest) ≡ Ok (take l (drop w bytes), w + l)
lent_so w l bytes rest enough number =
    let front = take (w + l) bytes in
    let size : length front ≡ w + l = length-take-le (w + l) bytes enough in
    let behind : drop w (front ++ rest) ≡ take l (drop w bytes) ++ rest = drop-append-le w front rest (omega arith) ∙ ap (λ xs. xs ++ rest) (drop-take w l bytes) in
    let text : take l (drop w (front ++ rest)) ≡ take l (drop w bytes) =
    ap (λ xs. take l xs) behind ∙ take_at (take l (drop w bytes)) rest l (length-take-le l (drop w bytes) (omega (arith, length-drop w bytes))) in
    let first : nat_lt (length (front ++ rest)) w ≡ false = grind (arith, nat_tests, length-append front rest) in
    let second : nat_lt (length (front ++ rest)) (w + l) ≡ false = grind (arith, nat_tests, length-append front rest) in
    ap (λ k. let o : Outcome = if nat_lt (length (front ++ rest)) w then Err ShortValue else (if nat_lt (length (front ++ rest)) (w + k) then Err ShortValue else Ok (take k (drop w (front ++ rest)), w + k)) in o) number
    ∙ ap (λ b. let o : Outcome = if b then Err ShortValue else (if nat_lt (length (front ++ rest)) (w + l) then Err ShortValue else Ok (take l (drop w (front ++ rest)), w + l)) in o) first
    ∙ ap (λ b. let o : Outcome = if b then Err ShortValue else Ok (take l (drop w (front ++ rest)), w + l) in o) second
    ∙ ap (λ xs. let o : Outcome = Ok (xs, w + l) in o) text

lent_holds : (w : ℕ) (bytes rest : List ℕ) → w + little_number w bytes ≤ length bytes → behind_length w (take (w + little_number w bytes) bytes ++ rest) ≡ Ok (take (little_number w bytes) (drop w bytes), w + little_number w bytes)
lent_holds w bytes rest enough = lent_so w (little_number w bytes) bytes rest enough (little_front w (w + little_number w bytes) bytes rest (omega arith) enough)

lent_whole : (w n : ℕ) (bytes rest body : List ℕ) (a b : Bool) → nat_lt (length bytes) (w + little_number w bytes) ≡ b → (let o : Outcome = if a then Err ShortValue else (if b then Err ShortValue else Ok (take (little_number w bytes) (drop w bytes), w + little_number w bytes)) in o) ≡ Ok (body, n) → behind_length w (take n bytes ++ rest) ≡ Ok (body, n)
lent_whole w n bytes rest body true b t e = cc
lent_whole w n bytes rest body false true t e = cc
lent_whole w n bytes rest body false false t e =
    let size = same_size (w + little_number w bytes) n _ body e in
    ap (λ m. behind_length w (take m bytes ++ rest)) (sym size) ∙ lent_holds w bytes rest (grind (arith, nat_tests)) ∙ e

lent_front : (w n : ℕ) (bytes rest body : List ℕ) → behind_length w bytes ≡ Ok (body, n) → behind_length w (take n bytes ++ rest) ≡ Ok (body, n)
lent_front w n bytes rest body e = lent_whole w n bytes rest body (nat_lt (length bytes) w) (nat_lt (length bytes) (w + little_number w bytes)) refl e

body_front : (kind : ColumnKind) (meta : List ℕ) (n : ℕ) (bytes rest body : List ℕ) → body_of kind meta bytes ≡ Ok (body, n) → body_of kind meta (take n bytes ++ rest) ≡ Ok (body, n)
body_front (kind.TinyInt unsigned) meta n bytes rest body e = fixed_front _ n bytes rest body e
body_front (kind.SmallInt unsigned) meta n bytes rest body e = fixed_front _ n bytes rest body e
body_front (kind.MediumInt unsigned) meta n bytes rest body e = fixed_front _ n bytes rest body e
body_front (kind.Int unsigned) meta n bytes rest body e = fixed_front _ n bytes rest body e
body_front (kind.BigInt unsigned) meta n bytes rest body e = fixed_front _ n bytes rest body e
body_front kind.Date meta n bytes rest body e = fixed_front _ n bytes rest body e
body_front (kind.Timestamp p) meta n bytes rest body e = fixed_front _ n bytes rest body e
body_front (kind.DateTime p) meta n bytes rest body e = fixed_front _ n bytes rest body e
body_front (kind.Decimal p s) meta n bytes rest body e = fixed_front _ n bytes rest body e
body_front (kind.VarChar k) meta n bytes rest body e = lent_front _ n bytes rest body e
body_front (kind.VarBinary k) meta n bytes rest body e = lent_front _ n bytes rest body e
body_front kind.Text meta n bytes rest body e = lent_front _ n bytes rest body e
body_front kind.Blob meta n bytes rest body e = lent_front _ n bytes rest body e
body_front (kind.Char k) meta n bytes rest body e = lent_front _ n bytes rest body e
body_front (kind.Binary k) meta n bytes rest body e = lent_front _ n bytes rest body e

size_kept : (m n : ℕ) (text : List ℕ) (r : Result (List ℕ) ValueRefusal) → with_size m r ≡ Ok (text, n) → m ≡ n
size_kept m n text (Ok t) e = same_size m n t text e
size_kept m n text (Err refusal) e = cc

told_front : (kind : ColumnKind) (meta : List ℕ) (n : ℕ) (bytes rest text : List ℕ) (o : Outcome) → body_of kind meta bytes ≡ o → told kind o ≡ Ok (text, n) → told kind (body_of kind meta (take n bytes ++ rest)) ≡ Ok (text, n)
told_front kind meta n bytes rest text (Ok (body, m)) e p =
    let size = size_kept m n text (text_of kind body) p in
    let same : body_of kind meta bytes ≡ Ok (body, n) = e ∙ ap (λ k. let o : Outcome = Ok (body, k) in o) size in
    ap (λ o. told kind o) (body_front kind meta n bytes rest body same) ∙ ap (λ k. told kind (Ok (body, k))) (sym size) ∙ p
told_front kind meta n bytes rest text (Err refusal) e p = cc

tested_front : (kind : ColumnKind) (meta : List ℕ) (n : ℕ) (bytes rest text : List ℕ) (b : Bool) → (let o : Outcome = if b then told kind (body_of kind meta bytes) else Err BadValue in o) ≡ Ok (text, n) → (let o : Outcome = if b then told kind (body_of kind meta (take n bytes ++ rest)) else Err BadValue in o) ≡ Ok (text, n)
tested_front kind meta n bytes rest text true e = told_front kind meta n bytes rest text (body_of kind meta bytes) refl e
tested_front kind meta n bytes rest text false e = cc

-- other bytes may stand behind a value
pub value_front : (kind : ColumnKind) (meta bytes rest text : List ℕ) (n : ℕ) → value_of kind meta bytes ≡ Ok (text, n) → value_of kind meta (take n bytes ++ rest) ≡ Ok (text, n)
unfolding value_of
value_front kind meta bytes rest text n e = tested_front kind meta n bytes rest text (may_stand kind && agreed kind (code_of kind) meta) e
