-- A value takes no more bytes than are there, and is told by its own.
use Rattle.std.proofs.Common.{◌≡◌, ◌≤◌, ◌<◌, ℕ, ◌+◌, Bool, true, false, ◌&&◌, nat_lt, List, [], ◌++◌, length, take, drop, refl, sym, ap, subst, ◌∙◌, arith}
use Rattle.std.specs.Prelude.{Result, Ok, Err, if◌then◌else◌}
use Rattle.std.proofs.lemmas.Bool.Decides.{nat_tests}
use Rattle.std.proofs.lemmas.List.{append-nil, length-take-le, take_at, take-append-drop}
use Rattle.byteorder.specs.Endian.{little_number}
use Rattle.vs_base.specs.declared.table.ColumnKind.{ColumnKind}
use Rattle.vs_base.specs.declared.table.ColumnKind.TheVariants as kind
use Rattle.vs_columns.specs.declared.refusal.ValueRefusal.{ValueRefusal}
use Rattle.vs_columns.specs.declared.refusal.ValueRefusal.TheVariants.{ShortValue, BadValue}
use Rattle.vs_columns.specs.Kinds.{agreed, code_of, may_stand}
use Rattle.vs_columns.specs.Values.{Outcome, fixed, behind_length, body_of, text_of, with_size, told, value_of}
use Rattle.vs_columns.proofs.FrontLemmas.{value_front}

-- the bytes that an outcome takes are there
abbrev Within : Outcome → List ℕ → Type 0
Within (Ok (body, n)) bytes = n ≤ length bytes
Within (Err refusal) bytes = Unit {0}

fixed_by : (k : ℕ) (bytes : List ℕ) (b : Bool) → nat_lt (length bytes) k ≡ b → Within (if b then Err ShortValue else Ok (take k bytes, k)) bytes
fixed_by k bytes true t = tt
fixed_by k bytes false t = grind (arith, nat_tests)

fixed_within : (k : ℕ) (bytes : List ℕ) → Within (fixed k bytes) bytes
fixed_within k bytes = fixed_by k bytes (nat_lt (length bytes) k) refl

lent_by : (w : ℕ) (bytes : List ℕ) (a b : Bool) → nat_lt (length bytes) (w + little_number w bytes) ≡ b → Within (if a then Err ShortValue else (if b then Err ShortValue else Ok (take (little_number w bytes) (drop w bytes), w + little_number w bytes))) bytes
lent_by w bytes true b t = tt
lent_by w bytes false true t = tt
lent_by w bytes false false t = grind (arith, nat_tests)

lent_within : (w : ℕ) (bytes : List ℕ) → Within (behind_length w bytes) bytes
lent_within w bytes = lent_by w bytes (nat_lt (length bytes) w) (nat_lt (length bytes) (w + little_number w bytes)) refl

body_within : (kind : ColumnKind) (meta bytes : List ℕ) → Within (body_of kind meta bytes) bytes
body_within (kind.TinyInt unsigned) meta bytes = fixed_within _ bytes
body_within (kind.SmallInt unsigned) meta bytes = fixed_within _ bytes
body_within (kind.MediumInt unsigned) meta bytes = fixed_within _ bytes
body_within (kind.Int unsigned) meta bytes = fixed_within _ bytes
body_within (kind.BigInt unsigned) meta bytes = fixed_within _ bytes
body_within kind.Date meta bytes = fixed_within _ bytes
body_within (kind.Timestamp p) meta bytes = fixed_within _ bytes
body_within (kind.DateTime p) meta bytes = fixed_within _ bytes
body_within (kind.Decimal p s) meta bytes = fixed_within _ bytes
body_within (kind.VarChar k) meta bytes = lent_within _ bytes
body_within (kind.VarBinary k) meta bytes = lent_within _ bytes
body_within kind.Text meta bytes = lent_within _ bytes
body_within kind.Blob meta bytes = lent_within _ bytes
body_within (kind.Char k) meta bytes = lent_within _ bytes
body_within (kind.Binary k) meta bytes = lent_within _ bytes

sized_within : (n : ℕ) (bytes : List ℕ) (r : Result (List ℕ) ValueRefusal) → n ≤ length bytes → Within (with_size n r) bytes
sized_within n bytes (Ok text) h = h
sized_within n bytes (Err refusal) h = tt

told_within : (kind : ColumnKind) (bytes : List ℕ) (o : Outcome) → Within o bytes → Within (told kind o) bytes
told_within kind bytes (Ok (body, n)) h = sized_within n bytes (text_of kind body) h
told_within kind bytes (Err refusal) h = tt

tested_within : (kind : ColumnKind) (meta bytes : List ℕ) (b : Bool) → Within (if b then told kind (body_of kind meta bytes) else Err BadValue) bytes
tested_within kind meta bytes true = told_within kind bytes (body_of kind meta bytes) (body_within kind meta bytes)
tested_within kind meta bytes false = tt

all_within : (kind : ColumnKind) (meta bytes : List ℕ) → Within (value_of kind meta bytes) bytes
unfolding value_of
all_within kind meta bytes = tested_within kind meta bytes (may_stand kind && agreed kind (code_of kind) meta)

pub value_within : (kind : ColumnKind) (meta bytes text : List ℕ) (n : ℕ) → value_of kind meta bytes ≡ Ok (text, n) → n ≤ length bytes
value_within kind meta bytes text n e = let P : Outcome → Type 0 = λ o. Within o bytes in subst P e (all_within kind meta bytes)

-- a value's own bytes say it alone
pub value_alone : (kind : ColumnKind) (meta bytes text : List ℕ) (n : ℕ) → value_of kind meta bytes ≡ Ok (text, n) → value_of kind meta (take n bytes) ≡ Ok (text, length (take n bytes))
value_alone kind meta bytes text n e =
    let size : length (take n bytes) ≡ n = length-take-le n bytes (value_within kind meta bytes text n e) in
    ap (λ xs. value_of kind meta xs) (sym (append-nil (take n bytes)))
    ∙ (value_front kind meta bytes [] text n e ∙ ap (λ k. let o : Outcome = Ok (text, k) in o) (sym size))

-- and whatever stands behind them
pub value_before : (kind : ColumnKind) (meta own rest text : List ℕ) → value_of kind meta own ≡ Ok (text, length own) → value_of kind meta (own ++ rest) ≡ Ok (text, length own)
value_before kind meta own rest text e =
    ap (λ xs. value_of kind meta (xs ++ rest)) (sym (ap (λ xs. take (length own) xs) (append-nil own) ∙ take_all own))
    ∙ ap (λ xs. value_of kind meta xs) (ap (λ xs. xs ++ rest) (ap (λ xs. take (length own) xs) (append-nil own)))
    ∙ value_front kind meta own rest text (length own) e
  where
    take_all : (xs : List ℕ) → take (length xs) xs ≡ xs
    take_all xs = ap (λ ys. take (length xs) ys) (sym (append-nil xs)) ∙ take_at xs [] (length xs) refl
