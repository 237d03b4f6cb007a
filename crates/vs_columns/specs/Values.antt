-- The values of columns in rows of a log: their text, and the bytes that they take.
use Rattle.std.specs.Prelude.{ℕ, ◌+◌, ◌-◌, ◌≡◌, Bool, ◌&&◌, nat_le, nat_lt, if◌then◌else◌, List, [], ◌++◌, length, take, drop, replicate, slice_index, decimal, Result, Ok, Err}
use Rattle.std.specs.Fmt.{signed_decimal}
use Rattle.byteorder.specs.Endian.{little_number, twos_complement}
use Rattle.vs_base.specs.declared.table.ColumnKind.{ColumnKind}
use Rattle.vs_base.specs.declared.table.ColumnKind.TheVariants as kind
use Rattle.vs_base.specs.declared.cell.Cell.{Cell}
use Rattle.vs_base.specs.declared.cell.Cell.TheVariants.{Bytes}
use Rattle.vs_columns.specs.declared.refusal.ValueRefusal.{ValueRefusal}
use Rattle.vs_columns.specs.declared.refusal.ValueRefusal.TheVariants.{ShortValue, BadValue}
use Rattle.vs_columns.specs.Kinds.{agreed, code_of, may_stand}
use Rattle.vs_columns.specs.Dates.{date_text, timestamp_text, datetime_text, fraction_size}
use Rattle.vs_columns.specs.Decimals.{decimal_text, decimal_size}

-- a text and the bytes that say it; or why there is none
abbrev pub Outcome : Type 0
Outcome = Result (List ℕ × ℕ) ValueRefusal

-- the first n bytes
abbrev pub fixed : ℕ → List ℕ → Outcome
fixed n bytes = if nat_lt (length bytes) n then Err ShortValue else Ok (take n bytes, n)

-- the bytes behind their length, which has w bytes, the lowest first
abbrev pub behind_length : ℕ → List ℕ → Outcome
behind_length w bytes =
    if nat_lt (length bytes) w then Err ShortValue
    else if nat_lt (length bytes) (w + little_number w bytes) then Err ShortValue
    else Ok (take (little_number w bytes) (drop w bytes), w + little_number w bytes)

-- the length of a text whose greatest length is at most 255 has one byte, else two
abbrev pub length_size : List ℕ → ℕ
length_size meta = if nat_le (little_number 2 meta) 255 then 1 else 2

-- The bytes of a value of this kind at the front, and how many bytes they take with their length.
abbrev pub body_of : ColumnKind → List ℕ → List ℕ → Outcome
body_of (kind.TinyInt unsigned) meta bytes = fixed 1 bytes
body_of (kind.SmallInt unsigned) meta bytes = fixed 2 bytes
body_of (kind.MediumInt unsigned) meta bytes = fixed 3 bytes
body_of (kind.Int unsigned) meta bytes = fixed 4 bytes
body_of (kind.BigInt unsigned) meta bytes = fixed 8 bytes
body_of kind.Date meta bytes = fixed 3 bytes
body_of (kind.Timestamp p) meta bytes = fixed (4 + fraction_size p) bytes
body_of (kind.DateTime p) meta bytes = fixed (5 + fraction_size p) bytes
body_of (kind.Decimal p s) meta bytes = fixed (decimal_size p s) bytes
body_of (kind.VarChar n) meta bytes = behind_length (length_size meta) bytes
body_of (kind.VarBinary n) meta bytes = behind_length (length_size meta) bytes
body_of kind.Text meta bytes = behind_length (slice_index meta 0) bytes
body_of kind.Blob meta bytes = behind_length (slice_index meta 0) bytes
body_of (kind.Char n) meta bytes = behind_length 1 bytes
body_of (kind.Binary n) meta bytes = behind_length 1 bytes

-- a whole number of n bytes, the lowest first
abbrev pub whole_text : Bool → ℕ → List ℕ → List ℕ
whole_text unsigned n body =
    if unsigned then decimal (little_number n body) else signed_decimal (twos_complement n (little_number n body))

-- filled up with zero bytes to n of them
abbrev pub filled : ℕ → List ℕ → List ℕ
filled n body = body ++ replicate (n - length body) 0

-- the text that such bytes say
abbrev pub text_of : ColumnKind → List ℕ → Result (List ℕ) ValueRefusal
text_of (kind.TinyInt unsigned) body = Ok (whole_text unsigned 1 body)
text_of (kind.SmallInt unsigned) body = Ok (whole_text unsigned 2 body)
text_of (kind.MediumInt unsigned) body = Ok (whole_text unsigned 3 body)
text_of (kind.Int unsigned) body = Ok (whole_text unsigned 4 body)
text_of (kind.BigInt unsigned) body = Ok (whole_text unsigned 8 body)
text_of kind.Date body = date_text body
text_of (kind.Timestamp p) body = timestamp_text p body
text_of (kind.DateTime p) body = datetime_text p body
text_of (kind.Decimal p s) body = decimal_text p s body
text_of (kind.VarChar n) body = Ok body
text_of (kind.VarBinary n) body = Ok body
text_of kind.Text body = Ok body
text_of kind.Blob body = Ok body
text_of (kind.Char n) body = Ok body
text_of (kind.Binary n) body = Ok (filled n body)

abbrev pub with_size : ℕ → Result (List ℕ) ValueRefusal → Outcome
with_size n (Ok text) = Ok (text, n)
with_size n (Err refusal) = Err refusal

abbrev pub told : ColumnKind → Outcome → Outcome
told kind (Ok (body, n)) = with_size n (text_of kind body)
told kind (Err refusal) = Err refusal

-- The value at the front of the bytes, in a column of this kind whose table map has this metadata. What stands behind the
-- bytes that it takes isn't looked at.
unfoldable pub value_of : ColumnKind → List ℕ → List ℕ → Outcome
value_of kind meta bytes =
    if may_stand kind && agreed kind (code_of kind) meta then told kind (body_of kind meta bytes) else Err BadValue

-- these bytes are as many as a value of the kind has
abbrev pub HasSize : ColumnKind → List ℕ → Type 0
HasSize (kind.TinyInt unsigned) body = length body ≡ 1
HasSize (kind.SmallInt unsigned) body = length body ≡ 2
HasSize (kind.MediumInt unsigned) body = length body ≡ 3
HasSize (kind.Int unsigned) body = length body ≡ 4
HasSize (kind.BigInt unsigned) body = length body ≡ 8
HasSize kind.Date body = length body ≡ 3
HasSize (kind.Timestamp p) body = length body ≡ 4 + fraction_size p
HasSize (kind.DateTime p) body = length body ≡ 5 + fraction_size p
HasSize (kind.Decimal p s) body = length body ≡ decimal_size p s
HasSize (kind.VarChar n) body = Unit {0}
HasSize (kind.VarBinary n) body = Unit {0}
HasSize kind.Text body = Unit {0}
HasSize kind.Blob body = Unit {0}
HasSize (kind.Char n) body = Unit {0}
HasSize (kind.Binary n) body = Unit {0}

-- what is told of an outcome: the text, or no bytes; the bytes taken; the cell
abbrev pub text_in : Outcome → List ℕ
text_in (Ok (text, n)) = text
text_in (Err refusal) = []

abbrev pub size_in : Outcome → Result ℕ ValueRefusal
size_in (Ok (text, n)) = Ok n
size_in (Err refusal) = Err refusal

abbrev pub cell_in : Outcome → Result (Cell × ℕ) ValueRefusal
cell_in (Ok (text, n)) = Ok (Bytes text, n)
cell_in (Err refusal) = Err refusal

-- and of a text alone
abbrev pub said : Result (List ℕ) ValueRefusal → List ℕ
said (Ok text) = text
said (Err refusal) = []

abbrev pub done : Result (List ℕ) ValueRefusal → Result (Unit {0}) ValueRefusal
done (Ok text) = Ok tt
done (Err refusal) = Err refusal
