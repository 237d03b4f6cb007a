-- Which types and metadata of a table map are those of a column's kind.
use Rattle.std.specs.Prelude.{ℕ, ◌==◌, ◌&&◌, ◌||◌, Bool, true, nat_le, if◌then◌else◌, List, length, slice_index, Option, Some, None}
use Rattle.vs_base.specs.declared.table.ColumnKind.{ColumnKind}
use Rattle.vs_base.specs.declared.table.ColumnKind.TheVariants.{TinyInt, SmallInt, MediumInt, Int, BigInt, Date, VarChar, VarBinary, Timestamp, DateTime, Decimal, Text, Blob, Char, Binary}

-- the number of the type that a log gives to columns of this kind
abbrev pub code_of : ColumnKind → ℕ
code_of (TinyInt unsigned) = 1
code_of (SmallInt unsigned) = 2
code_of (MediumInt unsigned) = 9
code_of (Int unsigned) = 3
code_of (BigInt unsigned) = 8
code_of Date = 10
code_of (VarChar n) = 15
code_of (VarBinary n) = 15
code_of (Timestamp p) = 17
code_of (DateTime p) = 18
code_of (Decimal p s) = 246
code_of Text = 252
code_of Blob = 252
code_of (Char n) = 254
code_of (Binary n) = 254

-- how many bytes of metadata a type has: none; one; two. Other types are unknown.
abbrev pub has_no_meta : ℕ → Bool
has_no_meta code = code == 1 || code == 2 || code == 3 || code == 8 || code == 9 || code == 10 || code == 13

abbrev pub has_one_byte : ℕ → Bool
has_one_byte code = code == 4 || code == 5 || code == 17 || code == 18 || code == 19 || code == 245 || code == 252 || code == 255

abbrev pub has_two_bytes : ℕ → Bool
has_two_bytes code = code == 15 || code == 16 || code == 246 || code == 253 || code == 254

abbrev pub meta_length_of : ℕ → Option ℕ
meta_length_of code =
    if has_no_meta code then Some 0
    else if has_one_byte code then Some 1
    else if has_two_bytes code then Some 2
    else None

-- metadata of one byte, or of two, that are these
abbrev pub is_byte : List ℕ → ℕ → Bool
is_byte meta a = length meta == 1 && slice_index meta 0 == a

abbrev pub are_bytes : List ℕ → ℕ → ℕ → Bool
are_bytes meta a b = length meta == 2 && slice_index meta 0 == a && slice_index meta 1 == b

-- one byte, the bytes of a length: 1 to 4
abbrev pub is_length_size : List ℕ → Bool
is_length_size meta = length meta == 1 && nat_le 1 (slice_index meta 0) && nat_le (slice_index meta 0) 4

-- The metadata is that of the kind. The greatest lengths that it tells aren't compared, but for binary.
abbrev pub fits_meta : ColumnKind → List ℕ → Bool
fits_meta (TinyInt unsigned) meta = length meta == 0
fits_meta (SmallInt unsigned) meta = length meta == 0
fits_meta (MediumInt unsigned) meta = length meta == 0
fits_meta (Int unsigned) meta = length meta == 0
fits_meta (BigInt unsigned) meta = length meta == 0
fits_meta Date meta = length meta == 0
fits_meta (VarChar n) meta = length meta == 2
fits_meta (VarBinary n) meta = length meta == 2
fits_meta (Timestamp p) meta = is_byte meta p
fits_meta (DateTime p) meta = is_byte meta p
fits_meta (Decimal p s) meta = are_bytes meta p s
fits_meta Text meta = is_length_size meta
fits_meta Blob meta = is_length_size meta
fits_meta (Char n) meta = length meta == 2 && slice_index meta 0 == 254
fits_meta (Binary n) meta = are_bytes meta 254 n

-- a column of this type and metadata is one of this kind
abbrev pub agreed : ColumnKind → ℕ → List ℕ → Bool
agreed kind code meta = code == code_of kind && fits_meta kind meta

-- A table can have such a column: fractions have at most 6 digits; decimals 1 to 65, at most 30 of them behind the point.
abbrev pub may_stand : ColumnKind → Bool
may_stand (Timestamp p) = nat_le p 6
may_stand (DateTime p) = nat_le p 6
may_stand (Decimal p s) = nat_le 1 p && nat_le p 65 && nat_le s 30 && nat_le s p
may_stand (TinyInt unsigned) = true
may_stand (SmallInt unsigned) = true
may_stand (MediumInt unsigned) = true
may_stand (Int unsigned) = true
may_stand (BigInt unsigned) = true
may_stand Date = true
may_stand (VarChar n) = true
may_stand (VarBinary n) = true
may_stand Text = true
may_stand Blob = true
may_stand (Char n) = true
may_stand (Binary n) = true
