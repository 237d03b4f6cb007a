-- The fields of a table map, and those of a rows event up to its rows (`Table_map_event` and `Rows_event` in MySQL's sources).
-- Numbers have the lowest byte first.
use Rattle.std.specs.Prelude.{ℕ, ◌-◌, ◌*◌, ◌==◌, nat_lt, if◌then◌else◌, List, length, take, drop, Option, Some, None}
use Rattle.byteorder.specs.Endian.{little_number}
use Rattle.vs_binlog.specs.Packed.{packed_in}
use Rattle.vs_rows.specs.declared.kind.RowsKind.{RowsKind}
use Rattle.vs_rows.specs.declared.kind.RowsKind.TheVariants.{Insert, Update, Delete}
use Rattle.vs_rows.specs.Reading.{◌>>=◌}
use Rattle.vs_rows.specs.Bits.{bit_bytes}

-- A field is read with what stands behind it. So many bytes:
abbrev pub cut : ℕ → List ℕ → Option (List ℕ × List ℕ)
cut n bytes = if nat_lt (length bytes) n then None else Some (take n bytes, drop n bytes)

-- a number of so many bytes
abbrev pub number_at : ℕ → List ℕ → Option (ℕ × List ℕ)
number_at n bytes = if nat_lt (length bytes) n then None else Some (little_number n bytes, drop n bytes)

-- a packed number
abbrev pub packed_at : List ℕ → Option (ℕ × List ℕ)
packed_at bytes = do
  read ← packed_in bytes
  Some (read.0, drop read.1 bytes)

-- a name: a byte that is its length, its bytes, a zero byte
unfoldable pub name_at : List ℕ → Option (List ℕ × List ℕ)
name_at bytes = do
  size ← number_at 1 bytes
  name ← cut size.0 size.1
  end ← number_at 1 name.1
  if end.0 == 0 then Some (name.0, end.1) else None

-- what a table map says: the number of the table, its names, the types of its columns, the metadata of all columns
pub record MapSaid : Type 0 where
  pub id : ℕ
  pub schema : List ℕ
  pub table : List ℕ
  pub types : List ℕ
  pub metadata : List ℕ

-- A table map: 6 bytes of the table's number, 2 of flags, the names of the schema and of the table, the number of columns,
-- a byte of the type of each, the length of the metadata, the metadata, a bit for each column that may be NULL. What follows
-- isn't read.
unfoldable pub map_body : List ℕ → Option MapSaid
map_body body = do
  id ← number_at 6 body
  flags ← cut 2 id.1
  schema ← name_at flags.1
  table ← name_at schema.1
  count ← packed_at table.1
  types ← cut count.0 count.1
  size ← packed_at types.1
  metadata ← cut size.0 size.1
  nullable ← cut (bit_bytes count.0) metadata.1
  Some (record { id = id.0; schema = schema.0; table = table.0; types = types.0; metadata = metadata.0 })

-- what a rows event says: the number of the table, the number of columns, which columns its images have, its rows
pub record RowsSaid : Type 0 where
  pub id : ℕ
  pub width : ℕ
  pub present : List ℕ
  pub rows : List ℕ

-- bytes whose length stands in front of them, in two bytes that it counts too
unfoldable pub extra_at : List ℕ → Option (List ℕ × List ℕ)
extra_at bytes = do
  size ← number_at 2 bytes
  if nat_lt size.0 2 then None else cut (size.0 - 2) size.1

-- the images of a row: an insert has one of after, a delete one of before, an update both, before first
abbrev pub images : RowsKind → ℕ
images Insert = 1
images Update = 2
images Delete = 1

-- A rows event of version 2: 6 bytes of the table's number, 2 of flags, extra bytes, the number of columns, and for each image
-- a bit for each column that it has; then the rows.
unfoldable pub rows_body : RowsKind → List ℕ → Option RowsSaid
rows_body kind body = do
  id ← number_at 6 body
  flags ← cut 2 id.1
  extra ← extra_at flags.1
  width ← packed_at extra.1
  present ← cut (images kind * bit_bytes width.0) width.1
  Some (record { id = id.0; width = width.0; present = present.0; rows = present.1 })
