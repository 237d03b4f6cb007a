-- Some bodies, and what they say.
use Rattle.std.proofs.Common.{◌≡◌, ℕ, true, false, List, [], ◌∷◌, ◌++◌, codes, refl}
use Rattle.std.specs.Prelude.{Some, None, Ok, Err}
use Rattle.std.specs.Fmt.{digits}
use Rattle.vs_base.specs.declared.cell.Cell.TheVariants.{Null, Bytes}
use Rattle.vs_base.specs.declared.table.ColumnKind.TheVariants as kind
use Rattle.vs_base.specs.declared.table.Column.{Column}
use Rattle.vs_base.specs.declared.table.Table.{Table}
use Rattle.vs_binlog.specs.Packed.{packed_in}
use Rattle.vs_columns.specs.Values.{value_of}
use Rattle.vs_schema.specs.declared.schema.Schema.{Schema}
use Rattle.vs_rows.specs.declared.refusal.RowRefusal.TheVariants.{BadBody, UnknownTableId, UnknownTable, Disagrees, NotFullImage, BadRow}
use Rattle.vs_rows.specs.declared.table.Mapped.TheVariants.{Passed, Counted, Journal}
use Rattle.vs_rows.specs.declared.outcome.RowsOf.TheVariants as rows
use Rattle.vs_rows.specs.Bits.{has_bit, all_set}
use Rattle.vs_rows.specs.Layouts.{name_at, map_body, extra_at, rows_body}
use Rattle.vs_rows.specs.Columns.{typed_column, typed_columns, row_columns}
use Rattle.vs_rows.specs.Tables.{Tables, map_meant, with_map}
use Rattle.vs_rows.specs.Rows.{cell_at, cells_at, image_at, change_at, changes_by, changes_in, are_full, changes_meant, rows_meant}

-- a schema text with the table t (id int, v varchar(20)), in which s is skipped
abbrev schema : Schema
schema = record {
  tables = record { name = codes "t"; columns = record { name = codes "id"; kind = kind.Int false } ∷ (record { name = codes "v"; kind = kind.VarChar 20 } ∷ []); key = 0 ∷ [] } ∷ [];
  skipped = codes "s" ∷ [];
}

-- a table map of number 7, a table of vt_c
abbrev mapped : List ℕ → List ℕ → List ℕ
mapped table columns = 7 ∷ 0 ∷ 0 ∷ 0 ∷ 0 ∷ 0 ∷ 1 ∷ 0 ∷ (4 ∷ codes "vt_c" ++ 0 ∷ (1 ∷ table ++ 0 ∷ columns))

-- an int, and a varchar of at most 20 bytes that may be NULL
abbrev two_columns : List ℕ
two_columns = 2 ∷ 3 ∷ 15 ∷ 2 ∷ 20 ∷ 0 ∷ 2 ∷ []

abbrev table_t : Tables
table_t = (7, Counted (record { name = codes "t"; columns = record { kind = kind.Int false; meta = []; null_is_empty = false } ∷ (record { kind = kind.VarChar 20; meta = 20 ∷ 0 ∷ []; null_is_empty = false } ∷ []) })) ∷ []

-- a rows event of two columns, of the table of this number
abbrev event : ℕ → List ℕ → List ℕ
event id rest = id ∷ 0 ∷ 0 ∷ 0 ∷ 0 ∷ 0 ∷ 1 ∷ 0 ∷ 2 ∷ 0 ∷ 2 ∷ rest

-- the inserts (5, 'a') and (6, NULL)
abbrev two_rows : List ℕ
two_rows = 3 ∷ 0 ∷ 5 ∷ 0 ∷ 0 ∷ 0 ∷ 1 ∷ 97 ∷ 2 ∷ 6 ∷ 0 ∷ 0 ∷ 0 ∷ []

a_map : with_map (codes "c") schema [] (mapped (codes "t") two_columns) ≡ Ok table_t
unfolding with_map map_meant map_body name_at packed_in typed_columns typed_column row_columns
a_map = refl

a_skipped_table : map_meant (codes "c") schema (mapped (codes "s") two_columns) ≡ Ok (7, Passed)
unfolding map_meant map_body name_at packed_in typed_columns typed_column
a_skipped_table = refl

a_table_of_another_keyspace : map_meant (codes "d") schema (mapped (codes "t") two_columns) ≡ Ok (7, Passed)
unfolding map_meant map_body name_at packed_in typed_columns typed_column
a_table_of_another_keyspace = refl

an_unknown_table : map_meant (codes "c") schema (mapped (codes "u") two_columns) ≡ Err (UnknownTable (codes "u"))
unfolding map_meant map_body name_at packed_in typed_columns typed_column
an_unknown_table = refl

other_columns : map_meant (codes "c") schema (mapped (codes "t") (2 ∷ 8 ∷ 15 ∷ 2 ∷ 20 ∷ 0 ∷ 2 ∷ [])) ≡ Err (Disagrees (codes "t"))
unfolding map_meant map_body name_at packed_in typed_columns typed_column row_columns
other_columns = refl

an_unknown_type : map_meant (codes "d") schema (mapped (codes "t") (1 ∷ 244 ∷ 0 ∷ 0 ∷ [])) ≡ Err BadBody
unfolding map_meant map_body name_at packed_in typed_columns typed_column
an_unknown_type = refl

inserts : rows_meant table_t 30 (event 7 two_rows)
    ≡ Ok (rows.Changes (record { table = codes "t"; before = None; after = Some (Bytes (codes "5") ∷ (Bytes (codes "a") ∷ [])) } ∷ (record { table = codes "t"; before = None; after = Some (Bytes (codes "6") ∷ (Null ∷ [])) } ∷ [])))
unfolding rows_meant rows_body extra_at packed_in changes_meant are_full all_set has_bit changes_in changes_by change_at image_at cells_at cell_at value_of digits
inserts = refl

-- the images of an update have null bits of their own
an_update : rows_meant table_t 31 (event 7 (3 ∷ 3 ∷ 2 ∷ 5 ∷ 0 ∷ 0 ∷ 0 ∷ 1 ∷ 1 ∷ 98 ∷ []))
    ≡ Ok (rows.Changes (record { table = codes "t"; before = Some (Bytes (codes "5") ∷ (Null ∷ [])); after = Some (Null ∷ (Bytes (codes "b") ∷ [])) } ∷ []))
unfolding rows_meant rows_body extra_at packed_in changes_meant are_full all_set has_bit changes_in changes_by change_at image_at cells_at cell_at value_of digits
an_update = refl

an_unknown_number : rows_meant table_t 30 (event 8 two_rows) ≡ Err (UnknownTableId 8)
unfolding rows_meant rows_body extra_at packed_in
an_unknown_number = refl

-- what lacks a column isn't full, whatever else is wrong
not_full : rows_meant table_t 30 (event 7 (1 ∷ 9 ∷ [])) ≡ Err (NotFullImage (codes "t"))
unfolding rows_meant rows_body extra_at packed_in changes_meant are_full all_set has_bit
not_full = refl

a_row_that_is_cut : rows_meant table_t 30 (event 7 (3 ∷ 0 ∷ 5 ∷ 0 ∷ 0 ∷ [])) ≡ Err (BadRow (codes "t"))
unfolding rows_meant rows_body extra_at packed_in changes_meant are_full all_set has_bit changes_in changes_by change_at image_at cells_at cell_at value_of digits
a_row_that_is_cut = refl

no_present_bits : rows_meant table_t 31 (event 8 (3 ∷ [])) ≡ Err BadBody
unfolding rows_meant rows_body extra_at packed_in
no_present_bits = refl
