-- What bodies and rows are made of, as wholes: the pieces of their bytes, one behind the other.
use Rattle.std.specs.Prelude.{◌≡◌, ◌≤◌, ℕ, ◌+◌, ◌*◌, Bool, true, false, List, [], ◌∷◌, ◌++◌, length, map, Option, Some, None, Ok}
use Rattle.std.specs.List.{AllByRecursion, flat_map}
use Rattle.byteorder.specs.Endian.{little_number}
use Rattle.vs_base.specs.declared.cell.Cell.{Cell}
use Rattle.vs_base.specs.declared.cell.Cell.TheVariants.{Bytes}
use Rattle.vs_base.specs.declared.change.Change.{Change}
use Rattle.vs_binlog.specs.Packed.{packed_in}
use Rattle.vs_columns.specs.Kinds.{meta_length_of}
use Rattle.vs_columns.specs.Values.{value_of}
use Rattle.vs_rows.specs.declared.kind.RowsKind.{RowsKind}
use Rattle.vs_rows.specs.declared.kind.RowsKind.TheVariants.{Insert, Update, Delete}
use Rattle.vs_rows.specs.declared.columns.TypedColumn.{TypedColumn}
use Rattle.vs_rows.specs.declared.columns.RowColumn.{RowColumn}
use Rattle.vs_rows.specs.declared.table.RowTable.{RowTable}
use Rattle.vs_rows.specs.Bits.{bit_bytes, has_bit}
use Rattle.vs_rows.specs.Layouts.{MapSaid, RowsSaid, images}
use Rattle.vs_rows.specs.Rows.{null_cell}

-- the bytes are a number of so many bytes, the lowest first
abbrev pub IsNumber : ℕ → List ℕ → ℕ → Type 0
IsNumber n bytes x = (length bytes ≡ n) × (little_number n bytes ≡ x)

-- a packed number
abbrev pub IsPacked : List ℕ → ℕ → Type 0
IsPacked bytes x = packed_in bytes ≡ Some (x, length bytes)

-- a name, behind its length and before a zero byte
pub record IsName (bytes name : List ℕ) : Type 0 where
  pub size : List ℕ
  pub end : List ℕ
  pub are : bytes ≡ size ++ (name ++ end)
  pub is_size : IsNumber 1 size (length name)
  pub is_end : IsNumber 1 end 0

-- bytes behind their length, which counts its own two bytes
pub record IsExtra (bytes : List ℕ) : Type 0 where
  pub size : List ℕ
  pub extra : List ℕ
  pub are : bytes ≡ size ++ extra
  pub is_size : IsNumber 2 size (2 + length extra)

-- the body of a table map
pub record IsTableMap (body : List ℕ) (said : MapSaid) : Type 0 where
  pub id : List ℕ
  pub flags : List ℕ
  pub schema : List ℕ
  pub table : List ℕ
  pub count : List ℕ
  pub size : List ℕ
  pub nullable : List ℕ
  pub rest : List ℕ
  pub are : body ≡ id ++ (flags ++ (schema ++ (table ++ (count ++ (said.types ++ (size ++ (said.metadata ++ (nullable ++ rest))))))))
  pub is_id : IsNumber 6 id said.id
  pub two_flags : length flags ≡ 2
  pub is_schema : IsName schema said.schema
  pub is_table : IsName table said.table
  pub is_count : IsPacked count (length said.types)
  pub is_size : IsPacked size (length said.metadata)
  pub bits : length nullable ≡ bit_bytes (length said.types)

-- the body of a rows event
pub record IsRowsEvent (kind : RowsKind) (body : List ℕ) (said : RowsSaid) : Type 0 where
  pub id : List ℕ
  pub flags : List ℕ
  pub extra : List ℕ
  pub width : List ℕ
  pub are : body ≡ id ++ (flags ++ (extra ++ (width ++ (said.present ++ said.rows))))
  pub is_id : IsNumber 6 id said.id
  pub two_flags : length flags ≡ 2
  pub is_extra : IsExtra extra
  pub is_width : IsPacked width said.width
  pub bits : length said.present ≡ images kind * bit_bytes said.width

-- The columns have these types, and their metadata, one behind the other, is all of it; each has as much as its type has.
pub record AreTyped (types metadata : List ℕ) (columns : List TypedColumn) : Type 0 where
  pub types_are : map (λ column. column.code) columns ≡ types
  pub metadata_are : flat_map (λ column. column.meta) columns ≡ metadata
  pub each : AllByRecursion (λ column. meta_length_of column.code ≡ Some (length column.meta)) columns

-- the bytes are those of a cell: none where its null bit is 1, else those of a value
abbrev pub IsCell : Bool → RowColumn → List ℕ → Cell → Type 0
IsCell true column bytes cell = (bytes ≡ []) × (cell ≡ null_cell column)
IsCell false column bytes cell = (text : List ℕ) × (value_of column.kind column.meta bytes ≡ Ok (text, length bytes)) × (cell ≡ Bytes text)

-- the bytes are those of cells, one behind the other; the first column has this place
abbrev pub AreCells : ℕ → List ℕ → List RowColumn → List ℕ → List Cell → Type 0
AreCells place nulls [] bytes [] = bytes ≡ []
AreCells place nulls (column ∷ columns) bytes (cell ∷ cells) =
    (own : List ℕ) × (rest : List ℕ) × (bytes ≡ own ++ rest) × IsCell (has_bit nulls place) column own cell × AreCells (place + 1) nulls columns rest cells
AreCells place nulls [] bytes (cell ∷ cells) = ⊥
AreCells place nulls (column ∷ columns) bytes [] = ⊥

-- the bytes are those of an image: null bits, and the cells
pub record IsImage (columns : List RowColumn) (bytes : List ℕ) (cells : List Cell) : Type 0 where
  pub nulls : List ℕ
  pub values : List ℕ
  pub are : bytes ≡ nulls ++ values
  pub bits : length nulls ≡ bit_bytes (length columns)
  pub cells_are : AreCells 0 nulls columns values cells

-- the bytes are those of a row of the table
abbrev pub IsRowOf : RowsKind → RowTable → List ℕ → Option (List Cell) → Option (List Cell) → Type 0
IsRowOf Insert table bytes None (Some after) = IsImage table.columns bytes after
IsRowOf Delete table bytes (Some before) None = IsImage table.columns bytes before
IsRowOf Update table bytes (Some before) (Some after) =
    (first : List ℕ) × (second : List ℕ) × (bytes ≡ first ++ second) × IsImage table.columns first before × IsImage table.columns second after
IsRowOf kind table bytes before after = ⊥

abbrev pub IsRow : RowsKind → RowTable → List ℕ → Change → Type 0
IsRow kind table bytes change = (change.table ≡ table.name) × IsRowOf kind table bytes change.before change.after

-- the bytes are those of rows, one behind the other, each of some bytes
abbrev pub AreRows : RowsKind → RowTable → List ℕ → List Change → Type 0
AreRows kind table bytes [] = bytes ≡ []
AreRows kind table bytes (change ∷ changes) =
    (own : List ℕ) × (rest : List ℕ) × (bytes ≡ own ++ rest) × (1 ≤ length own) × IsRow kind table own change × AreRows kind table rest changes
