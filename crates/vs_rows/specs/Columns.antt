-- The columns of a table map: which they are, and whether they are those that a table has.
use Rattle.std.specs.Prelude.{ℕ, ◌==◌, Bool, true, false, if◌then◌else◌, List, [], ◌∷◌, length, map, Option, Some, None}
use Rattle.vs_base.specs.declared.table.ColumnKind.TheVariants as kind
use Rattle.vs_base.specs.declared.table.Column.{Column}
use Rattle.vs_columns.specs.Kinds.{agreed, meta_length_of}
use Rattle.vs_rows.specs.declared.columns.TypedColumn.{TypedColumn}
use Rattle.vs_rows.specs.declared.columns.WantedColumn.{WantedColumn}
use Rattle.vs_rows.specs.declared.columns.RowColumn.{RowColumn}
use Rattle.vs_rows.specs.Reading.{◌>>=◌}
use Rattle.vs_rows.specs.Layouts.{cut}

-- a type with its piece of the metadata, and what is left of it
unfoldable pub typed_column : ℕ → List ℕ → Option (TypedColumn × List ℕ)
typed_column code metadata = do
  size ← meta_length_of code
  meta ← cut size metadata
  Some (record { code = code; meta = meta.0 }, meta.1)

-- Each type with its own piece of the metadata, of as many bytes as the type has; the pieces are all of the metadata.
unfoldable pub typed_columns : List ℕ → List ℕ → Option (List TypedColumn)
typed_columns [] metadata = if length metadata == 0 then Some [] else None
typed_columns (code ∷ codes) metadata = do
  column ← typed_column code metadata
  others ← typed_columns codes column.1
  Some (column.0 ∷ others)

-- the columns of a table
abbrev pub wanted : Column → WantedColumn
wanted column = record { kind = column.kind; null_is_empty = false }

-- the columns of the journal table, id, db_name and val; a NULL val counts as the empty text
abbrev pub journal_columns : List WantedColumn
journal_columns =
    record { kind = kind.BigInt false; null_is_empty = false }
    ∷ (record { kind = kind.VarBinary 255; null_is_empty = false }
    ∷ (record { kind = kind.Blob; null_is_empty = true }
    ∷ []))

-- such a column, if the table map's agrees
abbrev pub row_column : WantedColumn → TypedColumn → Option RowColumn
row_column w t = if agreed w.kind t.code t.meta then Some (record { kind = w.kind; meta = t.meta; null_is_empty = w.null_is_empty }) else None

-- column by column, if there are as many
unfoldable pub row_columns : List WantedColumn → List TypedColumn → Option (List RowColumn)
row_columns [] [] = Some []
row_columns (w ∷ ws) (t ∷ ts) = do
  column ← row_column w t
  others ← row_columns ws ts
  Some (column ∷ others)
row_columns [] (t ∷ ts) = None
row_columns (w ∷ ws) [] = None
