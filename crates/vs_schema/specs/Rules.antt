-- What each line of a schema text does, where it may stand; and which line is at fault.
use Rattle.std.specs.Prelude.{ℕ, ◌+◌, ◌==◌, Bool, true, false, ◌&&◌, ◌||◌, not, nat_eq, nat_le, nat_lt, if◌then◌else◌, List, [], ◌∷◌, ◌++◌, length, Option, Some, None, Result, Ok, Err}
use Rattle.std.specs.List.{filter, list_any, position, slice_get}
use Rattle.std.specs.Ordering.{nat_cmp, is_gt, is_lt}
use Rattle.std.specs.Cmp.Lexicographic.{slice_cmp}
use Rattle.vs_base.specs.declared.table.ColumnKind.{ColumnKind}
use Rattle.vs_base.specs.declared.table.ColumnKind.TheVariants as kind
use Rattle.vs_base.specs.declared.table.Column.{Column}
use Rattle.vs_base.specs.declared.table.Table.{Table}
use Rattle.vs_schema.specs.declared.schema.Schema.{Schema}
use Rattle.vs_schema.specs.declared.refusal.SchemaRefusal.{SchemaRefusal}
use Rattle.vs_schema.specs.declared.refusal.SchemaRefusal.TheVariants.{BadSchema}
use Rattle.vs_schema.specs.Words.{word_table, word_column, word_key, word_skip}
use Rattle.vs_schema.specs.Lines.{is_empty, lines_of, words_of, sole}
use Rattle.vs_schema.specs.Kinds.{kind_of, same}

-- what the lines so far have said: the tables that are whole, ascending by name; the names of those that are skipped; and the
-- table to which columns and a key still come
pub record Draft : Type 0 where
  pub tables : List Table
  pub skipped : List (List ℕ)
  pub current : Option Table

abbrev pub start : Draft
start = record { tables = []; skipped = []; current = None }

abbrev pub is_name : List ℕ → Bool
is_name name = nat_le 1 (length name) && nat_le (length name) 64

abbrev pub names_table : List ℕ → Table → Bool
names_table name table = same table.name name

abbrev pub names_column : List ℕ → Column → Bool
names_column name column = same column.name name

abbrev pub opens : List ℕ → Option Table → Bool
opens name None = false
opens name (Some table) = names_table name table

-- a line before has named a table so
abbrev pub is_taken : Draft → List ℕ → Bool
is_taken d name = list_any (names_table name) d.tables || (list_any (λ skipped. same skipped name) d.skipped || opens name d.current)

-- the table stands, by the bytes of its name, before the name
abbrev pub stands_before : List ℕ → Table → Bool
stands_before name table = is_lt (slice_cmp nat_cmp table.name name)

-- the same, behind it
abbrev pub stands_behind : List ℕ → Table → Bool
stands_behind name table = is_gt (slice_cmp nat_cmp table.name name)

-- the tables with one more: those before it by name, itself, and those behind it
abbrev pub with_table : List Table → Table → List Table
with_table tables table = filter (stands_before table.name) tables ++ table ∷ filter (stands_behind table.name) tables

-- the tables with the open one, which has a column
abbrev pub closed : List Table → Option Table → Option (List Table)
closed tables None = Some tables
closed tables (Some table) = if nat_eq (length table.columns) 0 then None else Some (with_table tables table)

abbrev pub opened : Draft → List ℕ → Option (List Table) → Option Draft
opened d name None = None
opened d name (Some tables) = Some (record { tables = tables; skipped = d.skipped; current = Some (record { name = name; columns = []; key = [] }) })

-- `table NAME`
unfoldable pub with_begun : Draft → List ℕ → Option Draft
with_begun d name = if is_name name && not (is_taken d name) then opened d name (closed d.tables d.current) else None

-- `skip NAME`
unfoldable pub with_skipped : Draft → List ℕ → Option Draft
with_skipped d name = if is_name name && not (is_taken d name) then Some (record d { skipped = d.skipped ++ name ∷ [] }) else None

abbrev pub may_come : List ℕ → List Column → Bool
may_come name columns = is_name name && (not (list_any (names_column name) columns) && nat_lt (length columns) 4096)

abbrev pub with_kind : Table → List ℕ → Option ColumnKind → Option Table
with_kind table name None = None
with_kind table name (Some kind) = if may_come name table.columns then Some (record table { columns = table.columns ++ record { name = name; kind = kind } ∷ [] }) else None

-- `column NAME KIND`, to the table
unfoldable pub with_column : Table → List (List ℕ) → Option Table
with_column table [] = None
with_column table (name ∷ words) = with_kind table name (kind_of words)

-- a column of this kind may stand in a key
abbrev pub may_be_key : ColumnKind → Bool
may_be_key (kind.Decimal precision scale) = false
may_be_key kind.Text = false
may_be_key kind.Blob = false
may_be_key k = true

abbrev pub may_be_keyed : Option Column → Bool
may_be_keyed None = false
may_be_keyed (Some column) = may_be_key column.kind

-- the place of a column that may follow such a key
abbrev pub new_place : List Column → List ℕ → Option ℕ → Option ℕ
new_place columns key None = None
new_place columns key (Some place) = if may_be_keyed (slice_get columns place) && not (list_any (λ other. other == place) key) then Some place else None

-- the same, by the column's name
unfoldable pub key_place : List Column → List ℕ → List ℕ → Option ℕ
key_place columns key name = new_place columns key (position (names_column name) columns)

-- the key with the columns of these names
unfoldable pub key_with : List Column → List ℕ → List (List ℕ) → Option (List ℕ)
key_with columns key [] = Some key
key_with columns key (name ∷ names) = elim (key_place columns key name) [ None ↦ None | Some place ↦ key_with columns (key ++ place ∷ []) names ]

abbrev pub keyed : Table → Option (List ℕ) → Option Table
keyed table None = None
keyed table (Some key) = Some (record table { key = key })

-- `key NAME NAME ..`, to the table; once
unfoldable pub with_key : Table → List (List ℕ) → Option Table
with_key table names = if nat_eq (length table.key) 0 then keyed table (key_with table.columns [] names) else None

-- the draft with another open table
abbrev pub reopened : Draft → Option Table → Option Draft
reopened d None = None
reopened d (Some table) = Some (record d { current = Some table })

abbrev pub in_open : (Table → Option Table) → Draft → Option Table → Option Draft
in_open f d None = None
in_open f d (Some table) = reopened d (f table)

abbrev pub by_name : (List ℕ → Option Draft) → Option (List ℕ) → Option Draft
by_name f None = None
by_name f (Some name) = f name

-- what a word does with those behind it
unfoldable pub by_verb : Draft → List ℕ → List (List ℕ) → Option Draft
by_verb d verb words =
    if same verb word_table then by_name (with_begun d) (sole words)
    else if same verb word_column then in_open (λ table. with_column table words) d d.current
    else if same verb word_key then in_open (λ table. with_key table words) d d.current
    else if same verb word_skip then by_name (with_skipped d) (sole words)
    else None

-- what the words of a line do; one alone does nothing
unfoldable pub by_words : Draft → List (List ℕ) → Option Draft
by_words d [] = None
by_words d (verb ∷ words) = if is_empty words then None else by_verb d verb words

-- what a line does; one that is empty or begins with `#` does nothing
unfoldable pub by_line : Draft → List ℕ → Option Draft
by_line d [] = Some d
by_line d (c ∷ cs) = if c == 35 then Some d else by_words d (words_of (c ∷ cs))

-- the schema of a whole text; the open table at its end must have a column
abbrev pub finished : ℕ → Draft → Option (List Table) → Result Schema SchemaRefusal
finished number d None = Err (BadSchema number)
finished number d (Some tables) = Ok (record { tables = tables; skipped = d.skipped })

-- what lines come to, of which the first has this number, or which of them is at fault
unfoldable pub by_lines : ℕ → Draft → List (List ℕ) → Result Schema SchemaRefusal
by_lines number d [] = finished number d (closed d.tables d.current)
by_lines number d (line ∷ lines) = elim (by_line d line) [ None ↦ Err (BadSchema number) | Some next ↦ by_lines (number + 1) next lines ]

-- the schema of a text, or its first line at fault
abbrev pub schema_of : List ℕ → Result Schema SchemaRefusal
schema_of text = by_lines 1 start (lines_of text)
