-- What every schema that is read keeps to; and which line of a text is at fault.
use Rattle.std.specs.Prelude.{◌≡◌, ◌≤◌, ◌==◌, ℕ, ◌+◌, ◌-◌, Bool, true, ◌&&◌, not, List, [], ◌∷◌, length, take, Some}
use Rattle.std.specs.List.{AllByRecursion, list_all, list_any, slice_get}
use Rattle.std.specs.Ordering.{nat_cmp}
use Rattle.std.specs.Cmp.Lexicographic.{slice_cmp}
use Rattle.std.specs.declared.cmp.Ordering.TheVariants.{Less}
use Rattle.vs_base.specs.declared.table.Column.{Column}
use Rattle.vs_base.specs.declared.table.Table.{Table}
use Rattle.vs_schema.specs.declared.schema.Schema.{Schema}
use Rattle.vs_schema.specs.Rules.{Draft, by_line, closed, is_name, may_be_keyed, names_column, start}

-- each table stands, by the bytes of its name, before the next
abbrev pub Ascend : List Table → Type 0
Ascend [] = Unit {0}
Ascend (t ∷ []) = Unit {0}
Ascend (t ∷ u ∷ ts) = (slice_cmp nat_cmp t.name u.name ≡ Less) × Ascend (u ∷ ts)

-- no two of the items are alike
abbrev pub differ : {A : Type 0} → (A → A → Bool) → List A → Bool
differ alike [] = true
differ alike (x ∷ xs) = not (list_any (alike x) xs) && differ alike xs

abbrev pub same_column : Column → Column → Bool
same_column column other = names_column column.name other

abbrev pub same_place : ℕ → ℕ → Bool
same_place place other = other == place

-- the key's places are those of different columns, each of a kind that keys may have
pub record IsKey (columns : List Column) (key : List ℕ) : Type 0 where
  pub each : AllByRecursion (λ place. may_be_keyed (slice_get columns place) ≡ true) key
  pub once : differ same_place key ≡ true

-- a name of 1 to 64 bytes; at most 4,096 columns, with such names, of which no two are equal; a key of these columns
pub record IsSound (table : Table) : Type 0 where
  pub named : is_name table.name ≡ true
  pub few : length table.columns ≤ 4096
  pub names : list_all (λ column. is_name column.name) table.columns ≡ true
  pub once : differ same_column table.columns ≡ true
  pub key : IsKey table.columns table.key

pub record IsWhole (table : Table) : Type 0 where
  pub sound : IsSound table
  pub some : 1 ≤ length table.columns

pub record IsLawful (schema : Schema) : Type 0 where
  pub ascend : Ascend schema.tables
  pub whole : AllByRecursion IsWhole schema.tables

-- lines with which a schema text may begin, and what they say
abbrev pub BeginsSchema : Draft → List (List ℕ) → Draft → Type 0
BeginsSchema d [] after = d ≡ after
BeginsSchema d (line ∷ lines) after = (next : Draft) × (by_line d line ≡ Some next) × BeginsSchema next lines after

abbrev pub IsBeginning : List (List ℕ) → Type 0
IsBeginning lines = (after : Draft) × BeginsSchema start lines after

-- a whole schema text: its lines may stand so, and its last table has a column
pub record IsText (lines : List (List ℕ)) : Type 0 where
  pub after : Draft
  pub begins : BeginsSchema start lines after
  pub tables : List Table
  pub closed : closed after.tables after.current ≡ Some tables

-- The line at fault is the first with which the lines before it don't go on as a schema text; or the one behind the last line,
-- where all may stand so.
pub record IsFirstFault (lines : List (List ℕ)) (line : ℕ) : Type 0 where
  pub from_one : 1 ≤ line
  pub before : IsBeginning (take (line - 1) lines)
  pub within : line ≤ length lines + 1
  pub there : line ≤ length lines → IsBeginning (take line lines) → ⊥
  pub behind : IsText lines → ⊥
