-- A copy of picked tables: what is copied, and what is told of it.
use Rattle.std.specs.Prelude.{◌≡◌, ℕ, ◌==◌, Bool, true, false, not, ◌&&◌, nat_eq, nat_le, List, [], map, length, Option, Some, None, if◌then◌else◌}
use Rattle.std.specs.List.{filter_map, find, list_all, list_any}
use Rattle.std.specs.Option.{option_and_then, option_map, option_map_or}
use Rattle.std.specs.Ordering.{is_gt, nat_cmp}
use Rattle.std.specs.Cmp.Lexicographic.{pointwise, slice_cmp}
use Rattle.std.specs.declared.cmp.Ordering.{Ordering}
use Rattle.std.specs.declared.cmp.Ordering.TheVariants.{Less, Equal, Greater}
use Rattle.vs_base.specs.declared.cell.Cell.{Cell}
use Rattle.vs_base.specs.declared.change.Change.{Change}
use Rattle.vs_base.specs.declared.change.LastKey.{LastKey}
use Rattle.vs_base.specs.declared.table.Table.{Table}
use Rattle.vs_base.specs.Keys.{key_kinds, key_order, project}
use Rattle.vs_base.specs.Picks.{Bound, picked_change}
use Rattle.vs_select.specs.Rows.{taken_row}
use Rattle.vs_filter.specs.Rules.{table_in}
use Rattle.vs_filter.specs.declared.bound.Picked.{Picked}
use Rattle.vs_model.specs.Copy.{change_within}
use Rattle.vs_tables.specs.Changes.{Applied, keyed_tables, tables_after}
use Rattle.vs_copy.specs.LastKeys.{are_key_cells}
use Rattle.vs_copy.specs.declared.copied.CopiedTable.{CopiedTable}

abbrev pub copied_in : List CopiedTable → List ℕ → Option CopiedTable
copied_in tables name = find (λ t. pointwise nat_eq t.picked.name name) tables

-- a picked table with its key, where the schema has it
abbrev pub copied_as : List Table → Picked → Option CopiedTable
copied_as schema p = option_map (λ t. record { picked = p; table = t; kinds = key_kinds t }) (table_in schema p.name)

abbrev pub copied_of : List Table → List Picked → List CopiedTable
copied_of schema picked = filter_map (copied_as schema) picked

-- a table has a key, and each column of it is taken
abbrev pub is_key_kept : List ℕ → List ℕ → Bool
is_key_kept columns key = nat_le 1 (length key) && list_all (λ place. list_any (λ column. column == place) columns) key

abbrev pub has_kept_key : List Table → Picked → Bool
has_kept_key schema p = option_map_or (λ t. is_key_kept p.select.columns t.key) (table_in schema p.name) false

-- the first picked table that lacks it
abbrev pub keyless_in : List Table → List Picked → Option Picked
keyless_in schema picked = find (λ p. not (has_kept_key schema p)) picked

-- the copied tables, as the definitions of a stream have them
abbrev pub copied_bound : List CopiedTable → Bound
copied_bound tables = record {
  row = λ name row. option_and_then (λ t. taken_row t.picked.select row) (copied_in tables name);
  tables = map (λ t. t.picked.name) tables;
  key = λ name row. option_map_or (λ t. project t.table.key row) (copied_in tables name) [];
  order = λ name a b. key_order (option_map_or (λ t. t.kinds) (copied_in tables name) []) a b;
}

-- a last key is one of a copied table
abbrev pub fits_copy : List CopiedTable → LastKey → Bool
fits_copy tables l = option_map_or (λ t. are_key_cells t.kinds l.key) (copied_in tables l.table) false

-- how far a copy has come: the rows, and the last row that was sent
pub record CopyState : Type 0 where
  pub applied : Applied
  pub copied : List CopiedTable
  pub last : Option LastKey

-- these changes were applied, and none was refused
abbrev pub HasApplied : CopyState → List Change → Type 0
HasApplied s changes = s.applied ≡ record { tables = tables_after (keyed_tables (map (λ t. t.table) s.copied)) changes; refused = None }

-- a change within the rows that were sent, picked; nothing before the first were
abbrev pub told_within : CopyState → Change → Option Change
told_within s c = option_and_then (λ l. picked_change (copied_bound s.copied) (change_within (copied_bound s.copied) l c)) s.last

-- ---- the same by the table's own entry

abbrev pub is_row_after_in : CopiedTable → LastKey → List Cell → Ordering → Bool
is_row_after_in t l row Less = false
is_row_after_in t l row Equal = is_gt (key_order t.kinds (project t.table.key row) l.key)
is_row_after_in t l row Greater = true

-- a row of the table of this name comes after the last row that was sent
abbrev pub is_row_after : CopiedTable → List ℕ → LastKey → List Cell → Bool
is_row_after t name l row = is_row_after_in t l row (slice_cmp nat_cmp name l.table)

-- what is told of an image
abbrev pub image_told : CopiedTable → List ℕ → LastKey → Option (List Cell) → Option (List Cell)
image_told t name l None = None
image_told t name l (Some row) = if not (is_row_after t name l row) then taken_row t.picked.select row else None
