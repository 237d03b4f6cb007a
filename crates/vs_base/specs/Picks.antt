-- What a filter, bound to the schema of a shard, makes of the changes of that shard.
use Rattle.std.specs.Prelude.{ℕ, ◌||◌, List, Option, Some, None, is_some, if◌then◌else◌}
use Rattle.std.specs.Option.{option_and_then}
use Rattle.std.specs.declared.cmp.Ordering.{Ordering}
use Rattle.vs_base.specs.declared.cell.Cell.{Cell}
use Rattle.vs_base.specs.declared.change.Change.{Change}

-- a filter, bound to the schema of a shard
pub record Bound : Type 0 where
  -- a row of a table as the filter picks it: kept or not, and projected
  pub row : List ℕ → List Cell → Option (List Cell)
  -- the tables that are picked, ascending
  pub tables : List (List ℕ)
  -- the key of a row of a table, and the order of such keys
  pub key : List ℕ → List Cell → List Cell
  pub order : List ℕ → List Cell → List Cell → Ordering

-- a change with its images, or nothing where it has none
abbrev pub with_images : Change → Option Change
with_images c = if is_some c.before || is_some c.after then Some c else None

-- the change with each image picked by a function on rows
abbrev pub change_by : (List Cell → Option (List Cell)) → Change → Option Change
change_by row c = with_images (record c { before = option_and_then row c.before; after = option_and_then row c.after })

-- the change with each image picked
abbrev pub picked_change : Bound → Change → Option Change
picked_change bound c = change_by (bound.row c.table) c
