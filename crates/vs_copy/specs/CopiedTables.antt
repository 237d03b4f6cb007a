-- What holds of each copied table.
use Rattle.std.specs.Prelude.{◌≡◌, ◌≤◌, true, List, length}
use Rattle.std.specs.List.{AllByRecursion}
use Rattle.vs_base.specs.Keys.{key_kinds}
use Rattle.vs_tables.specs.Changes.{has_key}
use Rattle.vs_copy.specs.declared.copied.CopiedTable.{CopiedTable}

-- It is picked under its own name, of at most 64 bytes; and it has a key, whose places are those of columns.
pub record IsKeyed (t : CopiedTable) : Type 0 where
  pub named : t.picked.name ≡ t.table.name
  pub short : length t.table.name ≤ 64
  pub keyed : has_key t.table ≡ true
  pub kinds : t.kinds ≡ key_kinds t.table
  pub whole : length (key_kinds t.table) ≡ length t.table.key

abbrev pub AreKeyed : List CopiedTable → Type 0
AreKeyed tables = AllByRecursion IsKeyed tables
