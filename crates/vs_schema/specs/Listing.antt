-- What a schema says of a name.
use Rattle.std.specs.Prelude.{◌≡◌, ℕ, true, false, List, Some, None}
use Rattle.std.specs.List.{find, list_any}
use Rattle.vs_schema.specs.declared.schema.Listed.{Listed}
use Rattle.vs_schema.specs.declared.schema.Listed.TheVariants.{Known, Skipped, Absent}
use Rattle.vs_schema.specs.declared.schema.Schema.{Schema}
use Rattle.vs_schema.specs.Kinds.{same}
use Rattle.vs_schema.specs.Rules.{names_table}

-- the table of the name, or that it is skipped, or that it is neither
abbrev pub Lists : Schema → List ℕ → Listed → Type 0
Lists s name (Known table) = find (names_table name) s.tables ≡ Some table.now
Lists s name Skipped = (find (names_table name) s.tables ≡ None) × (list_any (λ skipped. same skipped name) s.skipped ≡ true)
Lists s name Absent = (find (names_table name) s.tables ≡ None) × (list_any (λ skipped. same skipped name) s.skipped ≡ false)
