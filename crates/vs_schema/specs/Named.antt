-- How the names of tables are kept for the look-up.
use Rattle.std.specs.Prelude.{◌≡◌, ℕ, List}
use Rattle.std.specs.List.{AllByRecursion, list_any}
use Rattle.std.specs.Ordering.{nat_cmp, is_eq}
use Rattle.std.specs.Cmp.Lexicographic.{slice_cmp}
use Rattle.vs_base.specs.declared.table.Table.{Table}
use Rattle.vs_schema.specs.Kinds.{same}

-- each table stands at its own name
abbrev pub AreNamed : List (List ℕ × Table) → Type 0
AreNamed entries = AllByRecursion (λ (e : List ℕ × Table). e.1.name ≡ e.0) entries

-- the same names are among both
abbrev pub AreTheSame : List (List ℕ) → List (List ℕ) → Type 0
AreTheSame sorted names = (name : List ℕ) → list_any (λ k. is_eq (slice_cmp nat_cmp name k)) sorted ≡ list_any (λ n. same n name) names
