use Rattle.std.proofs.Common.{◌≡◌, drop}
use Rattle.vs_tables.specs.Changes.{first_unfit, tables_after}
use Rattle.vs_tables.proofs.tables.take_changes.Given as goal

abbrev pub invariant-loop-change : goal.invariant-loop-change
invariant-loop-change l =
    (tables_after l.initial.tables.items l.changes ≡ tables_after l.tables.items (drop l.change-index l.changes))
    × (first_unfit l.initial.tables.items l.changes ≡ first_unfit l.tables.items (drop l.change-index l.changes))
