-- A copy, and the laws on streams.
use Rattle.std.specs.Prelude.{◌≡◌, List, Option, None, map}
use Rattle.std.specs.Ordering.{nat_cmp}
use Rattle.std.specs.Cmp.Lexicographic.{slice_cmp}
use Rattle.vs_base.specs.declared.change.Change.{Change}
use Rattle.vs_base.specs.declared.change.LastKey.{LastKey}
use Rattle.vs_base.specs.declared.table.Table.{Table}
use Rattle.vs_base.specs.Picks.{picked_change}
use Rattle.std.specs.List.{AllByRecursion}
use Rattle.vs_schema.specs.Laws.{IsWhole}
use Rattle.vs_filter.specs.Picks.{bound_in}
use Rattle.vs_filter.specs.Keys.{told_key}
use Rattle.vs_filter.specs.declared.bound.Picked.{Picked}
use Rattle.vs_model.specs.Copy.{change_within, next_rows}
use Rattle.vs_model.specs.Copies.{AreAscending, IsOrdered, KeepsKeys}
use Rattle.vs_copy.specs.Copying.{CopyState, HasApplied, copied_bound, copied_of, keyless_in}
use Rattle.vs_copy.specs.Runs.{ClientHas, CopyTurn, HasRun, ImagesAreRows, all_applied}

-- a copy tells what the filter that it was made of tells
pub record IsAsBound (schema : List Table) (picked : List Picked) : Type 0 where
  pub within : (l : LastKey) (c : Change) →
      picked_change (copied_bound (copied_of schema picked)) (change_within (copied_bound (copied_of schema picked)) l c)
      ≡ picked_change (bound_in picked schema) (change_within (bound_in picked schema) l c)
  pub next : (changes : List Change) (l : Option LastKey) →
      next_rows (copied_bound (copied_of schema picked)) changes l ≡ next_rows (bound_in picked schema) changes l

abbrev pub TellsAsBound : Type 0
TellsAsBound = (schema : List Table) (picked : List Picked) → keyless_in schema picked ≡ None → IsAsBound schema picked

-- A client can tell the key of each row that it is told; and where the picked tables ascend, its rows are in one order.
pub record TellsKeys (schema : List Table) (picked : List Picked) : Type 0 where
  pub keeps : KeepsKeys (bound_in picked schema) (told_key picked schema)
  pub ordered : AreAscending (slice_cmp nat_cmp) (map (λ (p : Picked). p.name) picked) → IsOrdered (bound_in picked schema)

abbrev pub KeysAreTold : Type 0
KeysAreTold = (schema : List Table) (picked : List Picked) → keyless_in schema picked ≡ None → TellsKeys schema picked

-- A client that applies in order to empty tables all that a copy tells has what it is to have after each turn.
abbrev pub ClientHasCopy : Type 0
ClientHasCopy = (schema : List Table) (picked : List Picked) (turns : List CopyTurn) (s : CopyState) → AllByRecursion IsWhole schema →
    keyless_in schema picked ≡ None → AreAscending (slice_cmp nat_cmp) (map (λ (p : Picked). p.name) picked) →
    s.copied ≡ copied_of schema picked → HasRun turns s → ImagesAreRows (bound_in picked schema) (all_applied turns) →
    ClientHas (bound_in picked schema) (told_key picked schema) turns s.last

-- A copy that is resumed behind the last row of an earlier one, and has applied what that one had, goes on as that one would have.
abbrev pub GoesOn : Type 0
GoesOn = (turns : List CopyTurn) (s t : CopyState) → HasRun turns s → t.copied ≡ s.copied → t.last ≡ s.last →
    HasApplied t (all_applied turns) → HasRun turns t
