-- Whole runs of a copy, and what a client has that applies all that it is told.
use Rattle.std.specs.Prelude.{◌≡◌, ℕ, List, [], ◌∷◌, ◌++◌, map, Option, Some, None, IfSome, fold, if◌then◌else◌}
use Rattle.std.specs.List.{Contains, filter_map, flat_map}
use Rattle.vs_base.specs.declared.cell.Cell.{Cell}
use Rattle.vs_base.specs.declared.change.Change.{Change}
use Rattle.vs_base.specs.declared.change.LastKey.{LastKey}
use Rattle.vs_base.specs.Picks.{Bound}
use Rattle.vs_model.specs.Copy.{is_after, next_rows, row_at}
use Rattle.vs_model.specs.Copies.{client_after, picked_row_at}
use Rattle.vs_tables.specs.Changes.{first_unfit}
use Rattle.vs_copy.specs.Chunks.{HasNext, state_after}
use Rattle.vs_copy.specs.Copying.{CopyState, HasApplied, copied_bound, told_within}
use Rattle.vs_copy.specs.declared.chunk.ChunkRows.{ChunkRows}

-- what a copy does at a time: it applies changes, and tells something of them; or it sends rows
pub data CopyTurn : Type 0 where
  Applies : (changes told : List Change) → CopyTurn
  Sends : (chunk : ChunkRows) → CopyTurn

abbrev pub applied_in : CopyTurn → List Change
applied_in (Applies changes told) = changes
applied_in (Sends chunk) = []

-- the changes that the client is told: the rows of a chunk come into the table
abbrev pub told_in : CopyTurn → List Change
told_in (Applies changes told) = told
told_in (Sends chunk) = map (λ row. record { table = chunk.table; before = None; after = Some row }) chunk.rows

abbrev pub all_applied : List CopyTurn → List Change
all_applied turns = flat_map applied_in turns

abbrev pub all_told : List CopyTurn → List Change
all_told turns = flat_map told_in turns

-- what is told of changes that are applied: of each what lies within the rows that were sent
abbrev pub applies : CopyState → List Change → CopyTurn
applies s changes = CopyTurn.Applies changes (filter_map (told_within s) changes)

-- changes are applied, and none is refused
pub record IsApplied (turns : List CopyTurn) (old : CopyState) (changes : List Change) (new : CopyState) : Type 0 where
  pub fit : first_unfit old.applied.tables changes ≡ None
  pub applied : HasApplied new (all_applied turns ++ changes)
  pub copied : new.copied ≡ old.copied
  pub last : new.last ≡ old.last

-- a copy that began with no row sent has come to a state by these turns
pub data HasRun : List CopyTurn → CopyState → Type 0 where
  begins : {s : CopyState} → HasApplied s [] → s.last ≡ None → HasRun [] s
  applies_more : {turns : List CopyTurn} {old new : CopyState} (changes : List Change) → HasRun turns old → IsApplied turns old changes new →
      HasRun (turns ++ applies old changes ∷ []) new
  sends_more : {turns : List CopyTurn} {old : CopyState} (chunk : ChunkRows) → HasRun turns old →
      HasNext (next_rows (copied_bound old.copied) (all_applied turns) old.last) chunk →
      HasRun (turns ++ CopyTurn.Sends chunk ∷ []) (state_after old (Some chunk))

-- The before image of each change of a picked table is the row at its key, where there is one.
abbrev pub ImagesAreRows : Bound → List Change → Type 0
ImagesAreRows bound changes = (before behind : List Change) (c : Change) → changes ≡ before ++ c ∷ behind → Contains bound.tables c.table →
    IfSome c.before (λ row. IfSome (row_at bound before c.table (bound.key c.table row)) (λ there. there ≡ row))

-- the row at a key, of a client that applies in order to empty tables what it is told
abbrev pub client_row : Bound → (List ℕ → List Cell → List Cell) → List Change → List ℕ → List Cell → Option (List Cell)
client_row bound told_key told table key = fold (client_after bound told_key table key) None told

-- The client has the picked rows up to the last row that was sent, and no others; where no row is left it has all of them.
pub record ClientHas (bound : Bound) (told_key : List ℕ → List Cell → List Cell) (turns : List CopyTurn) (last : Option LastKey) : Type 0 where
  pub up_to_last : (table : List ℕ) (key : List Cell) → Contains bound.tables table →
      client_row bound told_key (all_told turns) table key
      ≡ if is_after bound last table key then None else picked_row_at bound (all_applied turns) table key
  pub at_end : next_rows bound (all_applied turns) last ≡ None → (table : List ℕ) (key : List Cell) → Contains bound.tables table →
      client_row bound told_key (all_told turns) table key ≡ picked_row_at bound (all_applied turns) table key
