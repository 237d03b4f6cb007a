-- What a client has that applies the frames of a copy, by the keys of the rows that it was told.
use Rattle.std.specs.Prelude.{◌≡◌, ℕ, Bool, true, false, not, List, [], ◌∷◌, ◌++◌, map, Option, Some, None, IfSome, if◌then◌else◌}
use Rattle.std.specs.List.{flat_map, fold, AllByRecursion, Contains}
use Rattle.std.specs.Option.{option_map_or, option_and_then}
use Rattle.std.specs.Ordering.{nat_cmp, is_eq}
use Rattle.std.specs.Cmp.{IsTotalOrder}
use Rattle.std.specs.Cmp.Lexicographic.{slice_cmp}
use Rattle.std.specs.declared.cmp.Ordering.{Ordering}
use Rattle.std.specs.declared.cmp.Ordering.TheVariants.{Less}
use Rattle.vs_base.specs.declared.Change.{Change}
use Rattle.vs_model.specs.Logs.{Image}
use Rattle.vs_gtid.specs.Vectors.{Place}
use Rattle.vs_gtid.specs.Vectors.Place.{Fresh, Copying, Streaming}
use Rattle.vs_model.specs.Frames.{Frame}
use Rattle.vs_model.specs.Frames.Frame.{Tx, Chunk}
use Rattle.vs_model.specs.Copy.{Bound, changes_of, row_at, is_after}

-- each item stands before all that follow it
abbrev pub AreAscending : {X : Type 0} → (X → X → Ordering) → List X → Type 0
AreAscending cmp [] = Unit {0}
AreAscending cmp (x ∷ xs) = AllByRecursion (λ y. cmp x y ≡ Less) xs × AreAscending cmp xs

-- The picked tables stand in the order of their names, and the keys of each are ordered.
pub record IsOrdered (bound : Bound) : Type 0 where
  pub tables : AreAscending (slice_cmp nat_cmp) bound.tables
  pub keys : (table : List ℕ) → Contains bound.tables table → IsTotalOrder (bound.order table)

-- The key of a row as the client is told it: that of the row, where the filter keeps it.
abbrev pub KeepsKeys : Bound → (List ℕ → Image → Image) → Type 0
KeepsKeys bound told_key = (table : List ℕ) (row : Image) → Contains bound.tables table →
    IfSome (bound.row table row) (λ told. told_key table told ≡ bound.key table row)

-- Each change of a picked table fits the rows that the changes before it leave: its before image is the row at its key, and at the key of its
-- after image there is no row but that of its before image.
abbrev pub ChangesFit : Bound → List Change → Type 0
ChangesFit bound changes = (before behind : List Change) (c : Change) → changes ≡ before ++ c ∷ behind → Contains bound.tables c.table →
    IfSome c.before (λ row. row_at bound before c.table (bound.key c.table row) ≡ Some row)
    × IfSome c.after (λ row. IfSome (row_at bound before c.table (bound.key c.table row)) (λ there. c.before ≡ Some there))

-- the changes that a frame tells: the rows of a chunk come into the table
abbrev pub told_in : Frame → List Change
told_in (Tx s e v) = changes_of e.work
told_in (Chunk s table rows time v) = map (λ row. record { table = table; before = None; after = Some row }) rows
told_in f = []

-- whether an image that was told has the key
abbrev pub has_told_key : Bound → (List ℕ → Image → Image) → List ℕ → Image → Option Image → Bool
has_told_key bound told_key table key image = option_map_or (λ told. is_eq (bound.order table (told_key table told) key)) image false

-- the client's row at a key after a change: an after image sets it, and a before image takes it away
abbrev pub client_after : Bound → (List ℕ → Image → Image) → List ℕ → Image → Option Image → Change → Option Image
client_after bound told_key table key row c =
    if is_eq (slice_cmp nat_cmp c.table table)
    then (if has_told_key bound told_key table key c.after then c.after
    else if has_told_key bound told_key table key c.before then None else row)
    else row

-- its row at a key after frames, which it applies in order to empty tables
abbrev pub client_row : Bound → (List ℕ → Image → Image) → List Frame → List ℕ → Image → Option Image
client_row bound told_key fs table key = fold (client_after bound told_key table key) None (flat_map told_in fs)

-- whether a copy has come as far as the key: where the shard streams, it has all
abbrev pub is_copied : Bound → Place → List ℕ → Image → Bool
is_copied bound Fresh table key = false
is_copied bound (Copying p l) table key = not (is_after bound (Some l) table key)
is_copied bound (Streaming p) table key = true

-- the picked row at a key after changes
abbrev pub picked_row_at : Bound → List Change → List ℕ → Image → Option Image
picked_row_at bound changes table key = option_and_then (bound.row table) (row_at bound changes table key)

-- what the client is to have at a key: the picked row, as far as the copy has come
abbrev pub copied_row : Bound → Place → List Change → List ℕ → Image → Option Image
copied_row bound place changes table key = if is_copied bound place table key then picked_row_at bound changes table key else None
