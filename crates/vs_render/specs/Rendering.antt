-- What has been rendered of an entry's changes: the groups that are finished, and the one that is open.
use Rattle.std.specs.Prelude.{◌≡◌, ◌≤◌, ℕ, ◌+◌, Bool, true, false, not, List, [], ◌∷◌, ◌++◌, length, map, Option, Some, All}
use Rattle.std.specs.List.{flat_map}
use Rattle.std.specs.Option.{option_and_then}
use Rattle.vs_base.specs.Limits.{most_body}
use Rattle.vs_base.specs.declared.Change.{Change}
use Rattle.vs_base.specs.declared.table.Column.{Column}
use Rattle.vs_select.specs.Rows.{taken_row}
use Rattle.vs_select.specs.declared.bound.BoundSelect.{BoundSelect}
use Rattle.vs_render.specs.Groups.{grouped, grouped_on}
use Rattle.vs_render.specs.Events.{EventHead, Changed, Commits, group_said, is_told}
use Rattle.vs_render.specs.Spelling.{said_bytes}
use Rattle.vs_render.specs.Frames.{group_size, groups_said, is_over}

-- the groups of an open group and what is still to come; nothing may be open before the first change
abbrev pub grouped_from : {A : Type 0} → (Bool → List A → Bool) → Bool → List A → List A → List (List A)
grouped_from over first [] xs = grouped over xs
grouped_from over first (x ∷ group) xs = grouped_on over first (x ∷ group) xs

-- the tables that a message has had, after these changes
abbrev pub told_after : List (List ℕ) → List Change → List (List ℕ)
told_after told [] = told
told_after told (c ∷ changes) = told_after (c.table ∷ told) changes

-- the same, of each table once
abbrev pub told_with : Bool → List (List ℕ) → List ℕ → List (List ℕ)
told_with true told table = told
told_with false told table = table ∷ told

abbrev pub is_none : {A : Type 0} → List A → Bool
is_none [] = true
is_none (x ∷ xs) = false

-- The groups that are finished, each within the limit, and the open one, which is too.
pub record Stage (h : EventHead) (fields : List ℕ → List Column) (changes left : List Change) (told : List (List ℕ)) (bytes lengths : List ℕ) (start : ℕ) (some : Bool) : Type 0 where
  pub done : List (List Change)
  pub group : List Change
  -- with what is still to come they are the groups of all changes
  pub cuts : grouped (is_over h fields) changes ≡ done ++ grouped_from (is_over h fields) (is_none done) group left
  -- they are written, one after the other, and these are their lengths
  pub written : bytes ≡ flat_map (said_bytes h) (groups_said fields true done) ++ said_bytes h (group_said fields (is_none done) group)
  pub counted : lengths ≡ map (λ said. length (said_bytes h said)) (groups_said fields true done)
  pub begins : start ≡ length (flat_map (said_bytes h) (groups_said fields true done))
  pub told_are : (table : List ℕ) → is_told told table ≡ is_told (told_after [] group) table
  pub is_some : some ≡ not (is_none group)
  pub opened : some ≡ false → done ≡ []
  pub within : All (λ n. n + length (said_bytes h (Commits ∷ [])) ≤ most_body) lengths
  pub open_within : some ≡ true → group_size h fields (is_none done) group ≤ most_body

-- a change with the images that a select takes
abbrev pub taken_change : BoundSelect → Change → Change
taken_change select c = record c { before = option_and_then (taken_row select) c.before; after = option_and_then (taken_row select) c.after }

-- A change is picked as this one, and these bytes are its ROW event.
pub record IsRowOf (h : EventHead) (picked : Option Change) (bytes : List ℕ) : Type 0 where
  pub change : Change
  pub is : picked ≡ Some change
  pub spelled : bytes ≡ said_bytes h (Changed change ∷ [])
