-- Bodies: what of a shard's frame doesn't hang on the vector.
use Rattle.std.specs.Prelude.{◌≡◌, ◌≤◌, true, ℕ, ◌+◌, ◌^◌, ◌-◌, min, nat_lt, List, [], ◌∷◌, ◌++◌, length, map, take, drop, Some, All}
use Rattle.std.specs.List.{filter_map, find, flat_map}
use Rattle.std.specs.Option.{option_map_or}
use Rattle.vs_base.specs.Limits.{most_body}
use Rattle.vs_base.specs.declared.ShardName.{ShardName}
use Rattle.vs_base.specs.declared.Cell.{Cell}
use Rattle.vs_base.specs.declared.Change.{Change}
use Rattle.vs_base.specs.declared.table.Column.{Column}
use Rattle.vs_base.specs.Frames.{framed}
use Rattle.vs_pool.specs.Buffers.{Buffer}
use Rattle.vs_gtid.specs.declared.Work.{Work}
use Rattle.vs_gtid.specs.declared.Work.TheVariants.{Rows, Ddl, Other, Journal}
use Rattle.vs_gtid.specs.declared.Entry.{Entry}
use Rattle.vs_gtid.specs.Vectors.{Vector}
use Rattle.vs_filter.specs.declared.bound.Picked.{Picked}
use Rattle.vs_filter.specs.Picks.{fields_in, pick_in}
use Rattle.vs_render.specs.Groups.{at_last, grouped}
use Rattle.vs_render.specs.Events.{EventHead, Saying, VectorAfter, Commits, chunk_said, closing_said, head_of}
use Rattle.vs_render.specs.Spelling.{said_bytes}
use Rattle.vs_render.specs.Frames.{fronts_said, groups_said, is_over}

-- The bytes of the events of each message, without the vector, and those of the closing event, which stands in the last one.
pub record Rendered : Type 0 where
  pub fronts : List (List ℕ)
  pub closing : List ℕ

abbrev pub rendered : EventHead → List (List Saying) → Saying → Rendered
rendered h fronts closing = record { fronts = map (said_bytes h) fronts; closing = said_bytes h (closing ∷ []) }

-- the frame of a body, with the vector put in
abbrev pub frame_with : EventHead → Vector → Rendered → List ℕ
frame_with h v b = flat_map framed (at_last (said_bytes h (VectorAfter v ∷ []) ++ b.closing) b.fronts)

-- all bytes of a body, one after the other
abbrev pub body_bytes : Rendered → List ℕ
body_bytes b = flat_map (λ m. m) b.fronts ++ b.closing

-- the size of each message, with a closing event
abbrev pub sizes_of : Rendered → List ℕ
sizes_of b = map (λ m. length m + length b.closing) b.fronts

-- each message is within the limit
abbrev pub IsWithin : Rendered → Type 0
IsWithin b = All (λ n. n ≤ most_body) (sizes_of b)

-- A refusal for its size: a message is larger than that, and the first such has so many bytes; from 2^64 on these count as 2^64 - 1.
abbrev pub IsTooLarge : Rendered → ℕ → Type 0
IsTooLarge b bytes = (n : ℕ) × (find (nat_lt most_body) (sizes_of b) ≡ Some n) × (bytes ≡ min n (2 ^ 64 - 1))

-- the columns that leave of a table
abbrev pub columns_in : List Picked → List ℕ → List Column
columns_in tables name = option_map_or (λ columns. columns) (fields_in tables name) []

-- an entry with each change picked
abbrev pub picked_work_in : List Picked → Work → Work
picked_work_in tables (Rows changes) = Rows (filter_map (pick_in tables) changes)
picked_work_in tables (Ddl text) = Ddl text
picked_work_in tables Other = Other
picked_work_in tables (Journal j) = Journal j

-- the body of an entry, whose changes are picked
abbrev pub entry_body : List Picked → ShardName → Entry → Rendered
entry_body tables s e = rendered (head_of s e.time) (fronts_said (head_of s e.time) (columns_in tables) (picked_work_in tables e.work)) (closing_said e.work)

-- the body of some rows of a copy, which are picked already
abbrev pub chunk_body : List Picked → ShardName → List ℕ → List (List Cell) → ℕ → Rendered
chunk_body tables s table rows time = rendered (head_of s time) (chunk_said (columns_in tables) table rows ∷ []) Commits

-- the body of an entry's changes
abbrev pub changes_body : EventHead → (List ℕ → List Column) → List Change → Rendered
changes_body h fields changes = rendered h (groups_said fields true (grouped (is_over h fields) changes)) Commits

-- a body of one message
abbrev pub body_of : List ℕ → List ℕ → Rendered
body_of front closing = record { fronts = front ∷ []; closing = closing }

-- ---- in a room

-- so many bytes each of these
abbrev pub pieces : List ℕ → List ℕ → List (List ℕ)
pieces [] bytes = []
pieces (n ∷ ns) bytes = take n bytes ∷ pieces ns (drop n bytes)

-- and how many these are together
abbrev pub total_length : List ℕ → ℕ
total_length [] = 0
total_length (n ∷ ns) = n + total_length ns

-- and what is behind all of them
abbrev pub behind_pieces : List ℕ → List ℕ → List ℕ
behind_pieces [] bytes = bytes
behind_pieces (n ∷ ns) bytes = behind_pieces ns (drop n bytes)

-- a body whose messages have these lengths, in these bytes
abbrev pub body_in : List ℕ → List ℕ → Rendered
body_in lengths bytes = record { fronts = pieces lengths bytes; closing = behind_pieces lengths bytes }

-- These bytes are a body within the limit, whose messages have these lengths.
pub record IsWritten (lengths bytes : List ℕ) (b : Rendered) : Type 0 where
  pub body_is : body_in lengths bytes ≡ b
  pub within : IsWithin b
  pub lengths_fit : total_length lengths ≤ length bytes

-- a body, and the size of the buffer that it is in
pub record HeldBody : Type 0 where
  pub size : ℕ
  pub body : Rendered

abbrev pub held_body : ℕ → Rendered → HeldBody
held_body size body = record { size = size; body = body }

-- as many of the bytes as a buffer of this size can hold
abbrev pub buffer_of : ℕ → List ℕ → Buffer
buffer_of size bytes = record { size = size; bytes = take size bytes }
