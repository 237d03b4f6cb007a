-- The filter, and the rows that a copy sends.
use Rattle.std.specs.Prelude.{◌≡◌, ℕ, ◌+◌, suc, zero, Bool, true, false, not, ◌&&◌, ◌||◌, List, [], ◌∷◌, map, length, take, max, Option, Some, None, if◌then◌else◌, nat_le}
use Rattle.std.specs.List.{filter, filter_map, flat_map, take_while, find, fold, last_or}
use Rattle.std.specs.Option.{option_and_then, option_map, option_map_or}
use Rattle.std.specs.Ordering.{nat_cmp, is_eq, is_gt}
use Rattle.std.specs.Cmp.Lexicographic.{slice_cmp}
use Rattle.std.specs.declared.cmp.Ordering.{Ordering}
use Rattle.std.specs.declared.cmp.Ordering.TheVariants.{Less, Equal, Greater}
use Rattle.vs_base.specs.declared.ShardName.{ShardName}
use Rattle.vs_base.specs.declared.Change.{Change}
use Rattle.vs_base.specs.declared.LastKey.{LastKey}
use Rattle.vs_base.specs.Cells.{row_size}
pub use Rattle.vs_base.specs.Picks.{Bound, with_images, picked_change}
use Rattle.vs_gtid.specs.declared.Work.{Work}
use Rattle.vs_gtid.specs.declared.Work.TheVariants.{Rows, Ddl, Other, Journal}
use Rattle.vs_gtid.specs.declared.Entry.{Entry}
use Rattle.vs_model.specs.Names.{Position, has}
use Rattle.vs_model.specs.Logs.{Image, Log, due, IsPositionAfter}
use Rattle.vs_gtid.specs.Vectors.{Place}
use Rattle.vs_gtid.specs.Vectors.Place.{Fresh, Copying, Streaming}
use Rattle.vs_model.specs.Frames.{Frame}
use Rattle.vs_model.specs.Frames.Frame.{Tx, Chunk, CopyDone}

abbrev pub Filter : Type 0
Filter = ShardName → Bound

abbrev pub picked_work : Bound → Work → Work
picked_work bound (Rows changes) = Rows (filter_map (picked_change bound) changes)
picked_work bound (Ddl text) = Ddl text
picked_work bound Other = Other
picked_work bound (Journal j) = Journal j

-- the entry with each change picked
abbrev pub picked : Bound → Entry → Entry
picked bound e = record e { work = picked_work bound e.work }

-- the entries before the first one that q lacks
abbrev pub front : Log → Position → List Entry
front log q = take_while (λ e. has q e.gtid) log.entries

abbrev pub changes_of : Work → List Change
changes_of (Rows changes) = changes
changes_of (Ddl text) = []
changes_of Other = []
changes_of (Journal j) = []

abbrev pub changes_in : List Entry → List Change
changes_in es = flat_map (λ e. changes_of e.work) es

-- the greatest time of the entries
abbrev pub greatest_time : List Entry → ℕ
greatest_time es = fold (λ t e. max t e.time) 0 es

abbrev pub has_key : Bound → List ℕ → Image → Option Image → Bool
has_key bound table key image = option_map_or (λ row. is_eq (bound.order table (bound.key table row) key)) image false

abbrev pub kept_if : Bool → Option Image → Option Image
kept_if b image = if b then image else None

-- the row at a key after a change
abbrev pub row_after : Bound → List ℕ → Image → Option Image → Change → Option Image
row_after bound table key row c =
    if is_eq (slice_cmp nat_cmp c.table table) && (has_key bound table key c.before || has_key bound table key c.after)
    then kept_if (has_key bound table key c.after) c.after
    else row

-- the row at a key: the after image of the last change that touches the key
abbrev pub row_at : Bound → List Change → List ℕ → Image → Option Image
row_at bound changes table key = fold (row_after bound table key) None changes

-- k among the keys x and xs, of which rest is xs with k
abbrev pub key_put_at : Ordering → Image → Image → List Image → List Image → List Image
key_put_at Less k x xs rest = k ∷ x ∷ xs
key_put_at Equal k x xs rest = x ∷ xs
key_put_at Greater k x xs rest = x ∷ rest

-- keys in order, and k
abbrev pub key_put : (Image → Image → Ordering) → Image → List Image → List Image
key_put order k [] = k ∷ []
key_put order k (x ∷ xs) = key_put_at (order k x) k x xs (key_put order k xs)

-- the keys of the after images of a table, ascending
abbrev pub keys_of : Bound → List Change → List ℕ → List Image
keys_of bound changes table =
    fold (λ keys k. key_put (bound.order table) k keys) []
    (filter_map (λ c. option_map (bound.key table) c.after) (filter (λ c. is_eq (slice_cmp nat_cmp c.table table)) changes))

-- the picked rows of a table by key
abbrev pub picked_rows : Bound → List Change → List ℕ → List (Image × Image)
picked_rows bound changes table =
    filter_map (λ key. option_map (λ row. (key, row)) (option_and_then (bound.row table) (row_at bound changes table key)))
    (keys_of bound changes table)

-- whether a key of a table comes after the last row that was sent
abbrev pub is_after_in : Bound → LastKey → List ℕ → Image → Ordering → Bool
is_after_in bound l table key Less = false
is_after_in bound l table key Equal = is_gt (bound.order table key l.key)
is_after_in bound l table key Greater = true

abbrev pub is_after : Bound → Option LastKey → List ℕ → Image → Bool
is_after bound None table key = true
is_after bound (Some l) table key = is_after_in bound l table key (slice_cmp nat_cmp table l.table)

-- of the rows at most n more, and at most so many bytes more
abbrev pub within_limits : ℕ → ℕ → List (Image × Image) → List (Image × Image)
within_limits n size [] = []
within_limits zero size (row ∷ rows) = []
within_limits (suc n) size (row ∷ rows) =
    if nat_le (size + row_size row.1) 4194304 then row ∷ within_limits n (size + row_size row.1) rows else []

-- at least one row, at most 100, and at most 4 MiB where it is more than one
abbrev pub chunk_of : List (Image × Image) → List (Image × Image)
chunk_of [] = []
chunk_of (row ∷ rows) = row ∷ within_limits 99 (row_size row.1) rows

-- the rows of the first table that has one after l
abbrev pub next_rows : Bound → List Change → Option LastKey → Option (List ℕ × List (Image × Image))
next_rows bound changes l =
    option_map {T = List ℕ × List (Image × Image)} (λ t. (t.0, chunk_of t.1))
    (find (λ t. nat_le 1 (length t.1))
    (map (λ table. (table, filter (λ row. is_after bound l table row.0) (picked_rows bound changes table))) bound.tables))

abbrev pub image_within : Bound → LastKey → List ℕ → Option Image → Option Image
image_within bound l table None = None
image_within bound l table (Some row) = kept_if (not (is_after bound (Some l) table (bound.key table row))) (Some row)

-- the change with those images alone that the copy has passed
abbrev pub change_within : Bound → LastKey → Change → Change
change_within bound l c = record c { before = image_within bound l c.table c.before; after = image_within bound l c.table c.after }

abbrev pub work_within : Bound → LastKey → Work → Work
work_within bound l (Rows changes) = Rows (map (change_within bound l) changes)
work_within bound l (Ddl text) = Ddl text
work_within bound l Other = Other
work_within bound l (Journal j) = Journal j

abbrev pub restricted : Bound → LastKey → Entry → Entry
restricted bound l e = record e { work = work_within bound l e.work }

-- the position of a copy: its own, or for a fresh one that of some first entries of the log
abbrev pub ReadTo : ShardName → Log → Place → Position → Type 0
ReadTo s log Fresh q = (m : ℕ) × IsPositionAfter [] (take m (due s log [])) q
ReadTo s log (Copying p l) q = q ≡ p
ReadTo s log (Streaming p) q = ⊥

-- the last row that was sent
abbrev pub last_of : Place → Option LastKey
last_of Fresh = None
last_of (Copying p l) = Some l
last_of (Streaming p) = None

-- a chunk: the next rows, and the place after them
pub record IsChunk (bound : Bound) (s : ShardName) (log : Log) (old : Place) (table : List ℕ) (rows : List Image) (time : ℕ) (new : Option Place) : Type 0 where
  pub q : Position
  pub key : LastKey
  pub front_rows : List (Image × Image)
  pub read_to : ReadTo s log old q
  pub next : next_rows bound (changes_in (front log q)) (last_of old) ≡ Some (table, front_rows)
  pub rows_are : rows ≡ map (λ row. row.1) front_rows
  pub last : last_or None (map (λ row. row.0) front_rows) ≡ Some key.key
  pub of_table : key.table ≡ table
  pub time_is : time ≡ greatest_time (front log q)
  pub place : new ≡ Some (Copying q key)

-- the end of a copy: no row is left, and the shard streams on
pub record IsCopyDone (bound : Bound) (s : ShardName) (log : Log) (old : Place) (time : ℕ) (new : Option Place) : Type 0 where
  pub q : Position
  pub read_to : ReadTo s log old q
  pub none_left : next_rows bound (changes_in (front log q)) (last_of old) ≡ None
  pub time_is : time ≡ greatest_time (front log q)
  pub place : new ≡ Some (Streaming q)

-- a transaction within the rows that were sent
pub record IsCopiedTx (bound : Bound) (s : ShardName) (log : Log) (p : Position) (l : LastKey) (told : Entry) (new : Option Place) : Type 0 where
  pub e : Entry
  pub rest : List Entry
  pub q : Position
  pub first : due s log p ≡ e ∷ rest
  pub told_is : told ≡ picked bound (restricted bound l e)
  pub grown : IsPositionAfter p (e ∷ []) q
  pub place : new ≡ Some (Copying q l)

-- what a shard that copies may send, by its places before and after
abbrev pub CopyStep : Bound → ShardName → Log → Place → Frame → Option Place → Type 0
CopyStep bound s log (Copying p l) (Tx t e v) new = IsCopiedTx bound s log p l e new
CopyStep bound s log old (Chunk t table rows time v) new = IsChunk bound s log old table rows time new
CopyStep bound s log old (CopyDone t time v) new = IsCopyDone bound s log old time new
CopyStep bound s log old f new = ⊥
