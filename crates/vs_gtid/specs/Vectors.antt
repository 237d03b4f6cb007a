-- Vectors: how far each shard of a stream has come.
use Rattle.vs_base.specs.declared.LastKey.{LastKey}
use Rattle.vs_base.specs.declared.ShardName.{ShardName}
use Rattle.vs_base.specs.Names.{same_name}
use Rattle.vs_gtid.specs.declared.journal.JournalValue.{JournalValue}
use Rattle.vs_gtid.specs.declared.journal.Successor.{Successor}
use Rattle.vs_gtid.specs.Positions.{Position, IsCanonical}
use Rattle.std.specs.Prelude.{◌≡◌, Bool, true, false, not, List, [], ◌∷◌, ◌++◌, map, Option, Some, None, if◌then◌else◌, is_some}
use Rattle.std.specs.List.{filter, list_any, AllByRecursion}

-- whether the name is among the names
abbrev pub is_in : ShardName → List ShardName → Bool
is_in s names = list_any (same_name s) names

-- how far a shard has come: it is to be copied, it copies and has sent all up to a row, or it streams
pub data Place : Type 0 where
  Fresh : Place
  Copying : (position : Position) (last : LastKey) → Place
  Streaming : (position : Position) → Place

abbrev pub Vector : Type 0
Vector = List (ShardName × Place)

-- the place of a shard, if it stands in the vector
abbrev pub place_of : Vector → ShardName → Option Place
place_of [] s = None
place_of (slot ∷ v) s = if same_name slot.0 s then Some slot.1 else place_of v s

abbrev pub stands : Vector → ShardName → Bool
stands v s = is_some (place_of v s)

abbrev pub names : Vector → List ShardName
names v = map (λ slot. slot.0) v

abbrev pub is_copy : Place → Bool
is_copy Fresh = true
is_copy (Copying p l) = true
is_copy (Streaming p) = false

-- s streams in v, from the position p
abbrev pub Streams : Vector → ShardName → Position → Type 0
Streams v s p = place_of v s ≡ Some (Streaming p)

-- s copies in v, and has come to this place
abbrev pub Copies : Vector → ShardName → Place → Type 0
Copies v s place = (place_of v s ≡ Some place) × (is_copy place ≡ true)

-- the vector with another place for s
abbrev pub moved : Vector → ShardName → Place → Vector
moved [] s place = []
moved (slot ∷ v) s place = if same_name slot.0 s then (slot.0, place) ∷ v else slot ∷ moved v s place

-- successors, each streaming from its position
abbrev pub begun_at : List Successor → Vector
begun_at ns = map (λ n. (n.name, Streaming n.position)) ns

abbrev pub successors_of : JournalValue → Vector
successors_of j = begun_at j.successors

-- the vector without the shards that leave, and with the successors at its end
abbrev pub replaced : Vector → List ShardName → List Successor → Vector
replaced v leaving ns = filter (λ slot. not (is_in slot.0 leaving)) v ++ begun_at ns

-- the vector at the switch of a journal: without its participants, and with its successors at the end
abbrev pub switched : Vector → JournalValue → Vector
switched v j = replaced v j.participants j.successors

-- the position of a place is spelled in one way only
abbrev pub IsCanonicalPlace : Place → Type 0
IsCanonicalPlace Fresh = Unit {0}
IsCanonicalPlace (Copying p l) = IsCanonical p
IsCanonicalPlace (Streaming p) = IsCanonical p

-- so is each position of the vector, so that its bytes fix its sets and its sets fix its bytes
abbrev pub IsCanonicalVector : Vector → Type 0
IsCanonicalVector v = AllByRecursion (λ slot. IsCanonicalPlace slot.1) v
