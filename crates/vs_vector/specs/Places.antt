-- What the entries of a vector mean, and what each vector keeps.
use Rattle.std.specs.Prelude.{◌≡◌, ◌≤◌, ℕ, true, List, [], map, length, Option, Some, None}
use Rattle.std.specs.List.{AllByRecursion}
use Rattle.vs_base.specs.Limits.{most_intervals}
use Rattle.vs_base.specs.Names.{names_differ}
use Rattle.vs_base.specs.declared.ShardName.{ShardName}
use Rattle.vs_base.specs.declared.LastKey.{LastKey}
use Rattle.vs_gtid.specs.Positions.{Position}
use Rattle.vs_gtid.specs.Vectors.{Place, Vector, names, IsCanonicalPlace, IsCanonicalVector}
use Rattle.vs_gtid.specs.Vectors.Place.{Fresh, Copying, Streaming}
use Rattle.vs_vector.specs.declared.place.ShardAt.{ShardAt}
use Rattle.vs_vector.specs.declared.place.Place.{Place as Start}
use Rattle.vs_vector.specs.declared.place.Place.TheVariants as start

-- of the shards of a vector
abbrev pub most_shards : ℕ
most_shards = 64

-- where a stream goes on that starts so, behind this key; a stream that has no position yet has come to no key
abbrev pub start_place : Start → Option LastKey → Place
start_place start.Fresh last = Fresh
start_place (start.At p) None = Streaming p
start_place (start.At p) (Some last) = Copying p last

-- the place that a shard's entry says
abbrev pub entry_place : ShardAt → Place
entry_place at = start_place at.start at.last_key

-- the vector of these entries, in their order
abbrev pub vector_of : List (ShardName × ShardAt) → Vector
vector_of entries = map (λ e. (e.0, entry_place e.1)) entries

-- the GTIDs of a place: a fresh one has none
abbrev pub place_position : Place → Position
place_position Fresh = []
place_position (Copying p last) = p
place_position (Streaming p) = p

-- the position of a place is spelled in the one way, and has few intervals
pub record IsLawfulPlace (place : Place) : Type 0 where
  pub canonical : IsCanonicalPlace place
  pub short : length (place_position place) ≤ most_intervals

-- a stream's vector: no name stands twice, the shards are few, and so are the intervals of each, which stand in the one order
pub record IsVector (v : Vector) : Type 0 where
  pub distinct : names_differ (names v) ≡ true
  pub few : length v ≤ most_shards
  pub canonical : IsCanonicalVector v
  pub short : AllByRecursion (λ slot. length (place_position slot.1) ≤ most_intervals) v
