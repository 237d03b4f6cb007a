-- A log as it was fetched: what it means, and where its entries stand.
use Rattle.std.specs.Prelude.{◌≡◌, ◌≤◌, ◌⊎◌, ℕ, List, [], ◌∷◌, length, map, take, Option, Some, None, Ok}
use Rattle.std.specs.List.{AllByRecursion}
use Rattle.std.specs.Option.{option_map}
use Rattle.vs_base.specs.declared.Gtid.{Gtid}
use Rattle.vs_base.specs.declared.ShardName.{ShardName}
use Rattle.vs_base.specs.declared.Why.{Why}
use Rattle.vs_gtid.specs.declared.Entry.{Entry}
use Rattle.vs_gtid.specs.Logs.{Log}
use Rattle.vs_outside.specs.Clusters.{Shard}
use Rattle.vs_schema.specs.declared.schema.Schema.{Schema}
use Rattle.vs_schema.specs.Rules.{schema_of}
use Rattle.vs_filter.specs.Rules.{Meant, first_unbound, picked_by}
use Rattle.vs_filter.specs.declared.bound.Picked.{Picked}
use Rattle.vs_log.specs.Productions.{StandsAt}
use Rattle.vs_entries.specs.Pieces.{Fed, log_fed, rules_fed}
use Rattle.vs_command.specs.declared.fetched.Fetched.{Fetched}
use Rattle.vs_command.specs.declared.fetched.LogFault.{LogFault}
use Rattle.vs_command.specs.declared.fetched.Placed.{Placed}
use Rattle.vs_command.specs.Streaming.{shard_log, shard_places}

abbrev pub entries_of : List Placed → List Entry
entries_of placed = map (λ t. t.entry) placed

abbrev pub fault_of : LogFault → ℕ × Why
fault_of f = (f.offset, f.why)

-- the log that was fetched
abbrev pub read_as : Fetched → Log
read_as f = record { base = f.base; entries = entries_of f.entries; fault = option_map fault_of f.fault }

-- an entry of this GTID is told to stand at this place
abbrev pub IsPlaced : List Placed → Gtid → ℕ → Type 0
IsPlaced [] g at = ⊥
IsPlaced (t ∷ placed) g at = ((t.entry.gtid ≡ g) × (t.at ≡ at)) ⊎ IsPlaced placed g at

-- each entry stands where it is told to
abbrev pub ArePlaced : (Gtid → ℕ → Type 0) → List Placed → Type 0
ArePlaced stands placed = AllByRecursion (λ (t : Placed). stands t.entry.gtid t.at) placed

-- The entries that a reader gave, with their places.
pub record HasGiven (reader : Fed) (placed : List Placed) : Type 0 where
  pub count : length placed ≡ reader.given
  pub within : reader.given ≤ length (log_fed reader).entries
  pub entries : entries_of placed ≡ take reader.given (log_fed reader).entries
  pub places : ArePlaced (StandsAt (rules_fed reader) reader.bytes) placed

-- It gave all of them, and this is wrong with the log.
pub record HasGivenAll (reader : Fed) (placed : List Placed) (fault : Option LogFault) : Type 0 where
  pub entries : entries_of placed ≡ (log_fed reader).entries
  pub places : ArePlaced (StandsAt (rules_fed reader) reader.bytes) placed
  pub told : option_map fault_of fault ≡ (log_fed reader).fault

-- the reader of the same log, with the same bytes
pub record IsSameLog (old new : Fed) : Type 0 where
  pub keyspace : new.keyspace ≡ old.keyspace
  pub schema : new.schema ≡ old.schema
  pub bytes : new.bytes ≡ old.bytes

-- these are the schema text and the bytes of a shard, which is there
abbrev pub IsOfShard : Option Shard → List ℕ → List ℕ → Type 0
IsOfShard None text bytes = ⊥
IsOfShard (Some shard) text bytes = (text ≡ shard.schema) × (bytes ≡ shard.log)

-- What was fetched of a shard with this schema text, which reads, and to which the rules bind, and these bytes; and the tables that are picked.
pub record IsFetchedOf (s : ShardName) (rules : List Meant) (text bytes : List ℕ) (f : Fetched) (tables : List Picked) : Type 0 where
  pub schema : Schema
  pub reads : schema_of text ≡ Ok schema
  pub binds : first_unbound rules schema.tables ≡ None
  pub picks : tables ≡ picked_by rules schema.tables
  pub log : read_as f ≡ shard_log s text bytes
  pub places : ArePlaced (shard_places s text bytes) f.entries
