-- What is written to a log is read as what was asked for.
use Rattle.std.specs.Prelude.{◌≡◌, ◌≤◌, ◌<◌, ◌^◌, ℕ, ◌+◌, List, [], ◌∷◌, ◌++◌, length, None, Some, Ok}
use Rattle.vs_base.specs.declared.Gtid.{Gtid}
use Rattle.vs_binlog.specs.Words.{first_word}
use Rattle.vs_entries.specs.Queries.{said}
use Rattle.vs_entries.specs.Rules.{rules_of}
use Rattle.vs_gtid.specs.declared.Entry.{Entry}
use Rattle.vs_gtid.specs.declared.Work.{Work}
use Rattle.vs_gtid.specs.Block.{block_of}
use Rattle.vs_gtid.specs.Joins.{added}
use Rattle.vs_gtid.specs.Positions.{Position}
use Rattle.vs_log.specs.Events.{last_place, limit}
use Rattle.vs_log.specs.Meaning.{log_meant}
use Rattle.vs_log.specs.Productions.{IsNew, IsWholeLog}
use Rattle.vs_log.specs.Table.{single_work}
use Rattle.vs_schema.specs.declared.schema.Schema.{Schema}
use Rattle.vs_make.specs.Events.{start_bytes, statement_bytes}

-- the GTIDs of a log: its base, and those of its entries
abbrev pub known_behind : Position → List Entry → Position
known_behind p [] = p
known_behind p (e ∷ es) = known_behind (added p e.gtid) es

-- In the log of a shard of the keyspace the bytes are a whole log of this base and these entries, and mean them.
pub record IsLogOf (keyspace : List ℕ) (tables : Schema) (bytes : List ℕ) (base : Position) (entries : List Entry) : Type 0 where
  pub whole : IsWholeLog (rules_of keyspace tables) bytes base entries
  pub meant : log_meant (rules_of keyspace tables) bytes ≡ record { base = base; entries = entries; fault = None }

-- what a log is begun with: its base, in a block that holds it
abbrev pub Begins : List ℕ → Position → ℕ → Type 0
Begins bytes base time = (block : List ℕ) × (bytes ≡ start_bytes time block) × (block_of block ≡ Ok base) × (length block ≤ 40968)

-- a log that is begun has its base, and no entry
abbrev pub WritesBases : Type 0
WritesBases = (keyspace : List ℕ) (tables : Schema) (bytes : List ℕ) (base : Position) (time : ℕ) → Begins bytes base time → time < 2 ^ 32 → IsLogOf keyspace tables bytes base []

-- an entry of this GTID and of so many bytes may follow
pub record HasRoom (bytes : List ℕ) (base : Position) (entries : List Entry) (g : Gtid) (size : ℕ) : Type 0 where
  pub uuid : length g.uuid ≡ 16
  pub new : IsNew (known_behind base entries) g
  pub fits : size ≤ limit
  pub ends : length bytes + size ≤ last_place

-- A statement that may stand alone, written behind a whole log, is its next entry.
abbrev pub WritesStatements : Type 0
WritesStatements =
    (keyspace : List ℕ) (tables : Schema) (bytes : List ℕ) (base : Position) (entries : List Entry) (g : Gtid) (schema text : List ℕ) (time : ℕ) (work : Work) →
    IsLogOf keyspace tables bytes base entries → HasRoom bytes base entries g (77 + length schema + length text) → length schema ≤ 255 → time < 2 ^ 32 →
    single_work (said keyspace schema text (first_word text)) ≡ Some work →
    IsLogOf keyspace tables (bytes ++ statement_bytes g schema text time) base (entries ++ record { gtid = g; time = time; work = work } ∷ [])
