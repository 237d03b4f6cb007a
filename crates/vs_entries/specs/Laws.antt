-- The laws of logs on which the reader stands.
use Rattle.std.specs.Prelude.{◌≤◌, ◌<◌, ◌+◌, ◌-◌, ◌++◌, ℕ, List, length, drop}
use Rattle.vs_rows.specs.Tables.{Tables}
use Rattle.vs_log.specs.Laws.{AddsChanges, AlwaysGrows, AlwaysKnowsItsBase, AlwaysMeansByProductions, AlwaysReadsInSteps, AlwaysTellsEntries}
use Rattle.vs_log.specs.Events.{IsPart, limit}

-- the laws of logs, where what is known of tables is what their table maps tell
pub record LogLaws : Type 0 where
  pub meaning : AlwaysMeansByProductions Tables
  pub growth : AlwaysGrows Tables
  pub base : AlwaysKnowsItsBase Tables
  pub steps : AlwaysReadsInSteps Tables
  pub entries : AlwaysTellsEntries Tables
  pub changes : AddsChanges

-- Where less than an event is left behind a place, the bytes from there on are fewer than the limit; and with a piece of at most 65,536 bytes more they are fewer than both together, wherever the reading has come since.
pub record BoundsParts : Type 0 where
  pub below : (bytes : List ℕ) (at : ℕ) → IsPart (drop at bytes) → length bytes - at < limit
  pub fed : (bytes piece : List ℕ) (at later : ℕ) → IsPart (drop at bytes) → at ≤ later → length piece ≤ 65536 → length (bytes ++ piece) - later < limit + 65536
