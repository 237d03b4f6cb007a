-- A log that comes in pieces: what a reader was fed, and what its answers say.
use Rattle.std.specs.Prelude.{◌≡◌, ◌≤◌, ◌<◌, ◌+◌, ◌⊎◌, ℕ, suc, Bool, true, false, List, [], ◌∷◌, ◌++◌, length, drop, Some, None, Result, Ok, Err}
use Rattle.vs_gtid.specs.declared.Entry.{Entry}
use Rattle.vs_gtid.specs.Logs.{Log}
use Rattle.vs_schema.specs.declared.schema.Schema.{Schema}
use Rattle.vs_rows.specs.Tables.{Tables}
use Rattle.vs_log.specs.Events.{IsPart}
use Rattle.vs_log.specs.Meaning.{log_meant}
use Rattle.vs_log.specs.Productions.{EntryEndsAt, StandsAt}
use Rattle.vs_log.specs.Table.{Rules}
use Rattle.vs_entries.specs.Rules.{rules_of}
use Rattle.vs_entries.specs.declared.took.Took.{Took}
use Rattle.vs_entries.specs.declared.took.Took.TheVariants as took
use Rattle.vs_entries.specs.declared.took.LogRefusal.{LogRefusal}
use Rattle.vs_entries.specs.declared.took.LogRefusal.TheVariants.{BadLog, Memory}

-- a reader: the keyspace and the schema of its log, all bytes that it was fed, how many entries it gave, the place up to which it took events, that from which it keeps bytes, and whether memory ran out as it gave an entry
pub record Fed : Type 0 where
  pub keyspace : List ℕ
  pub schema : Schema
  pub bytes : List ℕ
  pub given : ℕ
  pub at : ℕ
  pub from : ℕ
  pub spent : Bool

-- a reader that was fed nothing
abbrev pub fresh : List ℕ → Schema → Fed
fresh keyspace schema = record { keyspace = keyspace; schema = schema; bytes = []; given = 0; at = 4; from = 0; spent = false }

abbrev pub rules_fed : Fed → Rules Tables
rules_fed r = rules_of r.keyspace r.schema

-- what the bytes mean
abbrev pub log_fed : Fed → Log
log_fed r = log_meant (rules_fed r) r.bytes

-- more bytes came; events were taken up to this place, and the bytes before that one were let go
abbrev pub with_piece : Fed → List ℕ → ℕ → ℕ → Fed
with_piece r piece at from = record r { bytes = r.bytes ++ piece; at = at; from = from }

-- Of the bytes that were taken as events fewer than 65,536 are kept, or no more than stand behind them.
abbrev pub KeepsFew : Fed → ℕ → Type 0
KeepsFew r from = (r.at < from + 65536) ⊎ (r.at + r.at ≤ from + length r.bytes)

-- the entry stands behind so many others
pub record IsBehind (n : ℕ) (entries : List Entry) (e : Entry) : Type 0 where
  pub before : List Entry
  pub later : List Entry
  pub are : entries ≡ before ++ e ∷ later
  pub count : length before ≡ n

-- The entry behind those that were given, with the place of its GTID event, and that where the entry ends, up to which the events are taken. Behind the last one: more is wanted, where nothing is wrong, and less than an event is left; else the fault, which stays.
-- Once memory ran out, it is told each time.
abbrev pub GivesEntry : Fed → Result Took LogRefusal → Fed → Type 0
GivesEntry old (Ok (took.Entry e at end)) new =
    (old.spent ≡ false) × IsBehind old.given (log_fed old).entries e × StandsAt (rules_fed old) old.bytes e.gtid at × EntryEndsAt (rules_fed old) old.bytes old.given end
    × (new ≡ record old { given = suc old.given; at = end })
GivesEntry old (Ok took.More) new =
    (old.spent ≡ false) × (old.given ≡ length (log_fed old).entries) × ((log_fed old).fault ≡ None) × IsPart (drop new.at old.bytes) × (new ≡ record old { at = new.at })
GivesEntry old (Err (BadLog offset why)) new = (old.spent ≡ false) × (old.given ≡ length (log_fed old).entries) × ((log_fed old).fault ≡ Some (offset, why)) × (new ≡ record old { at = new.at })
GivesEntry old (Err Memory) new = new ≡ record old { at = new.at; spent = true }
