-- What the logs of a cluster mean: the entries of each shard, and which of them are due from a position.
pub use Rattle.vs_gtid.specs.Logs.{Log, HaveDistinctGtids}
use Rattle.vs_base.specs.declared.ShardName.{ShardName}
use Rattle.vs_base.specs.declared.Gtid.{Gtid}
use Rattle.vs_base.specs.declared.Cell.{Cell}
use Rattle.vs_gtid.specs.declared.JournalValue.{JournalValue}
use Rattle.vs_gtid.specs.declared.Work.{Work}
use Rattle.vs_gtid.specs.declared.Work.TheVariants.{Rows, Ddl, Other, Journal}
use Rattle.vs_gtid.specs.declared.Entry.{Entry}
use Rattle.std.specs.Prelude.{◌≡◌, Bool, not, ◌&&◌, ◌||◌, List, [], ◌∷◌, Option, Some, None, if◌then◌else◌, is_some}
use Rattle.std.specs.List.{list_any, filter}
use Rattle.std.specs.Option.{option_or}
use Rattle.vs_model.specs.Names.{Position, same_name, same_gtid, has, is_in}

abbrev pub Image : Type 0
Image = List Cell

abbrev pub Cluster : Type 0
Cluster = List (ShardName × Log)

abbrev pub no_log : Log
no_log = record { base = []; entries = []; fault = None }

-- the log of the shard, or an empty one
abbrev pub log_of : Cluster → ShardName → Log
log_of [] s = no_log
log_of (c ∷ cluster) s = if same_name c.0 s then c.1 else log_of cluster s

-- the journal of an entry
abbrev pub journal_of : Work → Option JournalValue
journal_of (Journal j) = Some j
journal_of (Rows changes) = None
journal_of (Ddl text) = None
journal_of Other = None

-- whether the journal is a SHARDS journal that names s as a participant
abbrev pub is_own : ShardName → JournalValue → Bool
is_own s j = j.shards && is_in s j.participants

abbrev pub own_of : ShardName → Option JournalValue → Option JournalValue
own_of s None = None
own_of s (Some j) = if is_own s j then Some j else None

-- the own journal of s that the entry is, if it is one
abbrev pub own_journal : ShardName → Entry → Option JournalValue
own_journal s e = own_of s (journal_of e.work)

-- the entries up to, and without, the first own journal of s
abbrev pub up_to_own : ShardName → List Entry → List Entry
up_to_own s [] = []
up_to_own s (e ∷ es) = if is_some (own_journal s e) then [] else e ∷ up_to_own s es

-- the first own journal of s
abbrev pub first_own : ShardName → List Entry → Option JournalValue
first_own s [] = None
first_own s (e ∷ es) = option_or (own_journal s e) (first_own s es)

-- the entries that a position lacks, in the order of the log
abbrev pub after : Log → Position → List Entry
after log p = filter (λ e. not (has p e.gtid)) log.entries

-- those up to the first own journal
abbrev pub due : ShardName → Log → Position → List Entry
due s log p = up_to_own s (after log p)

-- that journal
abbrev pub stop : ShardName → Log → Position → Option JournalValue
stop s log p = first_own s (after log p)

-- the due entries of p whose GTID is in q
abbrev pub between : ShardName → Log → Position → Position → List Entry
between s log p q = filter (λ e. has q e.gtid) (due s log p)

-- whether one of the entries has the GTID
abbrev pub is_gtid_of : List Entry → Gtid → Bool
is_gtid_of es g = list_any (λ e. same_gtid e.gtid g) es

-- q is p and the GTIDs of the entries, and nothing else
abbrev pub IsPositionAfter : Position → List Entry → Position → Type 0
IsPositionAfter p es q = (g : Gtid) → has q g ≡ (has p g || is_gtid_of es g)

-- each log's entries have distinct GTIDs, as all that is read from bytes have
abbrev pub LogsAreDistinct : Cluster → Type 0
LogsAreDistinct cluster = (s : ShardName) → HaveDistinctGtids (log_of cluster s).entries
