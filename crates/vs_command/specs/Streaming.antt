-- What a stream of one shard writes, and what is known where it is done.
use Rattle.std.specs.Prelude.{◌≡◌, ◌≢◌, ◌⊎◌, ℕ, ℤ, List, [], ◌∷◌, ◌++◌, false, map, take, Option, Some, None, Result, Ok, Err}
use Rattle.vs_base.specs.declared.Gtid.{Gtid}
use Rattle.vs_base.specs.declared.ShardName.{ShardName}
use Rattle.vs_base.specs.declared.rule_text.RuleText.{RuleText}
use Rattle.vs_base.specs.Picks.{Bound}
use Rattle.vs_base.specs.declared.Why.{Why}
use Rattle.vs_base.specs.declared.Why.TheVariants.{TooLarge}
use Rattle.vs_gtid.specs.declared.Entry.{Entry}
use Rattle.vs_gtid.specs.declared.JournalValue.{JournalValue}
use Rattle.vs_gtid.specs.Logs.{Log}
use Rattle.vs_gtid.specs.Missing.{IsFirstMissing}
use Rattle.vs_gtid.specs.Positions.{Position, IsCanonical, IsSubset}
use Rattle.vs_outside.specs.Clusters.{ClusterBytes, Shard, find_shard}
use Rattle.vs_outside.specs.Told.{IsPrefixOf}
use Rattle.vs_schema.specs.declared.schema.Schema.{Schema}
use Rattle.vs_schema.specs.declared.refusal.SchemaRefusal.{SchemaRefusal}
use Rattle.vs_schema.specs.declared.refusal.SchemaRefusal.TheVariants as refusal
use Rattle.vs_schema.specs.Rules.{schema_of}
use Rattle.vs_filter.specs.Causes.{UnboundIs}
use Rattle.vs_filter.specs.Picks.{bound_in}
use Rattle.vs_filter.specs.Rules.{Meant, first_fault, meant_by, picked_tables}
use Rattle.vs_filter.specs.declared.bound.Picked.{Picked}
use Rattle.vs_render.specs.Bodies.{columns_in}
use Rattle.vs_render.specs.Events.{Telling}
use Rattle.vs_render.specs.Frames.{frames_bytes}
use Rattle.vs_base.specs.declared.table.Table.{Table}
use Rattle.vs_filter.specs.declared.filter.FilterRefusal.TheVariants as filters
use Rattle.vs_select.specs.declared.refusal.SelectRefusal.{SelectRefusal}
use Rattle.vs_log.specs.Meaning.{log_meant}
use Rattle.vs_log.specs.Productions.{StandsAt}
use Rattle.vs_rows.specs.Tables.{Tables}
use Rattle.vs_log.specs.Table.{Rules}
use Rattle.vs_entries.specs.Rules.{rules_of}
use Rattle.vs_entries.specs.Reading.{no_schema}
use Rattle.vs_model.specs.Logs.{Cluster, log_of, due, stop, IsPositionAfter}
use Rattle.vs_gtid.specs.Vectors.{Vector}
use Rattle.vs_model.specs.Frames.{Frame, last_vector}
use Rattle.vs_model.specs.Copy.{Filter}
use Rattle.vs_model.specs.Legal.{Legal}
use Rattle.vs_model.specs.Reached.{IsSettled}
use Rattle.vs_model.specs.Requests.{First, OneShard, StartAt, From, FromEnd}
use Rattle.vs_command.specs.declared.status.RequestFault.{RequestFault}
use Rattle.vs_command.specs.declared.status.RequestFault.TheVariants.{BadPattern, PatternRefused, BadRule, Unbound}
use Rattle.vs_command.specs.declared.status.Status.{Status}
use Rattle.vs_command.specs.declared.status.Status.TheVariants.{Done, Memory, Usage, Request, UnknownShard, Purged, BadLog, FeedFault, LinkFault, InputFault, OpenFault, PositionTooLarge, Stopped, BadSchema, BadFrame}
use Rattle.vs_command.specs.declared.start.Start.{Start}
use Rattle.vs_command.specs.declared.start.Start.TheVariants.{At, Current}
use Rattle.vs_command.specs.Sizes.{IsNextOversized}
use Rattle.vs_command.specs.Requests.{Asks}
use Rattle.vs_command.specs.Sending.{IsCanonicalAlong, IsNextTooLarge, entries_bytes, position_after, vector_at}

-- the schema that was read, or one without tables
abbrev pub or_none : Result Schema SchemaRefusal → Schema
or_none (Ok schema) = schema
or_none (Err refused) = no_schema

-- the schema that a text says; of a text that is refused, one without tables
unfoldable pub schema_in : List ℕ → Schema
schema_in text = or_none (schema_of text)

-- how the log of a shard with this schema text is read
abbrev pub shard_rules : ShardName → List ℕ → Rules Tables
shard_rules s text = rules_of s.keyspace (schema_in text)

-- what the bytes of a shard's log mean, under its keyspace and its schema text
abbrev pub shard_log : ShardName → List ℕ → List ℕ → Log
shard_log s text bytes = log_meant (shard_rules s text) bytes

-- where the GTID events of the log's entries stand in its bytes
abbrev pub shard_places : ShardName → List ℕ → List ℕ → Gtid → ℕ → Type 0
shard_places s text bytes g at = StandsAt (shard_rules s text) bytes g at

-- the same of a shard that may be in the cluster
abbrev pub places_in : Option Shard → ShardName → Gtid → ℕ → Type 0
places_in None s g at = ⊥
places_in (Some shard) s g at = shard_places s shard.schema shard.log g at

-- the cluster, by what its logs mean
abbrev pub cluster_meant : ClusterBytes → Cluster
cluster_meant cluster = map (λ shard. (shard.name, shard_log shard.name shard.schema shard.log)) cluster

-- the tables of a shard that may be in the cluster, by its schema text
abbrev pub tables_in : Option Shard → List Table
tables_in None = []
tables_in (Some shard) = (schema_in shard.schema).tables

-- those of them that the rules pick
abbrev pub picks_in : List RuleText → Option Shard → List Picked
picks_in rules shard = picked_tables rules (tables_in shard)

-- the filter of a request over a cluster
abbrev pub filter_of : List RuleText → ClusterBytes → Filter
filter_of rules cluster s = bound_in (picks_in rules (find_shard cluster s)) (tables_in (find_shard cluster s))

-- what the frames of such a request tell: no switches at journals, and of each table the columns that leave
abbrev pub telling_of : List RuleText → ClusterBytes → Telling
telling_of rules cluster = record { journals = false; fields = λ s. columns_in (picks_in rules (find_shard cluster s)) }

-- from where a shard is asked for, as the rules of a request have it
abbrev pub start_at : Start → StartAt
start_at (At set) = From set
start_at Current = FromEnd

-- From a position the shard stops at a journal of its own, which has this number.
abbrev pub IsStoppedBy : ShardName → Log → Position → ℤ → Type 0
IsStoppedBy s log p id = (j : JournalValue) × (stop s log p ≡ Some j) × (j.id ≡ id)

-- The shard's base lies in its first position, and all that was due was sent; no journal stops it.
pub record HasSentAll (cluster : Cluster) (s : ShardName) (p : Position) (v : Vector) : Type 0 where
  pub base : IsSubset (log_of cluster s).base p
  pub settled : IsSettled cluster v

-- All that was due was sent, and the shard's own journal comes next, which has this number.
pub record HasComeToJournal (cluster : Cluster) (s : ShardName) (p : Position) (v : Vector) (id : ℤ) : Type 0 where
  pub base : IsSubset (log_of cluster s).base p
  pub q : Position
  pub is : v ≡ vector_at s q
  pub none : due s (log_of cluster s) q ≡ []
  pub stopped : IsStoppedBy s (log_of cluster s) q id

-- The next entry that is due to the shard makes a position of over 1,024 intervals.
pub record IsNextDueTooLarge (cluster : Cluster) (s : ShardName) (p : Position) (v : Vector) : Type 0 where
  pub base : IsSubset (log_of cluster s).base p
  pub q : Position
  pub is : v ≡ vector_at s q
  pub large : IsNextTooLarge q (due s (log_of cluster s) q)

-- The next entry that is due to the shard has a message over the limit, of so many bytes, and stands at this place.
pub record IsNextDueOversized (stands : Gtid → ℕ → Type 0) (tables : List Picked) (cluster : Cluster) (s : ShardName) (p : Position) (v : Vector) (at bytes : ℕ) : Type 0 where
  pub base : IsSubset (log_of cluster s).base p
  pub q : Position
  pub is : v ≡ vector_at s q
  pub oversized : IsNextOversized stands tables s (due s (log_of cluster s) q) at bytes

-- What is wrong with a log: what its bytes say, where all that was due was sent; or the next entry that is due has a message over the limit.
abbrev pub HasBadLogCause : (Gtid → ℕ → Type 0) → List Picked → Cluster → ShardName → Position → List Frame → ℕ → Why → Type 0
HasBadLogCause stands tables cluster s p frames offset why =
    (((log_of cluster s).fault ≡ Some (offset, why)) × HasSentAll cluster s p (last_vector (vector_at s p) frames))
    ⊎ ((bytes : ℕ) × (why ≡ TooLarge bytes) × IsNextDueOversized stands tables cluster s p (last_vector (vector_at s p) frames) offset bytes)

-- What an answer says of the shard that was asked for from a position, of its log, and of the vector that the stream came to; of other shards nothing is said here.
abbrev pub HasCause : (Gtid → ℕ → Type 0) → List Picked → Cluster → ShardName → Position → List Frame → Status → Type 0
HasCause stands tables cluster s p frames Done = HasSentAll cluster s p (last_vector (vector_at s p) frames) × ((log_of cluster s).fault ≡ None)
HasCause stands tables cluster s p frames (BadLog name offset why) = (name ≡ s) × HasBadLogCause stands tables cluster s p frames offset why
HasCause stands tables cluster s p frames (Purged name missing) = (name ≡ s) × IsFirstMissing (log_of cluster s).base p missing × (frames ≡ [])
HasCause stands tables cluster s p frames (PositionTooLarge name) = (name ≡ s) × IsNextDueTooLarge cluster s p (last_vector (vector_at s p) frames)
HasCause stands tables cluster s p frames (Stopped name id) = (name ≡ s) × HasComeToJournal cluster s p (last_vector (vector_at s p) frames) id
HasCause stands tables cluster s p frames LinkFault = IsSubset (log_of cluster s).base p
HasCause stands tables cluster s p frames Memory = Unit {0}
HasCause stands tables cluster s p frames Usage = ⊥
HasCause stands tables cluster s p frames (BadFrame number frame_why) = ⊥
HasCause stands tables cluster s p frames (Request fault) = ⊥
HasCause stands tables cluster s p frames (UnknownShard name) = ⊥
HasCause stands tables cluster s p frames (FeedFault name) = ⊥
HasCause stands tables cluster s p frames InputFault = ⊥
HasCause stands tables cluster s p frames (OpenFault name) = ⊥
HasCause stands tables cluster s p frames (BadSchema name line) = ⊥

-- the faults of rules, which come once a request was read
abbrev pub IsOfRules : RequestFault → Type 0
IsOfRules (BadPattern index) = Unit {0}
IsOfRules (PatternRefused index) = Unit {0}
IsOfRules (BadRule index at) = Unit {0}
IsOfRules (Unbound index why) = Unit {0}
IsOfRules fault = ⊥

-- the answers of a stream, once its request was read
abbrev pub IsOfStream : Status → Type 0
IsOfStream Usage = ⊥
IsOfStream (BadFrame number frame_why) = ⊥
IsOfStream (Request fault) = IsOfRules fault
IsOfStream InputFault = ⊥
IsOfStream Done = Unit {0}
IsOfStream Memory = Unit {0}
IsOfStream (UnknownShard name) = Unit {0}
IsOfStream (Purged name missing) = Unit {0}
IsOfStream (BadLog name offset why) = Unit {0}
IsOfStream (FeedFault name) = Unit {0}
IsOfStream LinkFault = Unit {0}
IsOfStream (OpenFault name) = Unit {0}
IsOfStream (PositionTooLarge name) = Unit {0}
IsOfStream (Stopped name id) = Unit {0}
IsOfStream (BadSchema name line) = Unit {0}

-- the answers of a stream whose log was read
abbrev pub IsOfLog : Status → Type 0
IsOfLog Done = Unit {0}
IsOfLog Memory = Unit {0}
IsOfLog (Purged name missing) = Unit {0}
IsOfLog (BadLog name offset why) = Unit {0}
IsOfLog LinkFault = Unit {0}
IsOfLog (PositionTooLarge name) = Unit {0}
IsOfLog (Stopped name id) = Unit {0}
IsOfLog Usage = ⊥
IsOfLog (BadFrame number frame_why) = ⊥
IsOfLog (Request fault) = ⊥
IsOfLog InputFault = ⊥
IsOfLog (UnknownShard name) = ⊥
IsOfLog (FeedFault name) = ⊥
IsOfLog (OpenFault name) = ⊥
IsOfLog (BadSchema name line) = ⊥

-- the answers that come before a stream begins
abbrev pub IsBeforeStream : Status → Type 0
IsBeforeStream Usage = Unit {0}
IsBeforeStream (BadFrame number frame_why) = ⊥
IsBeforeStream (Request fault) = Unit {0}
IsBeforeStream InputFault = Unit {0}
IsBeforeStream Memory = Unit {0}
IsBeforeStream Done = ⊥
IsBeforeStream (UnknownShard name) = ⊥
IsBeforeStream (Purged name missing) = ⊥
IsBeforeStream (BadLog name offset why) = ⊥
IsBeforeStream (FeedFault name) = ⊥
IsBeforeStream LinkFault = ⊥
IsBeforeStream (OpenFault name) = ⊥
IsBeforeStream (PositionTooLarge name) = ⊥
IsBeforeStream (Stopped name id) = ⊥
IsBeforeStream (BadSchema name line) = ⊥

-- the schema text of a shard is refused at this line
abbrev pub HasBadSchema : Option Shard → ℕ → Type 0
HasBadSchema None line = ⊥
HasBadSchema (Some shard) line = schema_of shard.schema ≡ Err (refusal.BadSchema line)

-- a schema text reads, and the select of this rule is the first that doesn't bind to it, for this reason
abbrev pub IsUnboundTo : List ℕ → List Meant → ℕ → SelectRefusal → Type 0
IsUnboundTo text rules index why = (schema : Schema) × (schema_of text ≡ Ok schema) × UnboundIs rules schema.tables (filters.Unbound index why)

-- the same, as the fault of the request that it is
abbrev pub IsFaultOfBinding : List ℕ → List Meant → RequestFault → Type 0
IsFaultOfBinding text rules fault = (index : ℕ) × (why : SelectRefusal) × (fault ≡ Unbound index why) × IsUnboundTo text rules index why

-- the same of the schema text of a shard, which is there
abbrev pub IsUnboundIn : Option Shard → List Meant → ℕ → SelectRefusal → Type 0
IsUnboundIn None rules index why = ⊥
IsUnboundIn (Some shard) rules index why = IsUnboundTo shard.schema rules index why

-- a rule whose select doesn't bind, as the fault of the request that it is
abbrev pub IsUnboundFault : Option Shard → List Meant → RequestFault → Type 0
IsUnboundFault shard rules fault = (index : ℕ) × (why : SelectRefusal) × (fault ≡ Unbound index why) × IsUnboundIn shard rules index why

-- The answers that come where no stream of the shard began: its log was not read, or memory ran out before the start was known.
abbrev pub IsUnread : ClusterBytes → ShardName → List Meant → Status → Type 0
IsUnread cluster s rules (UnknownShard name) = (name ≡ s) × (find_shard cluster s ≡ None)
IsUnread cluster s rules (BadSchema name line) = (name ≡ s) × HasBadSchema (find_shard cluster s) line
IsUnread cluster s rules (Request fault) = IsUnboundFault (find_shard cluster s) rules fault
IsUnread cluster s rules (FeedFault name) = name ≡ s
IsUnread cluster s rules (OpenFault name) = name ≡ s
IsUnread cluster s rules Memory = Unit {0}
IsUnread cluster s rules Usage = ⊥
IsUnread cluster s rules (BadFrame number frame_why) = ⊥
IsUnread cluster s rules (Purged name missing) = ⊥
IsUnread cluster s rules (BadLog name offset why) = ⊥
IsUnread cluster s rules LinkFault = ⊥
IsUnread cluster s rules InputFault = ⊥
IsUnread cluster s rules (PositionTooLarge name) = ⊥
IsUnread cluster s rules (Stopped name id) = ⊥
IsUnread cluster s rules Done = ⊥

-- What was written for a shard, from a first vector of the request: the bytes of legal frames, or a beginning of them where the link failed.
-- Where the feed never waited, a stream from the log's end starts behind all of its entries.
pub record Answers (cluster : ClusterBytes) (name : ShardName) (start : Start) (rules : List RuleText) (waited : Type 0) (status : Status) (written : List ℕ) : Type 0 where
  pub known : find_shard cluster name ≢ None
  pub p : Position
  pub frames : List Frame
  pub first : First (cluster_meant cluster) (OneShard name (start_at start) ∷ []) (vector_at name p)
  pub at_end : start ≡ Current → (waited → ⊥) → IsPositionAfter (log_of (cluster_meant cluster) name).base (log_of (cluster_meant cluster) name).entries p
  pub legal : Legal (cluster_meant cluster) (filter_of rules cluster) (vector_at name p) frames
  pub bytes : List ℕ
  pub spelled : bytes ≡ frames_bytes (telling_of rules cluster) frames
  pub prefix : IsPrefixOf written bytes
  pub whole : status ≢ LinkFault → written ≡ bytes
  pub cause : HasCause (places_in (find_shard cluster name) name) (picks_in rules (find_shard cluster name)) (cluster_meant cluster) name p frames status

-- A shard was asked for: no stream of it began, and nothing was written; or what was written answers.
pub data Outcome (cluster : ClusterBytes) (name : ShardName) (start : Start) (rules : List RuleText) (waited : Type 0) (status : Status) (written : List ℕ) : Type 0 where
  unread : written ≡ [] → IsUnread cluster name (map meant_by rules) status → Outcome cluster name start rules waited status written
  answers : Answers cluster name start rules waited status written → Outcome cluster name start rules waited status written

-- the position is a start of the log that was asked for; where the whole log was there, one from the end is behind all entries
abbrev pub IsStart : Log → Start → Type 0 → Position → Type 0
IsStart log (At set) whole p = p ≡ set
IsStart log Current whole p = (m : ℕ) × IsPositionAfter log.base (take m log.entries) p × (whole → take m log.entries ≡ log.entries)

-- what is wrong with a log, by what was sent of it
abbrev pub HasFault : (Gtid → ℕ → Type 0) → List Picked → ShardName → Log → Position → List Entry → ℕ → Why → Type 0
HasFault stands tables s log p rest offset why =
    ((log.fault ≡ Some (offset, why)) × (rest ≡ []) × IsSubset log.base p × (stop s log p ≡ None))
    ⊎ ((bytes : ℕ) × (why ≡ TooLarge bytes) × IsNextOversized stands tables s rest offset bytes × IsSubset log.base p)

-- What an answer about the log of a shard says of it, and of the entries that were sent and those left; the other answers are none about a log.
abbrev pub HasLogCause : (Gtid → ℕ → Type 0) → List Picked → ShardName → Log → Position → List Entry → List Entry → Status → Type 0
HasLogCause stands tables s log p sent rest Done = (rest ≡ []) × IsSubset log.base p × (stop s log p ≡ None) × (log.fault ≡ None)
HasLogCause stands tables s log p sent rest (BadLog name offset why) = (name ≡ s) × HasFault stands tables s log p rest offset why
HasLogCause stands tables s log p sent rest (Purged name missing) = (name ≡ s) × IsFirstMissing log.base p missing × (sent ≡ [])
HasLogCause stands tables s log p sent rest (PositionTooLarge name) = (name ≡ s) × IsNextTooLarge (position_after p sent) rest × IsSubset log.base p
HasLogCause stands tables s log p sent rest (Stopped name id) = (name ≡ s) × (rest ≡ []) × IsSubset log.base p × IsStoppedBy s log p id
HasLogCause stands tables s log p sent rest LinkFault = IsSubset log.base p
HasLogCause stands tables s log p sent rest Memory = Unit {0}
HasLogCause stands tables s log p sent rest Usage = ⊥
HasLogCause stands tables s log p sent rest (BadFrame number frame_why) = ⊥
HasLogCause stands tables s log p sent rest (Request fault) = ⊥
HasLogCause stands tables s log p sent rest (UnknownShard name) = ⊥
HasLogCause stands tables s log p sent rest (FeedFault name) = ⊥
HasLogCause stands tables s log p sent rest InputFault = ⊥
HasLogCause stands tables s log p sent rest (OpenFault name) = ⊥
HasLogCause stands tables s log p sent rest (BadSchema name line) = ⊥

-- What was written of a log, from a position: the frames of the first entries that are due, and where the link failed a beginning of them.
pub record IsStreamed (stands : Gtid → ℕ → Type 0) (tables : List Picked) (s : ShardName) (log : Log) (p : Position) (status : Status) (written : List ℕ) : Type 0 where
  pub sent : List Entry
  pub rest : List Entry
  pub are : due s log p ≡ sent ++ rest
  pub canonical : IsCanonicalAlong p sent
  pub prefix : IsPrefixOf written (entries_bytes tables s p sent)
  pub whole : status ≢ LinkFault → written ≡ entries_bytes tables s p sent
  pub base : (sent ≡ []) ⊎ IsSubset log.base p
  pub cause : HasLogCause stands tables s log p sent rest status

-- a stream of a log from a start, or want of memory before it
abbrev pub IsStreamedFrom : (Gtid → ℕ → Type 0) → List Picked → ShardName → Log → Start → Type 0 → Status → List ℕ → Type 0
IsStreamedFrom stands tables s log start whole status written =
    ((status ≡ Memory) × (written ≡ []))
    ⊎ ((p : Position) × IsStart log start whole p × IsCanonical p × IsStreamed stands tables s log p status written)

-- The headline: what is written answers the request frame at the front of the input, or nothing is written and the answer came before any stream.
-- `waited` says of a shard that its feed had nothing yet in the call.
pub data Headline (cluster : ClusterBytes) (waited : ShardName → Type 0) (input : List ℕ) (status : Status) (written : List ℕ) : Type 0 where
  asked : (name : ShardName) (start : Start) (rules : List RuleText) → Asks input name start rules → Outcome cluster name start rules (waited name) status written → Headline cluster waited input status written
  silent : written ≡ [] → IsBeforeStream status → Headline cluster waited input status written

-- What comes of a request for a shard by these rules: they are refused, or memory ran out, and nothing is written; or no rule has a fault, and the shard is streamed.
pub data Filtered (cluster : ClusterBytes) (name : ShardName) (start : Start) (rules : List RuleText) (waited : Type 0) (status : Status) (written : List ℕ) : Type 0 where
  refused : written ≡ [] → IsBeforeStream status → Filtered cluster name start rules waited status written
  taken : first_fault rules ≡ None → Outcome cluster name start rules waited status written → Filtered cluster name start rules waited status written
