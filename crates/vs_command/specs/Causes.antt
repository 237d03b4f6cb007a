-- When each answer comes: what of the request and of the log of its shard asks for it.
use Rattle.std.specs.Prelude.{◌≡◌, ◌⊎◌, ℕ, ℤ, List, map, take, Option, Some, None, Ok, Err}
use Rattle.vs_base.specs.declared.Gtid.{Gtid}
use Rattle.vs_base.specs.declared.ShardName.{ShardName}
use Rattle.vs_base.specs.declared.rule_text.RuleText.{RuleText}
use Rattle.vs_base.specs.declared.Why.{Why}
use Rattle.vs_base.specs.declared.Why.TheVariants.{TooLarge}
use Rattle.vs_gtid.specs.declared.Entry.{Entry}
use Rattle.vs_gtid.specs.declared.JournalValue.{JournalValue}
use Rattle.vs_gtid.specs.Logs.{Log}
use Rattle.vs_gtid.specs.Missing.{IsFirstMissing}
use Rattle.vs_gtid.specs.Positions.{IsCanonical, IsSubset, Position}
use Rattle.vs_outside.specs.Clusters.{ClusterBytes, Shard, find_shard}
use Rattle.vs_outside.specs.Counts.{Rose}
use Rattle.vs_schema.specs.declared.schema.Schema.{Schema}
use Rattle.vs_schema.specs.declared.refusal.SchemaRefusal.TheVariants as refusal
use Rattle.vs_schema.specs.Rules.{schema_of}
use Rattle.vs_filter.specs.Causes.{FaultIs, HasPatternAt}
use Rattle.vs_filter.specs.declared.filter.FilterRefusal.{FilterRefusal}
use Rattle.vs_filter.specs.declared.filter.FilterRefusal.TheVariants as filters
use Rattle.vs_filter.specs.Rules.{Meant, NoPattern, NoSelect, first_fault, first_unbound, meant_by, picked_by}
use Rattle.vs_select.specs.declared.refusal.SelectRefusal.{SelectRefusal}
use Rattle.vs_log.specs.Laws.{FitAlong}
use Rattle.vs_model.specs.Logs.{IsPositionAfter, after, due, stop}
use Rattle.vs_command.specs.declared.start.Start.{Start}
use Rattle.vs_command.specs.declared.start.Start.TheVariants.{At, Current}
use Rattle.vs_command.specs.declared.status.RequestFault.{RequestFault}
use Rattle.vs_command.specs.declared.status.RequestFault.TheVariants.{BadPattern, PatternRefused, BadRule, Unbound}
use Rattle.vs_command.specs.declared.status.Status.{Status}
use Rattle.vs_command.specs.declared.status.Status.TheVariants.{Done, Memory, Usage, Request, UnknownShard, Purged, BadLog, FeedFault, LinkFault, InputFault, OpenFault, PositionTooLarge, Stopped, BadSchema, BadFrame}
use Rattle.vs_command.specs.Sizes.{IsOversizedAt, first_oversized, sendable_front}
use Rattle.vs_filter.specs.declared.bound.Picked.{Picked}
use Rattle.vs_command.specs.Requests.{Asks, HasTaken, IsFaultOf, IsFaultOfRules, IsRequestFrame, TakesOf}
use Rattle.vs_command.specs.Sending.{IsTooLargeAlong}
use Rattle.vs_command.specs.Streaming.{IsStoppedBy, IsUnboundIn, shard_log, shard_places}

-- the pattern of a rule was refused for another reason than its text
abbrev pub IsRefusedPattern : RequestFault → Type 0
IsRefusedPattern fault = (index : ℕ) × (fault ≡ PatternRefused index)

-- The answers that what is outside brings: want of memory, the faults of input, output, feed and fetch, and a refused pattern.
abbrev pub IsOutside : Status → Type 0
IsOutside Memory = Unit {0}
IsOutside InputFault = Unit {0}
IsOutside LinkFault = Unit {0}
IsOutside (FeedFault name) = Unit {0}
IsOutside (OpenFault name) = Unit {0}
IsOutside Done = ⊥
IsOutside Usage = ⊥
IsOutside (BadFrame number frame_why) = ⊥
IsOutside (Request fault) = IsRefusedPattern fault
IsOutside (UnknownShard name) = ⊥
IsOutside (Purged name missing) = ⊥
IsOutside (BadLog name offset why) = ⊥
IsOutside (PositionTooLarge name) = ⊥
IsOutside (Stopped name id) = ⊥
IsOutside (BadSchema name line) = ⊥

-- The log's base lies in the start. The log's end holds it always.
abbrev pub HoldsBase : Log → Start → Type 0
HoldsBase log (At p) = IsSubset log.base p
HoldsBase log Current = Unit {0}

-- a position from which a log is streamed: that of the start; or of the log's end, as it stood at some time, from where no position is too large
abbrev pub IsFrom : Log → Start → Position → Type 0
IsFrom log (At q) p = p ≡ q
IsFrom log Current p = IsCanonical p × FitAlong p (after log p) × (m : ℕ) × IsPositionAfter log.base (take m log.entries) p

-- what ends a stream of a log: the first entry that can't be sent, at the place of its GTID event; where each can be sent, and no journal of the shard's own stops it, the log's own fault
abbrev pub StreamEndsAt : (Gtid → ℕ → Type 0) → List Picked → ShardName → Option JournalValue → Option (ℕ × Why) → Option Entry → Option (ℕ × Why) → Type 0
StreamEndsAt stands tables s journal own (Some e) fault = (at bytes : ℕ) × IsOversizedAt stands tables s e at bytes × (fault ≡ Some (at, TooLarge bytes))
StreamEndsAt stands tables s None own None fault = fault ≡ own
StreamEndsAt stands tables s (Some j) own None fault = ⊥

abbrev pub EndsWith : (Gtid → ℕ → Type 0) → List Picked → ShardName → Log → Position → Option (ℕ × Why) → Type 0
EndsWith stands tables s log p fault = StreamEndsAt stands tables s (stop s log p) log.fault (first_oversized tables s (due s log p)) fault

-- each entry that is due can be sent, and behind them stands a journal of the shard's own, which has this number
abbrev pub EndsAtJournal : List Picked → ShardName → Log → Position → ℤ → Type 0
EndsAtJournal tables s log p id = (first_oversized tables s (due s log p) ≡ None) × IsStoppedBy s log p id

-- all that is due from a position can be sent, up to the first entry that is too large: none of these makes a position that is too large
pub record CanBeSent (tables : List Picked) (s : ShardName) (log : Log) (p : Position) : Type 0 where
  pub base : IsSubset log.base p
  pub room : IsTooLargeAlong p (sendable_front tables s (due s log p)) → ⊥

-- What a shard's log asks for, from a position, where these tables are picked. `stands` says where the GTID events of its entries stand.
abbrev pub PositionAsksFor : (Gtid → ℕ → Type 0) → List Picked → ShardName → Log → Position → Status → Type 0
PositionAsksFor stands tables s log p Done = CanBeSent tables s log p × EndsWith stands tables s log p None
PositionAsksFor stands tables s log p (BadLog name offset why) = (name ≡ s) × CanBeSent tables s log p × EndsWith stands tables s log p (Some (offset, why))
PositionAsksFor stands tables s log p (Purged name missing) = (name ≡ s) × IsFirstMissing log.base p missing
PositionAsksFor stands tables s log p (PositionTooLarge name) = (name ≡ s) × IsSubset log.base p × IsTooLargeAlong p (sendable_front tables s (due s log p))
PositionAsksFor stands tables s log p (Stopped name id) = (name ≡ s) × CanBeSent tables s log p × EndsAtJournal tables s log p id
PositionAsksFor stands tables s log p (UnknownShard name) = ⊥
PositionAsksFor stands tables s log p Memory = ⊥
PositionAsksFor stands tables s log p Usage = ⊥
PositionAsksFor stands tables s log p (BadFrame number frame_why) = ⊥
PositionAsksFor stands tables s log p (Request fault) = ⊥
PositionAsksFor stands tables s log p (FeedFault name) = ⊥
PositionAsksFor stands tables s log p LinkFault = ⊥
PositionAsksFor stands tables s log p InputFault = ⊥
PositionAsksFor stands tables s log p (OpenFault name) = ⊥
PositionAsksFor stands tables s log p (BadSchema name line) = ⊥

-- the same from a start: from the log's end it hangs on how the feed came, so this is one of the answers that may come
abbrev pub LogAsksFor : (Gtid → ℕ → Type 0) → List Picked → ShardName → Log → Start → Status → Type 0
LogAsksFor stands tables s log start status = (p : Position) × IsFrom log start p × PositionAsksFor stands tables s log p status

-- and this is the answer, however the feed came
abbrev pub LogOwes : (Gtid → ℕ → Type 0) → List Picked → ShardName → Log → Start → Status → Type 0
LogOwes stands tables s log start status = (p : Position) → IsFrom log start p → PositionAsksFor stands tables s log p status

-- a shard's schema text reads, the rules bind to it, and its log asks for this answer
abbrev pub AsksByItsLog : ((Gtid → ℕ → Type 0) → List Picked → ShardName → Log → Start → Status → Type 0) → Shard → ShardName → Start → List Meant → Status → Type 0
AsksByItsLog asks shard s start rules status =
    (schema : Schema) × (schema_of shard.schema ≡ Ok schema) × (first_unbound rules schema.tables ≡ None) ×
    asks (shard_places s shard.schema shard.log) (picked_by rules schema.tables) s (shard_log s shard.schema shard.log) start status

-- what a shard that may be in the cluster asks for, from a start and by rules
abbrev pub ShardAsksFor : ((Gtid → ℕ → Type 0) → List Picked → ShardName → Log → Start → Status → Type 0) → Option Shard → ShardName → Start → List Meant → Status → Type 0
ShardAsksFor asks None s start rules status = status ≡ UnknownShard s
ShardAsksFor asks (Some shard) s start rules status =
    ((line : ℕ) × (schema_of shard.schema ≡ Err (refusal.BadSchema line)) × (status ≡ BadSchema s line))
    ⊎ (((index : ℕ) × (why : SelectRefusal) × IsUnboundIn (Some shard) rules index why × (status ≡ Request (Unbound index why))) ⊎ AsksByItsLog asks shard s start rules status)

-- what is asked for where a shard is asked for by these rules: a fault of theirs, or what the shard asks for
abbrev pub RulesAskFor : Option Shard → ShardName → Start → List RuleText → Status → Type 0
RulesAskFor shard s start rules status =
    ((fault : RequestFault) × IsFaultOfRules rules fault × (status ≡ Request fault)) ⊎ ((first_fault rules ≡ None) × ShardAsksFor LogAsksFor shard s start (map meant_by rules) status)

-- the input asks for a shard that the cluster lacks
abbrev pub IsUnknown : ClusterBytes → List ℕ → ShardName → Type 0
IsUnknown cluster input name = (start : Start) × (rules : List RuleText) × Asks input name start rules × (find_shard cluster name ≡ None)

-- the input asks for a shard of the cluster whose schema text is refused at this line
abbrev pub IsBadSchema : ClusterBytes → List ℕ → ShardName → ℕ → Type 0
IsBadSchema cluster input name line =
    (start : Start) × (rules : List RuleText) × (shard : Shard) × Asks input name start rules × (find_shard cluster name ≡ Some shard) × (schema_of shard.schema ≡ Err (refusal.BadSchema line))

-- the input asks for a shard of the cluster whose schema text reads, by rules of which this is the first that doesn't bind to it, for this reason
abbrev pub IsUnbound : ClusterBytes → List ℕ → ℕ → SelectRefusal → Type 0
IsUnbound cluster input index why =
    (name : ShardName) × (start : Start) × (rules : List RuleText) × Asks input name start rules × IsUnboundIn (find_shard cluster name) (map meant_by rules) index why

-- the input asks for a shard of the cluster from a start; its schema text reads, the rules bind to it, and its log asks for this answer
abbrev pub AnswersBy : ((Gtid → ℕ → Type 0) → List Picked → ShardName → Log → Start → Status → Type 0) → ClusterBytes → List ℕ → Status → Type 0
AnswersBy asks cluster input status =
    (name : ShardName) × (start : Start) × (rules : List RuleText) × (shard : Shard) × Asks input name start rules × (find_shard cluster name ≡ Some shard) ×
    AsksByItsLog asks shard name start (map meant_by rules) status

abbrev pub AnswersLog : ClusterBytes → List ℕ → Status → Type 0
AnswersLog cluster input status = AnswersBy LogAsksFor cluster input status

-- and it does so however the feed came
abbrev pub OwesLog : ClusterBytes → List ℕ → Status → Type 0
OwesLog cluster input status = AnswersBy LogOwes cluster input status

-- What is wrong with a request: the input has this fault, or a rule doesn't bind to the shard's schema.
abbrev pub IsFaultDue : ClusterBytes → List ℕ → RequestFault → Type 0
IsFaultDue cluster input fault = IsFaultOf input fault ⊎ ((index : ℕ) × (why : SelectRefusal) × (fault ≡ Unbound index why) × IsUnbound cluster input index why)

abbrev pub IsDueBy : ((Gtid → ℕ → Type 0) → List Picked → ShardName → Log → Start → Status → Type 0) → ClusterBytes → List ℕ → Status → Type 0
IsDueBy asks cluster input (Request fault) = IsFaultDue cluster input fault
IsDueBy asks cluster input (UnknownShard name) = IsUnknown cluster input name
IsDueBy asks cluster input (BadSchema name line) = IsBadSchema cluster input name line
IsDueBy asks cluster input status = AnswersBy asks cluster input status

-- The answer that the input and the cluster ask for. From a log's end it hangs on how the feed came, so there it is one that may come.
abbrev pub IsDue : ClusterBytes → List ℕ → Status → Type 0
IsDue cluster input status = IsDueBy LogAsksFor cluster input status

-- The answer that they ask for however the feed came.
abbrev pub IsOwed : ClusterBytes → List ℕ → Status → Type 0
IsOwed cluster input status = IsDueBy LogOwes cluster input status

-- What was taken of the input: of a request just its frame, or less where there is none; with other words nothing.
abbrev pub HasRead : Option (List ℕ) → Option (List ℕ) → Status → Type 0
HasRead before now Usage = now ≡ before
HasRead before now Memory = Unit {0}
HasRead before now InputFault = Unit {0}
HasRead before now (Request fault) = TakesOf before now (HasTaken fault)
HasRead before now status = TakesOf before now (λ taken rest. IsRequestFrame taken)

-- What the refusal of a request whose frame was read says of its rules, by the counts of refused patterns before and now. Of one that doesn't bind it is said elsewhere.
abbrev pub RefusesRules : List RuleText → ℕ → ℕ → RequestFault → Type 0
RefusesRules rules before now (BadPattern index) = FaultIs rules index NoPattern
RefusesRules rules before now (PatternRefused index) = HasPatternAt rules index × Rose before now
RefusesRules rules before now (BadRule index at) = FaultIs rules index (NoSelect at)
RefusesRules rules before now (Unbound index why) = Unit {0}
RefusesRules rules before now fault = ⊥

-- the select of a rule doesn't bind
abbrev pub IsBindingFault : RequestFault → Type 0
IsBindingFault fault = (index : ℕ) × (why : SelectRefusal) × (fault ≡ Unbound index why)

-- a refusal of rules, as the end that it is
abbrev pub refusal_status : FilterRefusal → Status
refusal_status (filters.BadPattern index) = Request (BadPattern index)
refusal_status (filters.PatternRefused index) = Request (PatternRefused index)
refusal_status (filters.BadRule index at) = Request (BadRule index at)
refusal_status (filters.Unbound index why) = Request (Unbound index why)
refusal_status filters.Memory = Memory

-- an answer is from outside, or the fault of a rule, or no rule has one
abbrev pub AnswersRules : List RuleText → Status → Type 0
AnswersRules rules status = IsOutside status ⊎ (((fault : RequestFault) × IsFaultOfRules rules fault × (status ≡ Request fault)) ⊎ (first_fault rules ≡ None))
