-- Where the answers from outside come, and the stages of the work: an answer is given at one of them, and none comes in place of one that is due at an earlier stage.
use Rattle.std.specs.Prelude.{◌≡◌, ◌⊎◌, ℕ, List, map, Option, Some, None, Ok}
use Rattle.vs_base.specs.declared.ShardName.{ShardName}
use Rattle.vs_base.specs.declared.rule_text.RuleText.{RuleText}
use Rattle.vs_gtid.specs.Logs.{Log}
use Rattle.vs_outside.specs.Clusters.{ClusterBytes, Shard, find_shard}
use Rattle.vs_schema.specs.declared.schema.Schema.{Schema}
use Rattle.vs_schema.specs.Rules.{schema_of}
use Rattle.vs_filter.specs.Causes.{HasPatternAt}
use Rattle.vs_filter.specs.Rules.{Meant, first_fault, first_unbound, meant_by}
use Rattle.vs_command.specs.declared.start.Start.{Start}
use Rattle.vs_command.specs.declared.status.RequestFault.{RequestFault}
use Rattle.vs_command.specs.declared.status.RequestFault.TheVariants.{BadPattern, PatternRefused, BadRule, Unbound}
use Rattle.vs_command.specs.declared.status.Status.{Status}
use Rattle.vs_command.specs.declared.status.Status.TheVariants.{Done, Memory, Usage, Request, UnknownShard, Purged, BadLog, FeedFault, LinkFault, InputFault, OpenFault, PositionTooLarge, Stopped, BadSchema, BadFrame}
use Rattle.vs_command.specs.Causes.{HoldsBase}
use Rattle.vs_command.specs.Requests.{Asks, HasPatternIn}
use Rattle.vs_command.specs.Streaming.{shard_log}

-- the schema text of the shard, which is there, reads, and the rules bind to it
abbrev pub HasBinding : Option Shard → List Meant → Type 0
HasBinding None rules = ⊥
HasBinding (Some shard) rules = (schema : Schema) × (schema_of shard.schema ≡ Ok schema) × (first_unbound rules schema.tables ≡ None)

-- and the base of its log lies in the start
abbrev pub CanBegin : Option Shard → ShardName → Start → List Meant → Type 0
CanBegin None s start rules = ⊥
CanBegin (Some shard) s start rules = HasBinding (Some shard) rules × HoldsBase (shard_log s shard.schema shard.log) start

-- an answer from outside, of a stream of a log: the link fails once its base lies in the start
abbrev pub IsBroughtOf : Log → Start → Status → Type 0
IsBroughtOf log start Memory = Unit {0}
IsBroughtOf log start LinkFault = HoldsBase log start
IsBroughtOf log start InputFault = ⊥
IsBroughtOf log start (FeedFault name) = ⊥
IsBroughtOf log start (OpenFault name) = ⊥
IsBroughtOf log start Done = ⊥
IsBroughtOf log start Usage = ⊥
IsBroughtOf log start (BadFrame number frame_why) = ⊥
IsBroughtOf log start (Request fault) = ⊥
IsBroughtOf log start (UnknownShard name) = ⊥
IsBroughtOf log start (Purged name missing) = ⊥
IsBroughtOf log start (BadLog name offset why) = ⊥
IsBroughtOf log start (PositionTooLarge name) = ⊥
IsBroughtOf log start (Stopped name id) = ⊥
IsBroughtOf log start (BadSchema name line) = ⊥

-- an answer from outside, where a shard was asked for from a start and by rules
abbrev pub IsBroughtOn : Option Shard → ShardName → Start → List Meant → Status → Type 0
IsBroughtOn shard s start rules Memory = Unit {0}
IsBroughtOn shard s start rules (OpenFault name) = name ≡ s
IsBroughtOn shard s start rules (FeedFault name) = (name ≡ s) × HasBinding shard rules
IsBroughtOn shard s start rules LinkFault = CanBegin shard s start rules
IsBroughtOn shard s start rules InputFault = ⊥
IsBroughtOn shard s start rules Done = ⊥
IsBroughtOn shard s start rules Usage = ⊥
IsBroughtOn shard s start rules (BadFrame number frame_why) = ⊥
IsBroughtOn shard s start rules (Request fault) = ⊥
IsBroughtOn shard s start rules (UnknownShard name) = ⊥
IsBroughtOn shard s start rules (Purged name missing) = ⊥
IsBroughtOn shard s start rules (BadLog name offset why) = ⊥
IsBroughtOn shard s start rules (PositionTooLarge name) = ⊥
IsBroughtOn shard s start rules (Stopped name id) = ⊥
IsBroughtOn shard s start rules (BadSchema name line) = ⊥

-- and where the rules were not built before
abbrev pub IsBroughtBy : Option Shard → ShardName → Start → List RuleText → Status → Type 0
IsBroughtBy shard s start rules status =
    (status ≡ Memory) ⊎ (((index : ℕ) × HasPatternAt rules index × (status ≡ Request (PatternRefused index))) ⊎ ((first_fault rules ≡ None) × IsBroughtOn shard s start (map meant_by rules) status))

-- An answer from outside: want of memory and a fault of the input at any time; the others once the input asked for a shard.
-- A pattern is refused where no rule before it has a fault, a feed fails once the rules are bound to the schema text, and the link once the base of the log lies in the start.
abbrev pub IsBrought : ClusterBytes → List ℕ → Status → Type 0
IsBrought cluster input Memory = Unit {0}
IsBrought cluster input InputFault = Unit {0}
IsBrought cluster input (Request fault) = (index : ℕ) × (fault ≡ PatternRefused index) × HasPatternIn input index
IsBrought cluster input (OpenFault name) = (start : Start) × (rules : List RuleText) × Asks input name start rules
IsBrought cluster input (FeedFault name) = (start : Start) × (rules : List RuleText) × Asks input name start rules × HasBinding (find_shard cluster name) (map meant_by rules)
IsBrought cluster input LinkFault = (name : ShardName) × (start : Start) × (rules : List RuleText) × Asks input name start rules × CanBegin (find_shard cluster name) name start (map meant_by rules)
IsBrought cluster input Done = ⊥
IsBrought cluster input Usage = ⊥
IsBrought cluster input (BadFrame number frame_why) = ⊥
IsBrought cluster input (UnknownShard name) = ⊥
IsBrought cluster input (Purged name missing) = ⊥
IsBrought cluster input (BadLog name offset why) = ⊥
IsBrought cluster input (PositionTooLarge name) = ⊥
IsBrought cluster input (Stopped name id) = ⊥
IsBrought cluster input (BadSchema name line) = ⊥

-- the stage at which a request is refused: its rules are built behind it, and bound behind the schema text
abbrev pub request_stage : RequestFault → ℕ
request_stage (BadPattern index) = 2
request_stage (PatternRefused index) = 2
request_stage (BadRule index at) = 2
request_stage (Unbound index why) = 5
request_stage fault = 1

-- The stage of the work at which an answer is given: the words and the memory, the request, its rules, the shard, its schema text, the rules over that, the log, and what is sent.
abbrev pub stage : Status → ℕ
stage Usage = 0
stage (BadFrame number frame_why) = 0
stage Memory = 0
stage (Request fault) = request_stage fault
stage InputFault = 1
stage (UnknownShard name) = 3
stage (OpenFault name) = 3
stage (BadSchema name line) = 4
stage (FeedFault name) = 6
stage (Purged name missing) = 6
stage LinkFault = 7
stage Done = 7
stage (BadLog name offset why) = 7
stage (PositionTooLarge name) = 7
stage (Stopped name id) = 7
