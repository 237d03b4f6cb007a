-- What the bytes of a message ask for, or the first thing that is wrong with them: they are no message; it has no entry, or
-- too many; an entry has a fault; there are too many rules.
use Rattle.std.specs.Prelude.{All, ◌≡◌, ◌≤◌, ◌<◌, ℕ, true, false, List, [], length, map, Option, Some, None, Result, Ok, Err}
use Rattle.vs_proto.specs.Answers.{RefusesMessage}
use Rattle.vs_proto.specs.Shapes.{read}
use Rattle.vs_proto.specs.Tables.{request}
use Rattle.vs_proto.specs.declared.refusal.ProtoRefusal.{ProtoRefusal}
use Rattle.vs_proto.specs.declared.refusal.ProtoRefusal.TheVariants as protos
use Rattle.vs_proto.specs.declared.request.Filter.{Filter}
use Rattle.vs_proto.specs.declared.request.Flags as wire
use Rattle.vs_proto.specs.declared.request.Rule.{Rule}
use Rattle.vs_proto.specs.declared.request.VStreamRequest.{VStreamRequest}
use Rattle.vs_proto.specs.declared.vgtid.ShardGtid.{ShardGtid}
use Rattle.vs_proto.specs.declared.vgtid.VGtid.{VGtid}
use Rattle.vs_request.specs.declared.request.Flags.{Flags}
use Rattle.vs_request.specs.declared.request.Request.{Request}
use Rattle.vs_base.specs.declared.rule_text.RuleText.{RuleText}
use Rattle.vs_request.specs.declared.request.Wanted.{Wanted}
use Rattle.vs_request.specs.declared.refusal.RequestRefusal.{RequestRefusal}
use Rattle.vs_request.specs.declared.refusal.RequestRefusal.TheVariants.{Message, TooManyRules}
use Rattle.vs_request.specs.Entries.{AskFor, IsFaultIn, IsLawfulCount, IsLawfulEntry}

-- ---- the parts of a message; one that is absent counts as the message of no bytes

abbrev pub entries_in : Option VGtid → List ShardGtid
entries_in None = []
entries_in (Some vgtid) = vgtid.shard_gtids

abbrev pub rules_in : Option Filter → List Rule
rules_in None = []
rules_in (Some filter) = filter.rules

abbrev pub rule_text : Rule → RuleText
rule_text rule = record { pattern = rule.pattern; filter = rule.filter }

abbrev pub flags_in : Option wire.Flags → Flags
flags_in None = record { max_skew = 0; heartbeat_interval = 0; stop_on_reshard = false; include_journals = false }
flags_in (Some flags) = record {
  max_skew = flags.max_skew;
  heartbeat_interval = flags.heartbeat_interval;
  stop_on_reshard = flags.stop_on_reshard;
  include_journals = flags.include_journals;
}

-- ---- what a message asks for

-- The message has no fault, and asks for this.
pub record Means (message : VStreamRequest) (asked : Request) : Type 0 where
  pub entries : AskFor (entries_in message.vgtid) asked.entries
  pub few_rules : length (rules_in message.filter) ≤ 256
  pub rules : asked.rules ≡ map rule_text (rules_in message.filter)
  pub flags : asked.flags ≡ flags_in message.flags

-- Whatever asked for this had no fault: 1 to 64 entries that are in order, and at most 256 rules.
pub record IsLawful (asked : Request) : Type 0 where
  pub count : IsLawfulCount (length asked.entries)
  pub entries : All IsLawfulEntry asked.entries
  pub few_rules : length asked.rules ≤ 256

-- the entries have no fault
abbrev pub AskLawfully : List ShardGtid → Type 0
AskLawfully entries = (wanted : List Wanted) × AskFor entries wanted

-- the first fault of a message
abbrev pub IsFirstFault : VStreamRequest → RequestRefusal → Type 0
IsFirstFault message (TooManyRules n) = AskLawfully (entries_in message.vgtid) × (length (rules_in message.filter) ≡ n) × (256 < n)
IsFirstFault message fault = IsFaultIn (entries_in message.vgtid) fault

-- ---- what bytes ask for

-- The bytes are a message without a fault, and ask for this.
pub record ReadsRequest (bytes : List ℕ) (asked : Request) : Type 0 where
  pub message : VStreamRequest
  pub is_read : read (request true) bytes ≡ Ok message
  pub means : Means message asked

-- they are a message, and this is its first fault
pub record HasFault (bytes : List ℕ) (fault : RequestRefusal) : Type 0 where
  pub message : VStreamRequest
  pub is_read : read (request true) bytes ≡ Ok message
  pub is_first : IsFirstFault message fault

-- why the bytes are no message
abbrev pub IsNoMessage : List ℕ → ProtoRefusal → Type 0
IsNoMessage bytes protos.Memory = ⊥
IsNoMessage bytes (protos.BadMessage at why) = RefusesMessage (protos.BadMessage at why) (read (request true) bytes)
IsNoMessage bytes (protos.NotUtf8 at) = RefusesMessage (protos.NotUtf8 at) (read (request true) bytes)

-- This is the first thing that is wrong with the bytes.
abbrev pub IsRefused : List ℕ → RequestRefusal → Type 0
IsRefused bytes (Message why) = IsNoMessage bytes why
IsRefused bytes fault = HasFault bytes fault

-- what the bytes say: a request, or their first fault
abbrev pub Says : List ℕ → Result Request RequestRefusal → Type 0
Says bytes (Ok asked) = ReadsRequest bytes asked
Says bytes (Err fault) = IsRefused bytes fault
