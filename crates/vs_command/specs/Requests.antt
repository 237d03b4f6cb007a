-- The frame that asks for a stream, at the front of the input, and what is wrong with an input.
use Rattle.std.specs.Prelude.{◌≡◌, ◌≢◌, ◌≤◌, ◌<◌, ◌+◌, ◌^◌, ◌⊎◌, ℕ, Bool, false, ◌&&◌, not, nat_eq, List, [], ◌∷◌, ◌++◌, codes, length, Option, Some, None, Result, Ok, Err}
use Rattle.std.specs.Int.{w32, to_be_bytes}
use Rattle.vs_base.specs.Limits.{most_message}
use Rattle.vs_base.specs.declared.ShardName.{ShardName}
use Rattle.vs_base.specs.declared.rule_text.RuleText.{RuleText}
use Rattle.vs_filter.specs.Causes.{FaultIs, HasNoPattern, HasPatternAt}
use Rattle.vs_filter.specs.Rules.{Fault, NoPattern, NoSelect, first_fault}
use Rattle.vs_base.specs.Frames.{framed}
use Rattle.vs_frame.specs.Frames.{BeginsWithFrame, IsPart, IsTooLong, IsWithinLimit}
use Rattle.vs_request.specs.Requests.{Says}
use Rattle.vs_request.specs.declared.request.Flags.{Flags}
use Rattle.vs_request.specs.declared.request.Request.{Request}
use Rattle.vs_request.specs.declared.request.StartAt.{StartAt}
use Rattle.vs_request.specs.declared.request.StartAt.TheVariants as at
use Rattle.vs_request.specs.declared.request.Wanted.{Wanted}
use Rattle.vs_request.specs.declared.refusal.RequestRefusal.{RequestRefusal}
use Rattle.vs_request.specs.declared.refusal.RequestRefusal.TheVariants as refusals
use Rattle.vs_command.specs.declared.request.RequestEnd.{RequestEnd}
use Rattle.vs_command.specs.declared.request.RequestEnd.TheVariants as ends
use Rattle.vs_command.specs.declared.start.Start.{Start}
use Rattle.vs_command.specs.declared.start.Start.TheVariants.{At, Current}
use Rattle.vs_command.specs.declared.status.RequestFault.{RequestFault}
use Rattle.vs_command.specs.declared.status.RequestFault.TheVariants.{Cut, TooLong, Message, NoShards, TooManyShards, BadName, BadPosition, NeedsShard, TooManyKeys, LongKey, TooManyRules, NotBuilt, BadPattern, PatternRefused, BadRule, Unbound}

-- What was read of a source is the front of what it had left, and the rest is left; P says more of both.
abbrev pub TakesOf : Option (List ℕ) → Option (List ℕ) → (List ℕ → List ℕ → Type 0) → Type 0
TakesOf None now P = Unit {0}
TakesOf (Some before) now P = (taken rest : List ℕ) × (before ≡ taken ++ rest) × (now ≡ Some rest) × P taken rest

-- the input begins with a frame whose message says this
abbrev pub BeginsWithRequest : List ℕ → Result Request RequestRefusal → Type 0
BeginsWithRequest input said = (message rest : List ℕ) × BeginsWithFrame input message rest × Says message said

-- no time to skew by or to beat at, and no word on journals
abbrev pub no_flags : Flags
no_flags = record { max_skew = 0; heartbeat_interval = 0; stop_on_reshard = false; include_journals = false }

abbrev pub start_of : Start → StartAt
start_of (At set) = at.At set
start_of Current = at.Current

-- the entry of a shard without a last key
abbrev pub entry_of : ShardName → Start → Wanted
entry_of name start = record { keyspace = name.keyspace; shard = name.shard; start = start_of start; last_key = None }

-- the rule of a request without rules: all rows of all tables
abbrev pub any_rule : RuleText
any_rule = record { pattern = codes "/.*"; filter = [] }

-- the rules of a request, where it has some
abbrev pub rules_or_any : List RuleText → List RuleText
rules_or_any [] = any_rule ∷ []
rules_or_any (rule ∷ rules) = rule ∷ rules

-- The request asks for this one shard from this start by these rules, and for nothing else.
pub record IsPlain (request : Request) (name : ShardName) (start : Start) (rules : List RuleText) : Type 0 where
  pub entries : request.entries ≡ entry_of name start ∷ []
  pub shard : name.shard ≢ []
  pub rules_are : rules ≡ rules_or_any request.rules
  pub flags : request.flags ≡ no_flags

-- the entry asks for a copy, for all shards of a keyspace, or names a last key
abbrev pub IsUnbuilt : Wanted → Type 0
IsUnbuilt wanted = (wanted.start ≡ at.Fresh) ⊎ ((wanted.shard ≡ []) ⊎ (wanted.last_key ≢ None))

-- What of a request this release doesn't do: more entries than one; or, at the one entry, something that it asks for, or flags.
abbrev pub IsNotBuilt : Request → ℕ → Type 0
IsNotBuilt request index =
    ((index ≡ 1) × (2 ≤ length request.entries))
    ⊎ ((index ≡ 0) × (wanted : Wanted) × (request.entries ≡ wanted ∷ []) × (IsUnbuilt wanted ⊎ (request.flags ≢ no_flags)))

-- The input begins with a frame that asks for this shard, from this start, by these rules.
abbrev pub AsksBy : List ℕ → ShardName → Start → List RuleText → Type 0
AsksBy input name start rules = (request : Request) × BeginsWithRequest input (Ok request) × IsPlain request name start rules

-- And no rule has a fault.
abbrev pub Asks : List ℕ → ShardName → Start → List RuleText → Type 0
Asks input name start rules = AsksBy input name start rules × (first_fault rules ≡ None)

-- the rules by which the input asks for a shard have a pattern at this place, and none before it has a fault
abbrev pub HasPatternIn : List ℕ → ℕ → Type 0
HasPatternIn input index = (name : ShardName) × (start : Start) × (rules : List RuleText) × AsksBy input name start rules × HasPatternAt rules index

-- no pattern is among the rules by which the input asks for a shard, if it does
abbrev pub LacksPatterns : List ℕ → Type 0
LacksPatterns input = (name : ShardName) (start : Start) (rules : List RuleText) → AsksBy input name start rules → HasNoPattern rules

-- the message asks for a shard by rules of which that at this place is the first at fault
abbrev pub HasRuleFault : List ℕ → ℕ → Fault → Type 0
HasRuleFault message index why =
    (request : Request) × Says message (Ok request) × (name : ShardName) × (start : Start) × (rules : List RuleText) × IsPlain request name start rules × FaultIs rules index why

-- What is wrong with a message: it has a fault, what it asks for isn't built, or one of its rules has a fault.
abbrev pub IsFaultOfMessage : List ℕ → RequestFault → Type 0
IsFaultOfMessage message (Cut held) = ⊥
IsFaultOfMessage message (TooLong n) = ⊥
IsFaultOfMessage message (Message why) = Says message (Err (refusals.Message why))
IsFaultOfMessage message NoShards = Says message (Err refusals.NoShards)
IsFaultOfMessage message (TooManyShards n) = Says message (Err (refusals.TooManyShards n))
IsFaultOfMessage message (BadName index) = Says message (Err (refusals.BadName index))
IsFaultOfMessage message (BadPosition index at) = Says message (Err (refusals.BadPosition index at))
IsFaultOfMessage message (NeedsShard index) = Says message (Err (refusals.NeedsShard index))
IsFaultOfMessage message (TooManyKeys index) = Says message (Err (refusals.TooManyKeys index))
IsFaultOfMessage message (LongKey index) = Says message (Err (refusals.LongKey index))
IsFaultOfMessage message (TooManyRules n) = Says message (Err (refusals.TooManyRules n))
IsFaultOfMessage message (NotBuilt index) = (request : Request) × Says message (Ok request) × IsNotBuilt request index
IsFaultOfMessage message (BadPattern index) = HasRuleFault message index NoPattern
IsFaultOfMessage message (BadRule index at) = HasRuleFault message index (NoSelect at)
IsFaultOfMessage message (PatternRefused index) = ⊥
IsFaultOfMessage message (Unbound index why) = ⊥

-- the faults that a message has by itself
abbrev pub IsOfInput : RequestFault → Type 0
IsOfInput (PatternRefused index) = ⊥
IsOfInput (Unbound index why) = ⊥
IsOfInput fault = Unit {0}

-- the rules have this fault first
abbrev pub IsFaultOfRules : List RuleText → RequestFault → Type 0
IsFaultOfRules rules (BadPattern index) = FaultIs rules index NoPattern
IsFaultOfRules rules (BadRule index at) = FaultIs rules index (NoSelect at)
IsFaultOfRules rules fault = ⊥

-- the input begins with a frame whose message has this fault
abbrev pub BeginsWithFault : List ℕ → RequestFault → Type 0
BeginsWithFault input fault = (message rest : List ℕ) × BeginsWithFrame input message rest × IsFaultOfMessage message fault

-- What is wrong with the input: it ends before a frame is whole, its length is too long, or the message of its first frame has a fault.
abbrev pub IsFaultOf : List ℕ → RequestFault → Type 0
IsFaultOf input (Cut held) = IsPart input × (held ≡ length input)
IsFaultOf input (TooLong n) = IsTooLong input n
IsFaultOf input fault = BeginsWithFault input fault

-- a refusal of the message, as the end of the reading that it is
abbrev pub end_of : RequestRefusal → RequestEnd
end_of refusals.Memory = ends.Memory
end_of (refusals.Message why) = ends.Fault (Message why)
end_of refusals.NoShards = ends.Fault NoShards
end_of (refusals.TooManyShards n) = ends.Fault (TooManyShards n)
end_of (refusals.BadName index) = ends.Fault (BadName index)
end_of (refusals.BadPosition index at) = ends.Fault (BadPosition index at)
end_of (refusals.NeedsShard index) = ends.Fault (NeedsShard index)
end_of (refusals.TooManyKeys index) = ends.Fault (TooManyKeys index)
end_of (refusals.LongKey index) = ends.Fault (LongKey index)
end_of (refusals.TooManyRules n) = ends.Fault (TooManyRules n)

abbrev pub has_no_flags : Flags → Bool
has_no_flags flags = nat_eq flags.max_skew 0 && (nat_eq flags.heartbeat_interval 0 && (not flags.stop_on_reshard && not flags.include_journals))

-- ---- what was taken of the input

-- the bytes begin with this length, in four bytes, the highest first
abbrev pub SaysLength : List ℕ → ℕ → Type 0
SaysLength bytes n = (n < 2 ^ 32) × (rest : List ℕ) × (bytes ≡ to_be_bytes w32 n ++ rest) × (length rest + 4 ≡ length bytes)

-- just a frame
abbrev pub IsRequestFrame : List ℕ → Type 0
IsRequestFrame taken = (message : List ℕ) × (taken ≡ framed message) × IsWithinLimit message

-- what was taken where no frame is there: all, of which is less than a frame; or the length that is too long, and no byte behind it
abbrev pub HasEnded : RequestFault → List ℕ → List ℕ → Type 0
HasEnded (Cut held) taken rest = IsPart taken × (held ≡ length taken) × (rest ≡ [])
HasEnded (TooLong n) taken rest = IsTooLong taken n × (length taken ≡ 4)
HasEnded fault taken rest = ⊥

-- what was taken before the input was refused
abbrev pub HasTaken : RequestFault → List ℕ → List ℕ → Type 0
HasTaken (Cut held) taken rest = rest ≡ []
HasTaken (TooLong n) taken rest = length taken ≡ 4
HasTaken fault taken rest = IsRequestFrame taken

-- No byte behind the frame at the front was taken: no more than its length, in four bytes; or these, and no more bytes behind them than they say, which is at most 16 MiB.
abbrev pub IsWithinFrame : List ℕ → Type 0
IsWithinFrame taken = (length taken ≤ 4) ⊎ ((n : ℕ) × (message : List ℕ) × (taken ≡ to_be_bytes w32 n ++ message) × (n ≤ most_message) × (length message ≤ n))
