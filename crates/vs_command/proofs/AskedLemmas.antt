-- What an input and a cluster ask for, by what was done of it: the rules, the shard, its log.
use Rattle.std.proofs.Common.{◌≡◌, ℕ, List, [], map, Option, Some, None, Result, Ok, Err, refl, sym, ap, subst, ◌∙◌}
use Rattle.std.specs.Prelude.{◌⊎◌, IfSome}
use Rattle.vs_base.specs.declared.ShardName.{ShardName}
use Rattle.vs_base.specs.declared.rule_text.RuleText.{RuleText}
use Rattle.vs_schema.specs.Rules.{schema_of}
use Rattle.vs_select.specs.declared.refusal.SelectRefusal.{SelectRefusal}
use Rattle.vs_filter.specs.Causes.{HasNoPattern, HasPatternAt, NotBuiltIs}
use Rattle.vs_filter.specs.Rules.{Meant, first_fault, meant_by, picked_by}
use Rattle.vs_filter.specs.declared.bound.Picked.{Picked}
use Rattle.vs_filter.specs.declared.filter.FilterRefusal.{FilterRefusal}
use Rattle.vs_filter.specs.declared.filter.FilterRefusal.TheVariants as filters
use Rattle.vs_outside.specs.Clusters.{ClusterBytes, Shard, find_shard}
use Rattle.vs_command.specs.declared.start.Start.{Start}
use Rattle.vs_command.specs.declared.start.Start.TheVariants.{At, Current}
use Rattle.vs_command.specs.declared.status.RequestFault.{RequestFault}
use Rattle.vs_command.specs.declared.status.RequestFault.TheVariants as status_fault
use Rattle.vs_command.specs.declared.status.RequestFault.TheVariants.{Cut, TooLong, NoShards, TooManyShards, BadName, BadPosition, NeedsShard, TooManyKeys, LongKey, TooManyRules, BadPattern, PatternRefused, BadRule}
use Rattle.vs_command.specs.declared.status.Status.{Status}
use Rattle.vs_command.specs.declared.status.Status.TheVariants.{Done, Memory, Usage, Request, UnknownShard, Purged, BadLog, FeedFault, LinkFault, InputFault, OpenFault, PositionTooLarge, Stopped, BadSchema, BadFrame}
use Rattle.vs_command.specs.declared.fetched.Fetched.{Fetched}
use Rattle.vs_command.specs.Causes.{AnswersRules, AsksByItsLog, HasRead, HoldsBase, IsBindingFault, IsDue, IsOutside, IsOwed, IsUnbound, LogAsksFor, RefusesRules, RulesAskFor, ShardAsksFor, refusal_status}
use Rattle.vs_command.specs.Fetched.{IsFetchedOf, IsOfShard, IsPlaced, read_as}
use Rattle.vs_command.specs.Laws.{Laws}
use Rattle.vs_command.specs.Requests.{Asks, AsksBy, HasPatternIn, HasTaken, IsFaultOf, IsFaultOfRules, IsOfInput, IsRequestFrame, LacksPatterns, TakesOf}
use Rattle.vs_command.specs.Stages.{HasBinding, IsBrought, IsBroughtBy, IsBroughtOf, IsBroughtOn}
use Rattle.vs_command.specs.Streaming.{HasBadSchema, IsBeforeStream, IsOfRules, IsOfStream, IsUnboundFault, IsUnboundIn, IsUnread, shard_log, shard_places}
use Rattle.vs_command.proofs.SizeLemmas.{placed_so}
use Rattle.vs_command.proofs.CauseLemmas.{LogAsksFor-weaken}
use Rattle.vs_command.proofs.DueLemmas.{ShardAnswer, came_told, shard_answer, unbound_asks}
use Rattle.vs_command.proofs.DueLemmas.ShardAnswer.{unread_schema, unbound_rule, by_log}
use Rattle.vs_command.proofs.SaidLemmas.{fault_once, not_asked}

-- a shard whose schema text reads was asked for, and what its log asks for
asked_log : (cluster : ClusterBytes) (input : List ℕ) (name : ShardName) (start : Start) (rules : List RuleText) (shard : Shard) (status : Status) → Asks input name start rules → find_shard cluster name ≡ Some shard →
    AsksByItsLog LogAsksFor shard name start (map meant_by rules) status → IsDue cluster input status
asked_log cluster input name start rules shard Done asks found by = (name, start, rules, shard, asks, found, by)
asked_log cluster input name start rules shard (BadLog n offset why) asks found by = (name, start, rules, shard, asks, found, by)
asked_log cluster input name start rules shard (Purged n missing) asks found by = (name, start, rules, shard, asks, found, by)
asked_log cluster input name start rules shard (PositionTooLarge n) asks found by = (name, start, rules, shard, asks, found, by)
asked_log cluster input name start rules shard (Stopped n id) asks found by = (name, start, rules, shard, asks, found, by)
asked_log cluster input name start rules shard Memory asks found by = (name, start, rules, shard, asks, found, by)
asked_log cluster input name start rules shard Usage asks found by = (name, start, rules, shard, asks, found, by)
asked_log cluster input name start rules shard (BadFrame number frame_why) asks found by = (name, start, rules, shard, asks, found, by)
asked_log cluster input name start rules shard (FeedFault n) asks found by = (name, start, rules, shard, asks, found, by)
asked_log cluster input name start rules shard LinkFault asks found by = (name, start, rules, shard, asks, found, by)
asked_log cluster input name start rules shard InputFault asks found by = (name, start, rules, shard, asks, found, by)
asked_log cluster input name start rules shard (OpenFault n) asks found by = (name, start, rules, shard, asks, found, by)
asked_log cluster input name start rules shard (Request fault) asks found (schema, reads, binds, (p, from, for)) = absurd for
asked_log cluster input name start rules shard (UnknownShard n) asks found (schema, reads, binds, (p, from, for)) = absurd for
asked_log cluster input name start rules shard (BadSchema n line) asks found (schema, reads, binds, (p, from, for)) = absurd for

-- a shard that was asked for, and what it asks for
shard_due : (cluster : ClusterBytes) (input : List ℕ) (name : ShardName) (start : Start) (rules : List RuleText) (shard : Shard) (status : Status) → Asks input name start rules → find_shard cluster name ≡ Some shard →
    ShardAnswer LogAsksFor shard name start (map meant_by rules) status → IsDue cluster input status
shard_due cluster input name start rules shard status asks found (unread_schema line cut is) = subst (λ s. IsDue cluster input s) (sym is) (start, rules, shard, asks, found, cut)
shard_due cluster input name start rules shard status asks found (unbound_rule index why not is) =
    subst (λ s. IsDue cluster input s) (sym is) (◌⊎◌.inr (index, why, refl, (name, start, rules, asks, subst (λ o. IsUnboundIn o (map meant_by rules) index why) (sym found) not)))
shard_due cluster input name start rules shard status asks found (by_log by) = asked_log cluster input name start rules shard status asks found by

asked_due : (cluster : ClusterBytes) (input : List ℕ) (name : ShardName) (start : Start) (rules : List RuleText) (shard : Option Shard) (status : Status) → Asks input name start rules → find_shard cluster name ≡ shard →
    ShardAsksFor LogAsksFor shard name start (map meant_by rules) status → IsDue cluster input status
asked_due cluster input name start rules None status asks found for = subst (λ s. IsDue cluster input s) (sym for) (start, rules, asks, found)
asked_due cluster input name start rules (Some shard) status asks found for =
    shard_due cluster input name start rules shard status asks found (shard_answer LogAsksFor shard name start (map meant_by rules) status for)

-- an answer from outside, where a shard was asked for
asked_brought : (cluster : ClusterBytes) (input : List ℕ) (name : ShardName) (start : Start) (rules : List RuleText) (status : Status) → Asks input name start rules →
    IsBroughtOn (find_shard cluster name) name start (map meant_by rules) status → IsBrought cluster input status
asked_brought cluster input name start rules Memory asks brought = tt
asked_brought cluster input name start rules (OpenFault n) asks brought = (start, rules, subst (λ m. Asks input m start rules) (sym brought) asks)
asked_brought cluster input name start rules (FeedFault n) asks brought =
    (start, rules, subst (λ m. Asks input m start rules) (sym brought.0) asks, subst (λ m. HasBinding (find_shard cluster m) (map meant_by rules)) (sym brought.0) brought.1)
asked_brought cluster input name start rules LinkFault asks brought = (name, start, rules, asks, brought)
asked_brought cluster input name start rules InputFault asks brought = absurd brought
asked_brought cluster input name start rules Done asks brought = absurd brought
asked_brought cluster input name start rules Usage asks brought = absurd brought
asked_brought cluster input name start rules (BadFrame number frame_why) asks brought = absurd brought
asked_brought cluster input name start rules (Request fault) asks brought = absurd brought
asked_brought cluster input name start rules (UnknownShard n) asks brought = absurd brought
asked_brought cluster input name start rules (Purged n missing) asks brought = absurd brought
asked_brought cluster input name start rules (BadLog n offset why) asks brought = absurd brought
asked_brought cluster input name start rules (PositionTooLarge n) asks brought = absurd brought
asked_brought cluster input name start rules (Stopped n id) asks brought = absurd brought
asked_brought cluster input name start rules (BadSchema n line) asks brought = absurd brought

-- the rules by which a shard was asked for have a fault
rules_due : (cluster : ClusterBytes) (input : List ℕ) (name : ShardName) (start : Start) (rules : List RuleText) (fault : RequestFault) → AsksBy input name start rules → IsFaultOfRules rules fault → IsFaultOf input fault
rules_due cluster input name start rules (BadPattern index) (request, (message, rest, begins, says), plain) is = (message, rest, begins, (request, says, name, start, rules, plain, is))
rules_due cluster input name start rules (BadRule index at) (request, (message, rest, begins, says), plain) is = (message, rest, begins, (request, says, name, start, rules, plain, is))
rules_due cluster input name start rules (Cut held) asks is = absurd is
rules_due cluster input name start rules (TooLong n) asks is = absurd is
rules_due cluster input name start rules (status_fault.Message why) asks is = absurd is
rules_due cluster input name start rules NoShards asks is = absurd is
rules_due cluster input name start rules (TooManyShards n) asks is = absurd is
rules_due cluster input name start rules (BadName index) asks is = absurd is
rules_due cluster input name start rules (BadPosition index at) asks is = absurd is
rules_due cluster input name start rules (NeedsShard index) asks is = absurd is
rules_due cluster input name start rules (TooManyKeys index) asks is = absurd is
rules_due cluster input name start rules (LongKey index) asks is = absurd is
rules_due cluster input name start rules (TooManyRules n) asks is = absurd is
rules_due cluster input name start rules (status_fault.NotBuilt index) asks is = absurd is
rules_due cluster input name start rules (PatternRefused index) asks is = absurd is
rules_due cluster input name start rules (status_fault.Unbound index why) asks is = absurd is

brought_each : (c : ClusterBytes) (input : List ℕ) (name : ShardName) (start : Start) (rules : List RuleText) (status : Status) → AsksBy input name start rules →
    IsBroughtBy (find_shard c name) name start rules status → IsBrought c input status
brought_each c input name start rules status asks (◌⊎◌.inl is) = subst (λ s. IsBrought c input s) (sym is) tt
brought_each c input name start rules status asks (◌⊎◌.inr (◌⊎◌.inl (index, has, is))) = subst (λ s. IsBrought c input s) (sym is) (index, refl, (name, start, rules, asks, has))
brought_each c input name start rules status asks (◌⊎◌.inr (◌⊎◌.inr (lawful, brought))) = asked_brought c input name start rules status (asks, lawful) brought

due_each : (c : ClusterBytes) (input : List ℕ) (name : ShardName) (start : Start) (rules : List RuleText) (status : Status) → AsksBy input name start rules →
    RulesAskFor (find_shard c name) name start rules status → IsDue c input status
due_each c input name start rules status asks (◌⊎◌.inl (fault, is, says)) = subst (λ s. IsDue c input s) (sym says) (◌⊎◌.inl (rules_due c input name start rules fault asks is))
due_each c input name start rules status asks (◌⊎◌.inr (lawful, for)) = asked_due c input name start rules (find_shard c name) status (asks, lawful) refl for

asked_each : (c : ClusterBytes) (input : List ℕ) (name : ShardName) (start : Start) (rules : List RuleText) (status : Status) → AsksBy input name start rules →
    IsBroughtBy (find_shard c name) name start rules status ⊎ RulesAskFor (find_shard c name) name start rules status → IsBrought c input status ⊎ IsDue c input status
asked_each c input name start rules status asks (◌⊎◌.inl brought) = ◌⊎◌.inl (brought_each c input name start rules status asks brought)
asked_each c input name start rules status asks (◌⊎◌.inr for) = ◌⊎◌.inr (due_each c input name start rules status asks for)

pub asked_told : (told : Option ClusterBytes) (left : Option (List ℕ)) (name : ShardName) (start : Start) (rules : List RuleText) (status : Status) → IfSome left (λ input. AsksBy input name start rules) →
    IfSome told (λ c. IsBroughtBy (find_shard c name) name start rules status ⊎ RulesAskFor (find_shard c name) name start rules status) →
    IfSome told (λ c. IfSome left (λ input. IsBrought c input status ⊎ IsDue c input status))
asked_told None left name start rules status asks due = tt
asked_told (Some c) None name start rules status asks due = tt
asked_told (Some c) (Some input) name start rules status asks due = asked_each c input name start rules status asks due

-- ---- the faults of a request

-- no fault of the input, by rules without a fault: the answer is from outside, or the fault is none
pub faulty_asked : Laws → (left : Option (List ℕ)) (name : ShardName) (start : Start) (rules : List RuleText) (status : Status) (fault : RequestFault) → IfSome left (λ input. AsksBy input name start rules) →
    AnswersRules rules status →
    IfSome left (λ input. IsFaultOf input fault → IsOutside status ⊎ (status ≡ Request fault))
faulty_asked laws None name start rules status fault asks came = tt
faulty_asked laws (Some input) name start rules status fault asks (◌⊎◌.inl outside) = λ is. ◌⊎◌.inl outside
faulty_asked laws (Some input) name start rules status fault asks (◌⊎◌.inr (◌⊎◌.inl (f, has, says))) =
    λ is. ◌⊎◌.inr (says ∙ ap (λ x. Request x) (fault_once laws input f fault (rules_due [] input name start rules f asks has) is))
faulty_asked laws (Some input) name start rules status fault asks (◌⊎◌.inr (◌⊎◌.inr lawful)) = λ is. absurd (not_asked laws input name start rules fault (asks, lawful) is)

-- an input has one fault
pub faulty_once : Laws → (left : Option (List ℕ)) (f g : RequestFault) → IfSome left (λ input. IsFaultOf input f) → IfSome left (λ input. IsFaultOf input g → IsOutside (Request f) ⊎ (Request f ≡ Request g))
faulty_once laws None f g is = tt
faulty_once laws (Some input) f g is = λ too. ◌⊎◌.inr (ap (λ x. Request x) (fault_once laws input f g is too))

-- a fault is due whatever the cluster
pub fault_told : (told : Option ClusterBytes) (left : Option (List ℕ)) (fault : RequestFault) → IfSome left (λ input. IsFaultOf input fault) →
    IfSome told (λ c. IfSome left (λ input. IsBrought c input (Request fault) ⊎ IsDue c input (Request fault)))
fault_told None left fault is = tt
fault_told (Some c) None fault is = tt
fault_told (Some c) (Some input) fault is = ◌⊎◌.inr (◌⊎◌.inl is)

-- what a refusal of rules says, it says of the input
refused_so : (input : List ℕ) (name : ShardName) (start : Start) (rules : List RuleText) (before now : ℕ) (fault : RequestFault) → AsksBy input name start rules → RefusesRules rules before now fault → IsOfInput fault → IsFaultOf input fault
refused_so input name start rules before now (BadPattern index) asks says own = rules_due [] input name start rules (BadPattern index) asks says
refused_so input name start rules before now (BadRule index at) asks says own = rules_due [] input name start rules (BadRule index at) asks says
refused_so input name start rules before now (PatternRefused index) asks says own = absurd own
refused_so input name start rules before now (status_fault.Unbound index why) asks says own = absurd own
refused_so input name start rules before now (Cut held) asks says own = absurd says
refused_so input name start rules before now (TooLong n) asks says own = absurd says
refused_so input name start rules before now (status_fault.Message why) asks says own = absurd says
refused_so input name start rules before now NoShards asks says own = absurd says
refused_so input name start rules before now (TooManyShards n) asks says own = absurd says
refused_so input name start rules before now (BadName index) asks says own = absurd says
refused_so input name start rules before now (BadPosition index at) asks says own = absurd says
refused_so input name start rules before now (NeedsShard index) asks says own = absurd says
refused_so input name start rules before now (TooManyKeys index) asks says own = absurd says
refused_so input name start rules before now (LongKey index) asks says own = absurd says
refused_so input name start rules before now (TooManyRules n) asks says own = absurd says
refused_so input name start rules before now (status_fault.NotBuilt index) asks says own = absurd says

pub refused_told : (left : Option (List ℕ)) (name : ShardName) (start : Start) (rules : List RuleText) (before now : ℕ) (fault : RequestFault) → IfSome left (λ input. AsksBy input name start rules) →
    RefusesRules rules before now fault → IsOfInput fault → IfSome left (λ input. IsFaultOf input fault)
refused_told None name start rules before now fault asks says own = tt
refused_told (Some input) name start rules before now fault asks says own = refused_so input name start rules before now fault asks says own

pub pattern_told : (left : Option (List ℕ)) (name : ShardName) (start : Start) (rules : List RuleText) (index : ℕ) → IfSome left (λ input. AsksBy input name start rules) → HasPatternAt rules index →
    IfSome left (λ input. HasPatternIn input index)
pattern_told None name start rules index asks has = tt
pattern_told (Some input) name start rules index asks has = (name, start, rules, asks, has)

pub patterns_told : (left : Option (List ℕ)) (name : ShardName) (start : Start) (rules : List RuleText) (P : Type 0) → IfSome left (λ input. AsksBy input name start rules) → (HasNoPattern rules → P) →
    IfSome left (λ input. LacksPatterns input → P)
patterns_told None name start rules P asks quiet = tt
patterns_told (Some input) name start rules P asks quiet = λ lacks. quiet (lacks name start rules asks)

-- a rule that doesn't bind is no fault of the input
pub unbound_due : (told : Option ClusterBytes) (left : Option (List ℕ)) (index : ℕ) (why : SelectRefusal) → IfSome told (λ c. IfSome left (λ input. IsDue c input (Request (status_fault.Unbound index why)))) →
    IfSome told (λ c. IfSome left (λ input. IsUnbound c input index why))
unbound_due None left index why due = tt
unbound_due (Some c) None index why due = tt
unbound_due (Some c) (Some input) index why (◌⊎◌.inl (message, rest, begins, none)) = absurd none
unbound_due (Some c) (Some input) index why (◌⊎◌.inr (i, other, same, not)) =
    let index_is : i ≡ index = cc in
    let why_is : other ≡ why = cc in
    subst (λ k. IsUnbound c input k why) index_is (subst (λ w. IsUnbound c input i w) why_is not)

pub unbound_came : (told : Option ClusterBytes) (left : Option (List ℕ)) (status : Status) (index : ℕ) (why : SelectRefusal) → IfSome told (λ c. IfSome left (λ input. IsBrought c input status ⊎ IsDue c input status)) →
    status ≡ Request (status_fault.Unbound index why) → IfSome told (λ c. IfSome left (λ input. IsUnbound c input index why))
unbound_came told left status index why due is =
    unbound_due told left index why (came_told told left status (Request (status_fault.Unbound index why)) due is (λ h. not_pattern h.0 h.1))
  where
    not_pattern : (i : ℕ) → status_fault.Unbound index why ≡ PatternRefused i → ⊥
    not_pattern i h = cc

-- what comes where a fault is due, comes where a rule doesn't bind
pub binding_comes : (told : Option ClusterBytes) (left : Option (List ℕ)) (status : Status) (index : ℕ) (why : SelectRefusal) →
    IfSome told (λ c. IfSome left (λ input. IsOwed c input (Request (status_fault.Unbound index why)) → IsOutside status ⊎ (status ≡ Request (status_fault.Unbound index why)))) →
    IfSome told (λ c. IfSome left (λ input. IsUnbound c input index why → IsOutside status ⊎ (status ≡ Request (status_fault.Unbound index why))))
binding_comes None left status index why only = tt
binding_comes (Some c) None status index why only = tt
binding_comes (Some c) (Some input) status index why only = λ is. only (◌⊎◌.inr (index, why, refl, is))

-- ---- the filter of rules

pub refusal_rules : (rules : List RuleText) (before now : ℕ) (refusal : FilterRefusal) (fault : RequestFault) → NotBuiltIs rules before now refusal → refusal_status refusal ≡ Request fault → RefusesRules rules before now fault
refusal_rules rules before now (filters.BadPattern index) fault not is = let same : BadPattern index ≡ fault = cc in subst (λ f. RefusesRules rules before now f) same not
refusal_rules rules before now (filters.PatternRefused index) fault not is = let same : PatternRefused index ≡ fault = cc in subst (λ f. RefusesRules rules before now f) same not
refusal_rules rules before now (filters.BadRule index at) fault not is = let same : BadRule index at ≡ fault = cc in subst (λ f. RefusesRules rules before now f) same not
refusal_rules rules before now (filters.Unbound index why) fault not is = absurd not
refusal_rules rules before now filters.Memory fault not is = absurd (cc)

pub refusal_due : (shard : Option Shard) (s : ShardName) (start : Start) (rules : List RuleText) (before now : ℕ) (refusal : FilterRefusal) → NotBuiltIs rules before now refusal →
    IsBroughtBy shard s start rules (refusal_status refusal) ⊎ RulesAskFor shard s start rules (refusal_status refusal)
refusal_due shard s start rules before now (filters.BadPattern index) not = ◌⊎◌.inr (◌⊎◌.inl (BadPattern index, not, refl))
refusal_due shard s start rules before now (filters.PatternRefused index) not = ◌⊎◌.inl (◌⊎◌.inr (◌⊎◌.inl (index, not.0, refl)))
refusal_due shard s start rules before now (filters.BadRule index at) not = ◌⊎◌.inr (◌⊎◌.inl (BadRule index at, not, refl))
refusal_due shard s start rules before now (filters.Unbound index why) not = absurd not
refusal_due shard s start rules before now filters.Memory not = ◌⊎◌.inl (◌⊎◌.inl refl)

pub refusal_kind : (rules : List RuleText) (before now : ℕ) (refusal : FilterRefusal) → NotBuiltIs rules before now refusal → IsOfStream (refusal_status refusal)
refusal_kind rules before now (filters.BadPattern index) not = tt
refusal_kind rules before now (filters.PatternRefused index) not = tt
refusal_kind rules before now (filters.BadRule index at) not = tt
refusal_kind rules before now (filters.Unbound index why) not = tt
refusal_kind rules before now filters.Memory not = tt

pub refusal_before : (refusal : FilterRefusal) → IsBeforeStream (refusal_status refusal)
refusal_before (filters.BadPattern index) = tt
refusal_before (filters.PatternRefused index) = tt
refusal_before (filters.BadRule index at) = tt
refusal_before (filters.Unbound index why) = tt
refusal_before filters.Memory = tt

-- a refusal of rules, or want of memory
pub refusal_link : (refusal : FilterRefusal) → refusal_status refusal ≡ LinkFault → ⊥
refusal_link (filters.BadPattern index) h = cc
refusal_link (filters.PatternRefused index) h = cc
refusal_link (filters.BadRule index at) h = cc
refusal_link (filters.Unbound index why) h = cc
refusal_link filters.Memory h = cc

pub refusal_feed : (refusal : FilterRefusal) (n : ShardName) → refusal_status refusal ≡ FeedFault n → ⊥
refusal_feed (filters.BadPattern index) n h = cc
refusal_feed (filters.PatternRefused index) n h = cc
refusal_feed (filters.BadRule index at) n h = cc
refusal_feed (filters.Unbound index why) n h = cc
refusal_feed filters.Memory n h = cc

pub refusal_open : (refusal : FilterRefusal) (n : ShardName) → refusal_status refusal ≡ OpenFault n → ⊥
refusal_open (filters.BadPattern index) n h = cc
refusal_open (filters.PatternRefused index) n h = cc
refusal_open (filters.BadRule index at) n h = cc
refusal_open (filters.Unbound index why) n h = cc
refusal_open filters.Memory n h = cc

-- the shard was streamed by rules without a fault
pub taken_due : (told_before told : Option ClusterBytes) (name : ShardName) (start : Start) (rules : List RuleText) (status : Status) → told ≡ told_before → first_fault rules ≡ None →
    IfSome told (λ c. IsBroughtOn (find_shard c name) name start (map meant_by rules) status ⊎ ShardAsksFor LogAsksFor (find_shard c name) name start (map meant_by rules) status) →
    IfSome told_before (λ c. IsBroughtBy (find_shard c name) name start rules status ⊎ RulesAskFor (find_shard c name) name start rules status)
taken_due told_before told name start rules status same lawful due =
    subst (λ t. IfSome t (λ c. IsBroughtBy (find_shard c name) name start rules status ⊎ RulesAskFor (find_shard c name) name start rules status)) same (go told due)
  where
    each : (c : ClusterBytes) → IsBroughtOn (find_shard c name) name start (map meant_by rules) status ⊎ ShardAsksFor LogAsksFor (find_shard c name) name start (map meant_by rules) status →
        IsBroughtBy (find_shard c name) name start rules status ⊎ RulesAskFor (find_shard c name) name start rules status
    each c (◌⊎◌.inl brought) = ◌⊎◌.inl (◌⊎◌.inr (◌⊎◌.inr (lawful, brought)))
    each c (◌⊎◌.inr for) = ◌⊎◌.inr (◌⊎◌.inr (lawful, for))

    go : (told : Option ClusterBytes) → IfSome told (λ c. IsBroughtOn (find_shard c name) name start (map meant_by rules) status ⊎ ShardAsksFor LogAsksFor (find_shard c name) name start (map meant_by rules) status) →
        IfSome told (λ c. IsBroughtBy (find_shard c name) name start rules status ⊎ RulesAskFor (find_shard c name) name start rules status)
    go None due = tt
    go (Some c) due = each c due

-- what came, by the rules
pub refusal_said : (rules : List RuleText) (before now : ℕ) (refusal : FilterRefusal) → NotBuiltIs rules before now refusal → AnswersRules rules (refusal_status refusal)
refusal_said rules before now (filters.BadPattern index) not = ◌⊎◌.inr (◌⊎◌.inl (BadPattern index, not, refl))
refusal_said rules before now (filters.PatternRefused index) not = ◌⊎◌.inl (index, refl)
refusal_said rules before now (filters.BadRule index at) not = ◌⊎◌.inr (◌⊎◌.inl (BadRule index at, not, refl))
refusal_said rules before now (filters.Unbound index why) not = absurd not
refusal_said rules before now filters.Memory not = ◌⊎◌.inl tt

-- a stream refuses rules only where they don't bind
pub binding_rules : (rules : List RuleText) (before now : ℕ) (fault : RequestFault) → IsBindingFault fault → RefusesRules rules before now fault
binding_rules rules before now fault (index, why, is) = subst (λ f. RefusesRules rules before now f) (sym is) tt

-- ---- the shard's log that was read

-- what is asked for by the log that was fetched, the shard's log asks for
asks_fetched : (s : ShardName) (start : Start) (rules : List Meant) (status : Status) (text bytes : List ℕ) (f : Fetched) (tables : List Picked) → IsFetchedOf s rules text bytes f tables →
    LogAsksFor (IsPlaced f.entries) tables s (read_as f) start status → (shard : Option Shard) → IsOfShard shard text bytes → ShardAsksFor LogAsksFor shard s start rules status
asks_fetched s start rules status text bytes f tables fetched asks None of = absurd of
asks_fetched s start rules status text bytes f tables fetched asks (Some shard) (same, all) =
    let here : LogAsksFor (shard_places s text bytes) tables s (shard_log s text bytes) start status =
    LogAsksFor-weaken (IsPlaced f.entries) (shard_places s text bytes) tables s (shard_log s text bytes) start status
    (λ g at there. placed_so (shard_places s text bytes) f.entries g at fetched.places there)
    (subst (λ l. LogAsksFor (IsPlaced f.entries) tables s l start status) fetched.log asks) in
    ◌⊎◌.inr (◌⊎◌.inr (
      fetched.schema,
      subst (λ t. schema_of t ≡ Ok fetched.schema) same fetched.reads,
      fetched.binds,
      subst (λ b. LogAsksFor (shard_places s shard.schema b) (picked_by rules fetched.schema.tables) s (shard_log s shard.schema b) start status) all
          (subst (λ t. LogAsksFor (shard_places s t bytes) (picked_by rules fetched.schema.tables) s (shard_log s t bytes) start status) same
          (subst (λ ts. LogAsksFor (shard_places s text bytes) ts s (shard_log s text bytes) start status) fetched.picks here)),
    ))

-- what an answer from outside says of the log that was fetched, it says of the shard
brought_fetched : (s : ShardName) (start : Start) (rules : List Meant) (status : Status) (text bytes : List ℕ) (f : Fetched) (tables : List Picked) → IsFetchedOf s rules text bytes f tables → IsBroughtOf (read_as f) start status →
    (shard : Option Shard) → IsOfShard shard text bytes → IsBroughtOn shard s start rules status
brought_fetched s start rules Memory text bytes f tables fetched brought shard of = tt
brought_fetched s start rules LinkFault text bytes f tables fetched brought None of = absurd of
brought_fetched s start rules LinkFault text bytes f tables fetched brought (Some shard) (same, all) = (
  (fetched.schema, subst (λ t. schema_of t ≡ Ok fetched.schema) same fetched.reads, fetched.binds),
  subst (λ b. HoldsBase (shard_log s shard.schema b) start) all
      (subst (λ t. HoldsBase (shard_log s t bytes) start) same (subst (λ l. HoldsBase l start) fetched.log brought)),
)
brought_fetched s start rules InputFault text bytes f tables fetched brought shard of = absurd brought
brought_fetched s start rules (FeedFault name) text bytes f tables fetched brought shard of = absurd brought
brought_fetched s start rules (OpenFault name) text bytes f tables fetched brought shard of = absurd brought
brought_fetched s start rules Done text bytes f tables fetched brought shard of = absurd brought
brought_fetched s start rules Usage text bytes f tables fetched brought shard of = absurd brought
brought_fetched s start rules (BadFrame number frame_why) text bytes f tables fetched brought shard of = absurd brought
brought_fetched s start rules (Request fault) text bytes f tables fetched brought shard of = absurd brought
brought_fetched s start rules (UnknownShard name) text bytes f tables fetched brought shard of = absurd brought
brought_fetched s start rules (Purged name missing) text bytes f tables fetched brought shard of = absurd brought
brought_fetched s start rules (BadLog name offset why) text bytes f tables fetched brought shard of = absurd brought
brought_fetched s start rules (PositionTooLarge name) text bytes f tables fetched brought shard of = absurd brought
brought_fetched s start rules (Stopped name id) text bytes f tables fetched brought shard of = absurd brought
brought_fetched s start rules (BadSchema name line) text bytes f tables fetched brought shard of = absurd brought

pub due_streamed : (told : Option ClusterBytes) (s : ShardName) (start : Start) (rules : List Meant) (status : Status) (text bytes : List ℕ) (f : Fetched) (tables : List Picked) → IsFetchedOf s rules text bytes f tables →
    IfSome told (λ c. IsOfShard (find_shard c s) text bytes) → IsBroughtOf (read_as f) start status ⊎ LogAsksFor (IsPlaced f.entries) tables s (read_as f) start status →
    IfSome told (λ c. IsBroughtOn (find_shard c s) s start rules status ⊎ ShardAsksFor LogAsksFor (find_shard c s) s start rules status)
due_streamed None s start rules status text bytes f tables fetched of due = tt
due_streamed (Some c) s start rules status text bytes f tables fetched of (◌⊎◌.inl brought) = ◌⊎◌.inl (brought_fetched s start rules status text bytes f tables fetched brought (find_shard c s) of)
due_streamed (Some c) s start rules status text bytes f tables fetched of (◌⊎◌.inr asks) = ◌⊎◌.inr (asks_fetched s start rules status text bytes f tables fetched asks (find_shard c s) of)

pub due_bad_schema : (told : Option ClusterBytes) (s : ShardName) (start : Start) (rules : List Meant) (line : ℕ) → IfSome told (λ c. HasBadSchema (find_shard c s) line) →
    IfSome told (λ c. IsBroughtOn (find_shard c s) s start rules (BadSchema s line) ⊎ ShardAsksFor LogAsksFor (find_shard c s) s start rules (BadSchema s line))
due_bad_schema None s start rules line bad = tt
due_bad_schema (Some c) s start rules line bad = ◌⊎◌.inr (go (find_shard c s) bad)
  where
    go : (shard : Option Shard) → HasBadSchema shard line → ShardAsksFor LogAsksFor shard s start rules (BadSchema s line)
    go None h = absurd h
    go (Some shard) h = ◌⊎◌.inl (line, h, refl)

pub due_unbound : (told : Option ClusterBytes) (s : ShardName) (start : Start) (rules : List Meant) (fault : RequestFault) → IfSome told (λ c. IsUnboundFault (find_shard c s) rules fault) →
    IfSome told (λ c. IsBroughtOn (find_shard c s) s start rules (Request fault) ⊎ ShardAsksFor LogAsksFor (find_shard c s) s start rules (Request fault))
due_unbound None s start rules fault not = tt
due_unbound (Some c) s start rules fault (index, why, is, not) =
    ◌⊎◌.inr (subst (λ f. ShardAsksFor LogAsksFor (find_shard c s) s start rules (Request f)) (sym is) (unbound_asks LogAsksFor (find_shard c s) s start rules index why not))

pub due_unknown : (told : Option ClusterBytes) (s : ShardName) (start : Start) (rules : List Meant) → IfSome told (λ c. find_shard c s ≡ None) →
    IfSome told (λ c. IsBroughtOn (find_shard c s) s start rules (UnknownShard s) ⊎ ShardAsksFor LogAsksFor (find_shard c s) s start rules (UnknownShard s))
due_unknown None s start rules none = tt
due_unknown (Some c) s start rules none = ◌⊎◌.inr (subst (λ o. ShardAsksFor LogAsksFor o s start rules (UnknownShard s)) (sym none) refl)

-- a fault of rules comes once a whole frame was taken
rules_taken : (before now : Option (List ℕ)) (fault : RequestFault) → IsOfRules fault → TakesOf before now (λ taken rest. IsRequestFrame taken) → TakesOf before now (HasTaken fault)
rules_taken before now (BadPattern index) kind took = took
rules_taken before now (PatternRefused index) kind took = took
rules_taken before now (BadRule index at) kind took = took
rules_taken before now (status_fault.Unbound index why) kind took = took
rules_taken before now (Cut held) kind took = absurd kind
rules_taken before now (TooLong n) kind took = absurd kind
rules_taken before now (status_fault.Message why) kind took = absurd kind
rules_taken before now NoShards kind took = absurd kind
rules_taken before now (TooManyShards n) kind took = absurd kind
rules_taken before now (BadName index) kind took = absurd kind
rules_taken before now (BadPosition index at) kind took = absurd kind
rules_taken before now (NeedsShard index) kind took = absurd kind
rules_taken before now (TooManyKeys index) kind took = absurd kind
rules_taken before now (LongKey index) kind took = absurd kind
rules_taken before now (TooManyRules n) kind took = absurd kind
rules_taken before now (status_fault.NotBuilt index) kind took = absurd kind

-- what was taken where a stream was asked for
pub has_read : (before now : Option (List ℕ)) (status : Status) → IsOfStream status → TakesOf before now (λ taken rest. IsRequestFrame taken) → HasRead before now status
has_read before now Done kind took = took
has_read before now Memory kind took = tt
has_read before now Usage kind took = absurd kind
has_read before now (BadFrame number frame_why) kind took = absurd kind
has_read before now (Request fault) kind took = rules_taken before now fault kind took
has_read before now InputFault kind took = absurd kind
has_read before now (UnknownShard name) kind took = took
has_read before now (Purged name missing) kind took = took
has_read before now (BadLog name offset why) kind took = took
has_read before now (FeedFault name) kind took = took
has_read before now LinkFault kind took = took
has_read before now (OpenFault name) kind took = took
has_read before now (PositionTooLarge name) kind took = took
has_read before now (Stopped name id) kind took = took
has_read before now (BadSchema name line) kind took = took

-- what is said of any cluster and any input
pub told_any : (told : Option ClusterBytes) (left : Option (List ℕ)) (P : ClusterBytes → List ℕ → Type 0) → ((c : ClusterBytes) (input : List ℕ) → P c input) → IfSome told (λ c. IfSome left (λ input. P c input))
told_any None left P all = tt
told_any (Some c) None P all = tt
told_any (Some c) (Some input) P all = all c input

-- ---- the same, where it is said of the rules as the filter has them

pub due_meant : (told : Option ClusterBytes) (s : ShardName) (start : Start) (a b : List Meant) (status : Status) → a ≡ b →
    IfSome told (λ c. IsBroughtOn (find_shard c s) s start a status ⊎ ShardAsksFor LogAsksFor (find_shard c s) s start a status) →
    IfSome told (λ c. IsBroughtOn (find_shard c s) s start b status ⊎ ShardAsksFor LogAsksFor (find_shard c s) s start b status)
due_meant told s start a b status same due = subst (λ m. IfSome told (λ c. IsBroughtOn (find_shard c s) s start m status ⊎ ShardAsksFor LogAsksFor (find_shard c s) s start m status)) same due

pub unread_unbound : (told : Option ClusterBytes) (s : ShardName) (a b : List Meant) (fault : RequestFault) → a ≡ b → IfSome told (λ c. IsUnboundFault (find_shard c s) a fault) →
    IfSome told (λ c. IsUnread c s b (Request fault))
unread_unbound None s a b fault same not = tt
unread_unbound (Some c) s a b fault same not = subst (λ m. IsUnboundFault (find_shard c s) m fault) same not

-- that a rule doesn't bind is a fault of rules
pub binding_kind : (fault : RequestFault) → IsBindingFault fault → IsOfStream (Request fault)
binding_kind fault (index, why, is) = subst (λ f. IsOfRules f) (sym is) tt

pub refused_rules : (sliced rules : List RuleText) (before now : ℕ) (refusal : FilterRefusal) (status : Status) (fault : RequestFault) → sliced ≡ rules → status ≡ refusal_status refusal → NotBuiltIs sliced before now refusal →
    status ≡ Request fault → RefusesRules rules before now fault
refused_rules sliced rules before now refusal status fault same is not said =
    refusal_rules rules before now refusal fault (subst (λ r. NotBuiltIs r before now refusal) same not) (sym is ∙ said)

pub refused_due : (told : Option ClusterBytes) (s : ShardName) (start : Start) (sliced rules : List RuleText) (before now : ℕ) (refusal : FilterRefusal) (status : Status) → sliced ≡ rules → status ≡ refusal_status refusal →
    NotBuiltIs sliced before now refusal → IfSome told (λ c. IsBroughtBy (find_shard c s) s start rules status ⊎ RulesAskFor (find_shard c s) s start rules status)
refused_due None s start sliced rules before now refusal status same is not = tt
refused_due (Some c) s start sliced rules before now refusal status same is not =
    subst (λ x. IsBroughtBy (find_shard c s) s start rules x ⊎ RulesAskFor (find_shard c s) s start rules x) (sym is)
    (refusal_due (find_shard c s) s start rules before now refusal (subst (λ r. NotBuiltIs r before now refusal) same not))

pub refused_kind : (sliced : List RuleText) (before now : ℕ) (refusal : FilterRefusal) (status : Status) → status ≡ refusal_status refusal → NotBuiltIs sliced before now refusal → IsOfStream status
refused_kind sliced before now refusal status is not = subst IsOfStream (sym is) (refusal_kind sliced before now refusal not)

pub refused_said : (sliced rules : List RuleText) (before now : ℕ) (refusal : FilterRefusal) (status : Status) → sliced ≡ rules → status ≡ refusal_status refusal → NotBuiltIs sliced before now refusal → AnswersRules rules status
refused_said sliced rules before now refusal status same is not =
    subst (λ x. AnswersRules rules x) (sym is) (refusal_said rules before now refusal (subst (λ r. NotBuiltIs r before now refusal) same not))
