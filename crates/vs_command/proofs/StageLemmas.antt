-- No answer comes in place of one that is due at an earlier stage.
use Rattle.std.proofs.Common.{◌≡◌, ◌≤◌, ◌||◌, ℕ, true, false, take, ◌∙◌, List, map, Option, Some, None, sym, ap, subst, arith}
use Rattle.std.specs.Prelude.{◌⊎◌, IfSome}
use Rattle.vs_base.specs.declared.Gtid.{Gtid}
use Rattle.vs_base.specs.declared.ShardName.{ShardName}
use Rattle.vs_base.specs.declared.rule_text.RuleText.{RuleText}
use Rattle.vs_base.specs.declared.Why.{Why}
use Rattle.vs_schema.specs.declared.schema.Schema.{Schema}
use Rattle.vs_filter.specs.Causes.{UnboundIs}
use Rattle.vs_filter.specs.Rules.{Meant, meant_by, picked_by}
use Rattle.vs_filter.specs.declared.bound.Picked.{Picked}
use Rattle.vs_filter.specs.declared.filter.FilterRefusal.TheVariants as filters
use Rattle.vs_gtid.specs.Logs.{Log}
use Rattle.vs_gtid.specs.Missing.{IsFirstMissing}
use Rattle.vs_gtid.specs.Positions.{Position, IsSubset, has}
use Rattle.vs_model.specs.Logs.{is_gtid_of}
use Rattle.vs_gtid.proofs.MissingLemmas.{not_subset}
use Rattle.vs_outside.specs.Clusters.{ClusterBytes, Shard, find_shard}
use Rattle.vs_command.specs.declared.start.Start.{Start}
use Rattle.vs_command.specs.declared.start.Start.TheVariants.{At, Current}
use Rattle.vs_command.specs.declared.status.RequestFault.{RequestFault}
use Rattle.vs_command.specs.declared.status.RequestFault.TheVariants as faults
use Rattle.vs_command.specs.declared.status.Status.{Status}
use Rattle.vs_command.specs.declared.status.Status.TheVariants.{Done, Memory, Usage, Request, UnknownShard, Purged, BadLog, FeedFault, LinkFault, InputFault, OpenFault, PositionTooLarge, Stopped, BadSchema, BadFrame}
use Rattle.vs_command.specs.Causes.{HoldsBase, IsDue, IsFrom, LogAsksFor, PositionAsksFor, ShardAsksFor}
use Rattle.vs_command.specs.Laws.{Laws}
use Rattle.vs_command.specs.Requests.{Asks, AsksBy, HasPatternIn, IsFaultOf}
use Rattle.vs_command.specs.Stages.{CanBegin, HasBinding, IsBrought, request_stage, stage}
use Rattle.vs_command.specs.Streaming.{shard_log, shard_places, shard_rules}
use Rattle.vs_command.proofs.DueLemmas.{DueAnswer, LogAnswer, ShardAnswer, asked_again, bound_or_not, due_answer, end_status, log_answer, one_answer, one_schema, read_or_refused, shard_answer}
use Rattle.vs_command.proofs.SaidLemmas.{IsRuleFault, fault_by_rules, fault_once, not_asked}

at_stage : (n : ℕ) (status other : Status) → status ≡ other → n ≤ stage other → n ≤ stage status
at_stage n status other is le = subst (λ s. n ≤ stage s) (sym is) le

-- ---- the stages of what a log asks for

end_stage : (s : ShardName) (fault : Option (ℕ × Why)) → 7 ≤ stage (end_status s fault)
end_stage s None = omega arith
end_stage s (Some fault) = omega arith

log_stage : (stands : Gtid → ℕ → Type 0) (tables : List Picked) (s : ShardName) (log : Log) (p : Position) (status : Status) → LogAnswer stands tables s log p status → 6 ≤ stage status
log_stage stands tables s log p status (LogAnswer.ends can fault end is) = at_stage 6 status (end_status s fault) is (omega (arith, end_stage s fault))
log_stage stands tables s log p status (LogAnswer.purged missing first is) = at_stage 6 status (Purged s missing) is (omega arith)
log_stage stands tables s log p status (LogAnswer.large base over is) = at_stage 6 status (PositionTooLarge s) is (omega arith)
log_stage stands tables s log p status (LogAnswer.stopped can id at is) = at_stage 6 status (Stopped s id) is (omega arith)

-- where the log's base lies in the start, its position has no GTID missing
none_missing : (log : Log) (start : Start) (p : Position) (missing : Gtid) → HoldsBase log start → IsFrom log start p → IsFirstMissing log.base p missing → ⊥
none_missing log (At q) p missing base from first = not_subset log.base p missing first (subst (λ x. IsSubset log.base x) (sym from) base)
none_missing log Current p missing base (canonical, fit, m, after) first =
    let held : has p missing ≡ true = after missing ∙ ap (λ b. b || is_gtid_of (take m log.entries) missing) first.is_in in
    let clash : ◌≡◌ true false = sym held ∙ first.is_missing in
    cc

begun_stage : (stands : Gtid → ℕ → Type 0) (tables : List Picked) (s : ShardName) (log : Log) (start : Start) (p : Position) (status : Status) → HoldsBase log start → IsFrom log start p →
    LogAnswer stands tables s log p status → 7 ≤ stage status
begun_stage stands tables s log start p status base from (LogAnswer.ends can fault end is) = at_stage 7 status (end_status s fault) is (end_stage s fault)
begun_stage stands tables s log start p status base from (LogAnswer.purged missing first is) = absurd (none_missing log start p missing base from first)
begun_stage stands tables s log start p status base from (LogAnswer.large within over is) = at_stage 7 status (PositionTooLarge s) is (omega arith)
begun_stage stands tables s log start p status base from (LogAnswer.stopped can id at is) = at_stage 7 status (Stopped s id) is (omega arith)

-- ---- the stages of what a shard asks for

shard_stage : (shard : Shard) (s : ShardName) (start : Start) (rules : List Meant) (status : Status) → ShardAnswer LogAsksFor shard s start rules status → 3 ≤ stage status
shard_stage shard s start rules status (ShardAnswer.unread_schema line cut is) = at_stage 3 status (BadSchema s line) is (omega arith)
shard_stage shard s start rules status (ShardAnswer.unbound_rule index why not is) = at_stage 3 status (Request (faults.Unbound index why)) is (omega arith)
shard_stage shard s start rules status (ShardAnswer.by_log (schema, reads, binds, (p, from, for))) =
    let log = shard_log s shard.schema shard.log in
    let places = shard_places s shard.schema shard.log in
    let tables = picked_by rules schema.tables in
    omega (arith, log_stage places tables s log p status (log_answer places tables s log p status for))

asked_stage : (shard : Option Shard) (s : ShardName) (start : Start) (rules : List Meant) (status : Status) → ShardAsksFor LogAsksFor shard s start rules status → 3 ≤ stage status
asked_stage None s start rules status for = at_stage 3 status (UnknownShard s) for (omega arith)
asked_stage (Some shard) s start rules status for = shard_stage shard s start rules status (shard_answer LogAsksFor shard s start rules status for)

-- where the rules bind, the log asks
record IsOfLogAt (shard : Shard) (s : ShardName) (start : Start) (status : Status) : Type 0 where
  pub tables : List Picked
  pub p : Position
  pub from : IsFrom (shard_log s shard.schema shard.log) start p
  pub answer : LogAnswer (shard_places s shard.schema shard.log) tables s (shard_log s shard.schema shard.log) p status

bound_log : (shard : Shard) (s : ShardName) (start : Start) (rules : List Meant) (status : Status) → HasBinding (Some shard) rules → ShardAnswer LogAsksFor shard s start rules status → IsOfLogAt shard s start status
bound_log shard s start rules status (schema, reads, binds) (ShardAnswer.unread_schema line cut is) = absurd (read_or_refused shard.schema schema line reads cut)
bound_log shard s start rules status (schema, reads, binds) (ShardAnswer.unbound_rule index why (other, again, not) is) =
    absurd (bound_or_not rules schema.tables index why binds (subst (λ (x : Schema). UnboundIs rules x.tables (filters.Unbound index why)) (one_schema shard.schema other schema again reads) not))
bound_log shard s start rules status has (ShardAnswer.by_log (schema, reads, binds, (p, from, for))) = record {
  tables = picked_by rules schema.tables;
  p = p;
  from = from;
  answer = log_answer (shard_places s shard.schema shard.log) (picked_by rules schema.tables) s (shard_log s shard.schema shard.log) p status for;
}

schema_stage : (shard : Option Shard) (s : ShardName) (start : Start) (rules : List Meant) (status : Status) → HasBinding shard rules → ShardAsksFor LogAsksFor shard s start rules status → 6 ≤ stage status
schema_stage None s start rules status has for = absurd has
schema_stage (Some shard) s start rules status has for =
    let it = bound_log shard s start rules status has (shard_answer LogAsksFor shard s start rules status for) in
    log_stage (shard_places s shard.schema shard.log) it.tables s (shard_log s shard.schema shard.log) it.p status it.answer

link_stage : (shard : Option Shard) (s : ShardName) (start : Start) (rules : List Meant) (status : Status) → CanBegin shard s start rules → ShardAsksFor LogAsksFor shard s start rules status → 7 ≤ stage status
link_stage None s start rules status can for = absurd can
link_stage (Some shard) s start rules status can for =
    let it = bound_log shard s start rules status can.0 (shard_answer LogAsksFor shard s start rules status for) in
    begun_stage (shard_places s shard.schema shard.log) it.tables s (shard_log s shard.schema shard.log) start it.p status can.1 it.from it.answer

-- ---- the stages of what an input asks for

request_least : (fault : RequestFault) → 1 ≤ request_stage fault
request_least (faults.Cut held) = omega arith
request_least (faults.TooLong n) = omega arith
request_least (faults.Message why) = omega arith
request_least faults.NoShards = omega arith
request_least (faults.TooManyShards n) = omega arith
request_least (faults.BadName index) = omega arith
request_least (faults.BadPosition index at) = omega arith
request_least (faults.NeedsShard index) = omega arith
request_least (faults.TooManyKeys index) = omega arith
request_least (faults.LongKey index) = omega arith
request_least (faults.TooManyRules n) = omega arith
request_least (faults.NotBuilt index) = omega arith
request_least (faults.BadPattern index) = omega arith
request_least (faults.PatternRefused index) = omega arith
request_least (faults.BadRule index at) = omega arith
request_least (faults.Unbound index why) = omega arith

due_stage : (cluster : ClusterBytes) (input : List ℕ) (due : Status) → DueAnswer LogAsksFor cluster input due → 1 ≤ stage due
due_stage cluster input due (DueAnswer.refused fault is says) = at_stage 1 due (Request fault) says (request_least fault)
due_stage cluster input due (DueAnswer.asked name start rules asks for) = omega (arith, asked_stage (find_shard cluster name) name start (map meant_by rules) due for)

-- a fault of an input that asks for a shard is one of its rules
rule_stage : Laws → (input : List ℕ) (name : ShardName) (start : Start) (rules : List RuleText) (fault : RequestFault) → AsksBy input name start rules → IsFaultOf input fault → 2 ≤ request_stage fault
rule_stage laws input name start rules fault asks is = go fault (fault_by_rules laws input name start rules fault asks is)
  where
    go : (fault : RequestFault) → IsRuleFault fault → 2 ≤ request_stage fault
    go fault (index, (◌⊎◌.inl same)) = subst (λ f. 2 ≤ request_stage f) (sym same) (omega arith)
    go fault (index, (◌⊎◌.inr (at, same))) = subst (λ f. 2 ≤ request_stage f) (sym same) (omega arith)

pattern_stage : Laws → (cluster : ClusterBytes) (input : List ℕ) (index : ℕ) (due : Status) → HasPatternIn input index → DueAnswer LogAsksFor cluster input due → 2 ≤ stage due
pattern_stage laws cluster input index due (name, start, rules, asks, has) (DueAnswer.refused fault is says) = at_stage 2 due (Request fault) says (rule_stage laws input name start rules fault asks is)
pattern_stage laws cluster input index due has (DueAnswer.asked name start rules asks for) = omega (arith, asked_stage (find_shard cluster name) name start (map meant_by rules) due for)

-- what is due where a shard was asked for, the shard asks for
of_asked : Laws → (cluster : ClusterBytes) (input : List ℕ) (name : ShardName) (start : Start) (rules : List RuleText) (due : Status) → Asks input name start rules → DueAnswer LogAsksFor cluster input due →
    ShardAsksFor LogAsksFor (find_shard cluster name) name start (map meant_by rules) due
of_asked laws cluster input name start rules due asks (DueAnswer.refused fault is says) = absurd (not_asked laws input name start rules fault asks is)
of_asked laws cluster input name start rules due asks (DueAnswer.asked other from by too for) = asked_again laws LogAsksFor cluster input other name from start by rules due too asks for

brought_stage : Laws → (cluster : ClusterBytes) (input : List ℕ) (came due : Status) → IsBrought cluster input came → DueAnswer LogAsksFor cluster input due → stage came ≤ stage due
brought_stage laws cluster input Memory due brought is = omega arith
brought_stage laws cluster input InputFault due brought is = due_stage cluster input due is
brought_stage laws cluster input (Request fault) due (index, same, has) is = subst (λ f. request_stage f ≤ stage due) (sym same) (pattern_stage laws cluster input index due has is)
brought_stage laws cluster input (OpenFault name) due (start, rules, asks) is =
    asked_stage (find_shard cluster name) name start (map meant_by rules) due (of_asked laws cluster input name start rules due asks is)
brought_stage laws cluster input (FeedFault name) due (start, rules, asks, has) is =
    schema_stage (find_shard cluster name) name start (map meant_by rules) due has (of_asked laws cluster input name start rules due asks is)
brought_stage laws cluster input LinkFault due (name, start, rules, asks, can) is =
    link_stage (find_shard cluster name) name start (map meant_by rules) due can (of_asked laws cluster input name start rules due asks is)
brought_stage laws cluster input Done due brought is = absurd brought
brought_stage laws cluster input Usage due brought is = absurd brought
brought_stage laws cluster input (BadFrame number frame_why) due brought is = absurd brought
brought_stage laws cluster input (UnknownShard name) due brought is = absurd brought
brought_stage laws cluster input (Purged name missing) due brought is = absurd brought
brought_stage laws cluster input (BadLog name offset why) due brought is = absurd brought
brought_stage laws cluster input (PositionTooLarge name) due brought is = absurd brought
brought_stage laws cluster input (Stopped name id) due brought is = absurd brought
brought_stage laws cluster input (BadSchema name line) due brought is = absurd brought

-- ---- two answers that may come

-- no stage comes behind what is sent
request_most : (fault : RequestFault) → request_stage fault ≤ 7
request_most (faults.Cut held) = omega arith
request_most (faults.TooLong n) = omega arith
request_most (faults.Message why) = omega arith
request_most faults.NoShards = omega arith
request_most (faults.TooManyShards n) = omega arith
request_most (faults.BadName index) = omega arith
request_most (faults.BadPosition index at) = omega arith
request_most (faults.NeedsShard index) = omega arith
request_most (faults.TooManyKeys index) = omega arith
request_most (faults.LongKey index) = omega arith
request_most (faults.TooManyRules n) = omega arith
request_most (faults.NotBuilt index) = omega arith
request_most (faults.BadPattern index) = omega arith
request_most (faults.PatternRefused index) = omega arith
request_most (faults.BadRule index at) = omega arith
request_most (faults.Unbound index why) = omega arith

stage_most : (status : Status) → stage status ≤ 7
stage_most (Request fault) = request_most fault
stage_most Done = omega arith
stage_most Memory = omega arith
stage_most Usage = omega arith
stage_most (UnknownShard name) = omega arith
stage_most (Purged name missing) = omega arith
stage_most (BadLog name offset why) = omega arith
stage_most (FeedFault name) = omega arith
stage_most LinkFault = omega arith
stage_most InputFault = omega arith
stage_most (OpenFault name) = omega arith
stage_most (PositionTooLarge name) = omega arith
stage_most (Stopped name id) = omega arith
stage_most (BadSchema name line) = omega arith
stage_most (BadFrame number frame_why) = omega arith

same_stage : (a b : Status) → a ≡ b → stage a ≤ stage b
same_stage a b is = let same : stage a ≡ stage b = ap (λ s. stage s) is in omega (arith, same)

both_from : (start : Start) (log : Log) (stands : Gtid → ℕ → Type 0) (tables : List Picked) (s : ShardName) (a b : Status) → ((g : Gtid) (at other : ℕ) → stands g at → stands g other → at ≡ other) →
    LogAsksFor stands tables s log start a → LogAsksFor stands tables s log start b → stage a ≤ stage b
both_from (At q) log stands tables s a b once (p, from, for) (r, too, more) = same_stage a b (one_answer stands once tables s log q a b
    (log_answer stands tables s log q a (subst (λ x. PositionAsksFor stands tables s log x a) from for)) (log_answer stands tables s log q b (subst (λ x. PositionAsksFor stands tables s log x b) too more)))
both_from Current log stands tables s a b once (p, from, for) (r, too, more) =
    omega (arith, stage_most a, begun_stage stands tables s log Current r b tt too (log_answer stands tables s log r b more))

both_of_shard : Laws → (shard : Shard) (s : ShardName) (start : Start) (rules : List Meant) (a b : Status) → ShardAnswer LogAsksFor shard s start rules a → ShardAnswer LogAsksFor shard s start rules b → stage a ≤ stage b
both_of_shard laws shard s start rules a b (ShardAnswer.unread_schema line cut is) (ShardAnswer.unread_schema other again too) =
    omega (arith, ap (λ x. stage x) is, ap (λ x. stage x) too)
both_of_shard laws shard s start rules a b (ShardAnswer.unread_schema line cut is) (ShardAnswer.unbound_rule index why (schema, reads, more) too) = absurd (read_or_refused shard.schema schema line reads cut)
both_of_shard laws shard s start rules a b (ShardAnswer.unread_schema line cut is) (ShardAnswer.by_log (schema, reads, binds, asks)) = absurd (read_or_refused shard.schema schema line reads cut)
both_of_shard laws shard s start rules a b (ShardAnswer.unbound_rule index why (schema, reads, more) is) (ShardAnswer.unread_schema line cut too) = absurd (read_or_refused shard.schema schema line reads cut)
both_of_shard laws shard s start rules a b (ShardAnswer.unbound_rule i why not is) (ShardAnswer.unbound_rule j more other too) = omega (arith, ap (λ x. stage x) is, ap (λ x. stage x) too)
both_of_shard laws shard s start rules a b (ShardAnswer.unbound_rule index why (schema, reads, p) is) (ShardAnswer.by_log (other, again, binds, asks)) =
    absurd (bound_or_not rules other.tables index why binds (subst (λ (x : Schema). UnboundIs rules x.tables (filters.Unbound index why)) (one_schema shard.schema schema other reads again) p))
both_of_shard laws shard s start rules a b (ShardAnswer.by_log (schema, reads, binds, asks)) (ShardAnswer.unread_schema line cut too) = absurd (read_or_refused shard.schema schema line reads cut)
both_of_shard laws shard s start rules a b (ShardAnswer.by_log (other, again, binds, asks)) (ShardAnswer.unbound_rule index why (schema, reads, p) is) =
    absurd (bound_or_not rules other.tables index why binds (subst (λ (x : Schema). UnboundIs rules x.tables (filters.Unbound index why)) (one_schema shard.schema schema other reads again) p))
both_of_shard laws shard s start rules a b (ShardAnswer.by_log (schema, reads, binds, p)) (ShardAnswer.by_log (other, again, more, q)) =
    let log : Log = shard_log s shard.schema shard.log in
    both_from start log (shard_places s shard.schema shard.log) (picked_by rules schema.tables) s a b (laws.places (shard_rules s shard.schema) shard.log).begins p
    (subst (λ (x : Schema). LogAsksFor (shard_places s shard.schema shard.log) (picked_by rules x.tables) s log start b) (one_schema shard.schema other schema again reads) q)

both_asked : Laws → (shard : Option Shard) (s : ShardName) (start : Start) (rules : List Meant) (a b : Status) → ShardAsksFor LogAsksFor shard s start rules a → ShardAsksFor LogAsksFor shard s start rules b → stage a ≤ stage b
both_asked laws None s start rules a b p q = same_stage a b (p ∙ sym q)
both_asked laws (Some shard) s start rules a b p q = both_of_shard laws shard s start rules a b (shard_answer LogAsksFor shard s start rules a p) (shard_answer LogAsksFor shard s start rules b q)

both_due : Laws → (cluster : ClusterBytes) (input : List ℕ) (a b : Status) → DueAnswer LogAsksFor cluster input a → DueAnswer LogAsksFor cluster input b → stage a ≤ stage b
both_due laws cluster input a b (DueAnswer.refused f p is) (DueAnswer.refused g q too) = same_stage a b (is ∙ ap (λ x. Request x) (fault_once laws input f g p q) ∙ sym too)
both_due laws cluster input a b (DueAnswer.refused f p is) (DueAnswer.asked n s r asks for) = absurd (not_asked laws input n s r f asks p)
both_due laws cluster input a b (DueAnswer.asked n s r asks for) (DueAnswer.refused f p is) = absurd (not_asked laws input n s r f asks p)
both_due laws cluster input a b (DueAnswer.asked n s r asks for) (DueAnswer.asked m t u too more) =
    both_asked laws (find_shard cluster m) m t (map meant_by u) a b (asked_again laws LogAsksFor cluster input n m s t r u a asks too for) more

came_stage : Laws → (cluster : ClusterBytes) (input : List ℕ) (came due : Status) → IsBrought cluster input came ⊎ IsDue cluster input came → IsDue cluster input due → stage came ≤ stage due
came_stage laws cluster input came due (◌⊎◌.inl brought) is = brought_stage laws cluster input came due brought (due_answer LogAsksFor cluster input due is)
came_stage laws cluster input came due (◌⊎◌.inr too) is = both_due laws cluster input came due (due_answer LogAsksFor cluster input came too) (due_answer LogAsksFor cluster input due is)

pub stage_told : Laws → (told : Option ClusterBytes) (left : Option (List ℕ)) (came due : Status) → IfSome told (λ c. IfSome left (λ input. IsBrought c input came ⊎ IsDue c input came)) →
    IfSome told (λ c. IfSome left (λ input. IsDue c input due → stage came ≤ stage due))
stage_told laws None left came due is = tt
stage_told laws (Some c) None came due is = tt
stage_told laws (Some c) (Some input) came due is = came_stage laws c input came due is
