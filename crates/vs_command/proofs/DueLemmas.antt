-- An input and a cluster ask for one answer.
use Rattle.std.proofs.Common.{◌≡◌, ℕ, ℤ, ◌-◌, ◌^◌, min, false, List, map, Option, Some, None, Result, Ok, Err, refl, sym, ap, subst, ◌∙◌, arith}
use Rattle.std.specs.Prelude.{◌⊎◌, IfSome}
use Rattle.std.specs.Cmp.Lexicographic.{slice_cmp}
use Rattle.std.specs.Ordering.{nat_cmp, is_gt, ordering_then, ordering_reverse}
use Rattle.std.specs.declared.cmp.Ordering.{Ordering}
use Rattle.std.specs.declared.cmp.Ordering.TheVariants.{Less, Equal, Greater}
use Rattle.std.proofs.lemmas.Bool.Decides.{nat_tests}
use Rattle.std.proofs.lemmas.Cmp.{nat_list_cmp_total}
use Rattle.std.proofs.lemmas.Map.Lookups.{exact_bytes}
use Rattle.vs_base.specs.declared.Gtid.{Gtid}
use Rattle.vs_base.specs.declared.ShardName.{ShardName}
use Rattle.vs_base.specs.declared.rule_text.RuleText.{RuleText}
use Rattle.vs_base.specs.declared.table.Table.{Table}
use Rattle.vs_base.specs.declared.Why.{Why}
use Rattle.vs_base.specs.declared.Why.TheVariants.{TooLarge}
use Rattle.vs_filter.specs.declared.bound.Picked.{Picked}
use Rattle.vs_gtid.specs.declared.Entry.{Entry}
use Rattle.vs_gtid.specs.declared.JournalValue.{JournalValue}
use Rattle.vs_schema.specs.declared.schema.Schema.{Schema}
use Rattle.vs_schema.specs.declared.refusal.SchemaRefusal.{SchemaRefusal}
use Rattle.vs_schema.specs.declared.refusal.SchemaRefusal.TheVariants as refusal
use Rattle.vs_schema.specs.Rules.{schema_of}
use Rattle.vs_select.specs.Binding.{Unbound, UnknownColumn, WrongLiteral}
use Rattle.vs_select.specs.declared.refusal.SelectRefusal.{SelectRefusal}
use Rattle.vs_select.specs.declared.refusal.SelectRefusal.TheVariants as select
use Rattle.vs_filter.specs.Causes.{UnboundIs}
use Rattle.vs_filter.specs.Rules.{Meant, first_unbound, meant_by, picked_by}
use Rattle.vs_filter.specs.declared.filter.FilterRefusal.TheVariants as filters
use Rattle.vs_gtid.specs.Logs.{Log}
use Rattle.vs_gtid.specs.Missing.{IsFirstMissing, comes_after}
use Rattle.vs_gtid.specs.Positions.{Position, IsSubset}
use Rattle.vs_gtid.proofs.MissingLemmas.{not_subset}
use Rattle.vs_outside.specs.Clusters.{ClusterBytes, Shard, find_shard}
use Rattle.vs_model.specs.Logs.{due, stop}
use Rattle.vs_command.specs.declared.start.Start.{Start}
use Rattle.vs_command.specs.declared.start.Start.TheVariants.{At, Current}
use Rattle.vs_command.specs.declared.status.RequestFault.{RequestFault}
use Rattle.vs_command.specs.declared.status.RequestFault.TheVariants as status_fault
use Rattle.vs_command.specs.declared.status.Status.{Status}
use Rattle.vs_command.specs.declared.status.Status.TheVariants.{Done, Memory, Usage, Request, UnknownShard, Purged, BadLog, FeedFault, LinkFault, InputFault, OpenFault, PositionTooLarge, Stopped, BadSchema, BadFrame}
use Rattle.vs_command.specs.Sizes.{IsOversized, first_oversized, sendable_front, size_over}
use Rattle.vs_command.specs.Causes.{AnswersBy, AsksByItsLog, CanBeSent, EndsAtJournal, StreamEndsAt, EndsWith, IsDue, IsDueBy, IsFaultDue, IsFrom, IsOutside, IsOwed, LogAsksFor, LogOwes, PositionAsksFor, ShardAsksFor}
use Rattle.vs_command.specs.Laws.{Laws}
use Rattle.vs_command.specs.Requests.{Asks, IsFaultOf}
use Rattle.vs_command.specs.Sending.{IsTooLargeAlong}
use Rattle.vs_command.specs.Stages.{IsBrought}
use Rattle.vs_command.specs.Streaming.{IsStoppedBy, IsUnboundIn, shard_log, shard_places, shard_rules}
use Rattle.vs_command.proofs.PartLemmas.{gtid_of_parts}
use Rattle.vs_command.proofs.SaidLemmas.{asks_once, fault_once, not_asked}

-- ---- the first GTID that is missing is one

same_number : (a b : ℕ) → is_gt (nat_cmp a b) ≡ false → is_gt (nat_cmp b a) ≡ false → a ≡ b
same_number a b h k = grind (arith, nat_tests)

neither_after : (g h : Gtid) → comes_after g h ≡ false → comes_after h g ≡ false → g ≡ h
neither_after g h p q = go (slice_cmp nat_cmp g.uuid h.uuid) refl p (subst (λ o. is_gt (ordering_then o (nat_cmp h.number g.number)) ≡ false) (nat_list_cmp_total.antisymm h.uuid g.uuid) q)
  where
    go : (o : Ordering) → slice_cmp nat_cmp g.uuid h.uuid ≡ o → is_gt (ordering_then o (nat_cmp g.number h.number)) ≡ false →
        is_gt (ordering_then (ordering_reverse (slice_cmp nat_cmp g.uuid h.uuid)) (nat_cmp h.number g.number)) ≡ false → g ≡ h
    go Less e a b = let t = rw e at b in cc
    go Greater e a b = cc
    go Equal e a b = gtid_of_parts g h (exact_bytes g.uuid h.uuid e) (same_number g.number h.number a (rw e at b))

one_missing : (p q : Position) (g h : Gtid) → IsFirstMissing p q g → IsFirstMissing p q h → g ≡ h
one_missing p q g h a b = neither_after g h (a.least h b.is_in b.is_missing) (b.least g a.is_in a.is_missing)

-- ---- a log asks for one answer

-- the answer at the end of a log, where all was sent
abbrev pub end_status : ShardName → Option (ℕ × Why) → Status
end_status s None = Done
end_status s (Some fault) = BadLog s fault.0 fault.1

-- which of four it is
pub data LogAnswer (stands : Gtid → ℕ → Type 0) (tables : List Picked) (s : ShardName) (log : Log) (p : Position) (status : Status) : Type 0 where
  ends : CanBeSent tables s log p → (fault : Option (ℕ × Why)) → EndsWith stands tables s log p fault → status ≡ end_status s fault → LogAnswer stands tables s log p status
  purged : (missing : Gtid) → IsFirstMissing log.base p missing → status ≡ Purged s missing → LogAnswer stands tables s log p status
  large : IsSubset log.base p → IsTooLargeAlong p (sendable_front tables s (due s log p)) → status ≡ PositionTooLarge s → LogAnswer stands tables s log p status
  stopped : CanBeSent tables s log p → (id : ℤ) → EndsAtJournal tables s log p id → status ≡ Stopped s id → LogAnswer stands tables s log p status

pub log_answer : (stands : Gtid → ℕ → Type 0) (tables : List Picked) (s : ShardName) (log : Log) (p : Position) (status : Status) → PositionAsksFor stands tables s log p status → LogAnswer stands tables s log p status
log_answer stands tables s log p Done asks = ends asks.0 None asks.1 refl
log_answer stands tables s log p (BadLog name offset why) asks = ends asks.1 (Some (offset, why)) asks.2 (ap (λ n. BadLog n offset why) asks.0)
log_answer stands tables s log p (Purged name missing) asks = purged missing asks.1 (ap (λ n. Purged n missing) asks.0)
log_answer stands tables s log p (PositionTooLarge name) asks = large asks.1 asks.2 (ap (λ n. PositionTooLarge n) asks.0)
log_answer stands tables s log p (Stopped name id) asks = stopped asks.1 id asks.2 (ap (λ n. Stopped n id) asks.0)
log_answer stands tables s log p Memory asks = absurd asks
log_answer stands tables s log p Usage asks = absurd asks
log_answer stands tables s log p (BadFrame number frame_why) asks = absurd asks
log_answer stands tables s log p (Request fault) asks = absurd asks
log_answer stands tables s log p (UnknownShard name) asks = absurd asks
log_answer stands tables s log p (FeedFault name) asks = absurd asks
log_answer stands tables s log p LinkFault asks = absurd asks
log_answer stands tables s log p InputFault asks = absurd asks
log_answer stands tables s log p (OpenFault name) asks = absurd asks
log_answer stands tables s log p (BadSchema name line) asks = absurd asks

-- where a GTID event stands at one place, one fault ends a stream
abbrev pub StandsOnce : (Gtid → ℕ → Type 0) → Type 0
StandsOnce stands = (g : Gtid) (at other : ℕ) → stands g at → stands g other → at ≡ other

one_size : (o : Option ℕ) (n m : ℕ) → o ≡ Some n → o ≡ Some m → n ≡ m
one_size o n m p q = let both : ◌≡◌ {A = Option ℕ} (Some n) (Some m) = sym p ∙ q in cc

same_size : (tables : List Picked) (s : ShardName) (e : Entry) (a b : ℕ) → IsOversized tables s e a → IsOversized tables s e b → a ≡ b
same_size tables s e a b (n, p, is) (m, q, too) = is ∙ ap (λ k. min k (2 ^ 64 - 1)) (one_size (size_over tables s e) n m p q) ∙ sym too

one_end : (stands : Gtid → ℕ → Type 0) → StandsOnce stands → (tables : List Picked) (s : ShardName) (journal : Option JournalValue) (own : Option (ℕ × Why)) (first : Option Entry) (a b : Option (ℕ × Why)) →
    StreamEndsAt stands tables s journal own first a → StreamEndsAt stands tables s journal own first b → a ≡ b
one_end stands once tables s None own None a b is too = is ∙ sym too
one_end stands once tables s (Some j) own None a b is too = absurd is
one_end stands once tables s journal own (Some e) a b (m, size, here, is) (n, other, there, too) =
    is ∙ ap (λ k. Some (k, TooLarge size)) (once e.gtid m n here.0 there.0) ∙ ap (λ k. Some (n, TooLarge k)) (same_size tables s e size other here.1 there.1) ∙ sym too

-- where a journal of the shard's own stops it, no fault ends the stream
ends_or_stops : (stands : Gtid → ℕ → Type 0) (tables : List Picked) (s : ShardName) (log : Log) (p : Position) (fault : Option (ℕ × Why)) (id : ℤ) → EndsWith stands tables s log p fault → EndsAtJournal tables s log p id → ⊥
ends_or_stops stands tables s log p fault id end at =
    subst (λ j. StreamEndsAt stands tables s j log.fault None fault) at.1.1 (subst (λ o. StreamEndsAt stands tables s (stop s log p) log.fault o fault) at.0 end)

one_journal : (s : ShardName) (log : Log) (p : Position) (id other : ℤ) → IsStoppedBy s log p id → IsStoppedBy s log p other → id ≡ other
one_journal s log p id other (j, here, is) (k, there, too) =
    let both : ◌≡◌ {A = Option JournalValue} (Some j) (Some k) = sym here ∙ there in
    let same : j ≡ k = cc in
    sym is ∙ ap (λ (x : JournalValue). x.id) same ∙ too

pub one_answer : (stands : Gtid → ℕ → Type 0) → StandsOnce stands → (tables : List Picked) (s : ShardName) (log : Log) (p : Position) (a b : Status) → LogAnswer stands tables s log p a → LogAnswer stands tables s log p b → a ≡ b
one_answer stands once tables s log p a b (ends can f end is) (ends more g last too) =
    is ∙ ap (λ x. end_status s x) (one_end stands once tables s (stop s log p) log.fault (first_oversized tables s (due s log p)) f g end last) ∙ sym too
one_answer stands once tables s log p a b (ends can f end is) (purged missing first too) = absurd (not_subset log.base p missing first can.base)
one_answer stands once tables s log p a b (ends can f end is) (large base over too) = absurd (can.room over)
one_answer stands once tables s log p a b (purged missing first is) (ends can f end too) = absurd (not_subset log.base p missing first can.base)
one_answer stands once tables s log p a b (purged missing first is) (purged lost least too) = is ∙ ap (λ g. Purged s g) (one_missing log.base p missing lost first least) ∙ sym too
one_answer stands once tables s log p a b (purged missing first is) (large base over too) = absurd (not_subset log.base p missing first base)
one_answer stands once tables s log p a b (large base over is) (ends can f end too) = absurd (can.room over)
one_answer stands once tables s log p a b (large base over is) (purged missing first too) = absurd (not_subset log.base p missing first base)
one_answer stands once tables s log p a b (large base over is) (large more far too) = is ∙ sym too
one_answer stands once tables s log p a b (ends can f end is) (stopped more id at too) = absurd (ends_or_stops stands tables s log p f id end at)
one_answer stands once tables s log p a b (stopped more id at is) (ends can f end too) = absurd (ends_or_stops stands tables s log p f id end at)
one_answer stands once tables s log p a b (purged missing first is) (stopped can id at too) = absurd (not_subset log.base p missing first can.base)
one_answer stands once tables s log p a b (stopped can id at is) (purged missing first too) = absurd (not_subset log.base p missing first can.base)
one_answer stands once tables s log p a b (large base over is) (stopped can id at too) = absurd (can.room over)
one_answer stands once tables s log p a b (stopped can id at is) (large base over too) = absurd (can.room over)
one_answer stands once tables s log p a b (stopped can id at is) (stopped more other there too) = is ∙ ap (λ n. Stopped s n) (one_journal s log p id other at.1 there.1) ∙ sym too

-- what may come is what is owed
one_owed : (stands : Gtid → ℕ → Type 0) → StandsOnce stands → (tables : List Picked) (s : ShardName) (log : Log) (start : Start) (a b : Status) → LogAsksFor stands tables s log start a → LogOwes stands tables s log start b → a ≡ b
one_owed stands once tables s log start a b (p, from, for) owes =
    one_answer stands once tables s log p a b (log_answer stands tables s log p a for) (log_answer stands tables s log p b (owes p from))

-- a schema text that reads isn't refused
pub read_or_refused : (text : List ℕ) (schema : Schema) (line : ℕ) → schema_of text ≡ Ok schema → schema_of text ≡ Err (refusal.BadSchema line) → ⊥
read_or_refused text schema line reads refused = let clash : ◌≡◌ {A = Result Schema SchemaRefusal} (Ok schema) (Err (refusal.BadSchema line)) = sym reads ∙ refused in cc

-- and it says one schema
pub one_schema : (text : List ℕ) (a b : Schema) → schema_of text ≡ Ok a → schema_of text ≡ Ok b → a ≡ b
one_schema text a b p q = let both : ◌≡◌ {A = Result Schema SchemaRefusal} (Ok a) (Ok b) = sym p ∙ q in cc

-- ---- rules that don't bind

-- why a select doesn't bind, as its refusal
abbrev why_of : Unbound → SelectRefusal
why_of (UnknownColumn name) = select.UnknownColumn name
why_of (WrongLiteral name) = select.WrongLiteral name

-- the first rule that doesn't bind, and why
record SaysUnbound (rules : List Meant) (schema : List Table) (index : ℕ) (why : SelectRefusal) : Type 0 where
  pub cause : Unbound
  pub first : first_unbound rules schema ≡ Some (index, cause)
  pub is : why ≡ why_of cause

unbound_said : (rules : List Meant) (schema : List Table) (index : ℕ) (why : SelectRefusal) → UnboundIs rules schema (filters.Unbound index why) → SaysUnbound rules schema index why
unbound_said rules schema index (select.UnknownColumn name) h = record { cause = UnknownColumn name; first = h; is = refl }
unbound_said rules schema index (select.WrongLiteral name) h = record { cause = WrongLiteral name; first = h; is = refl }
unbound_said rules schema index (select.BadSelect at) h = absurd h
unbound_said rules schema index select.Memory h = absurd h

pub bound_or_not : (rules : List Meant) (schema : List Table) (index : ℕ) (why : SelectRefusal) → first_unbound rules schema ≡ None → UnboundIs rules schema (filters.Unbound index why) → ⊥
bound_or_not rules schema index why none h =
    let said = unbound_said rules schema index why h in
    let clash : ◌≡◌ {A = Option (ℕ × Unbound)} (Some (index, said.cause)) None = sym said.first ∙ none in
    cc

-- the end that the first rule makes that doesn't bind
abbrev unbound_end : Option (ℕ × Unbound) → Status
unbound_end None = Done
unbound_end (Some found) = Request (status_fault.Unbound found.0 (why_of found.1))

one_unbound : (rules : List Meant) (schema other : List Table) (i j : ℕ) (why more : SelectRefusal) → schema ≡ other → UnboundIs rules schema (filters.Unbound i why) → UnboundIs rules other (filters.Unbound j more) →
    ◌≡◌ {A = Status} (Request (status_fault.Unbound i why)) (Request (status_fault.Unbound j more))
one_unbound rules schema other i j why more same p q =
    let a = unbound_said rules schema i why p in
    let b = unbound_said rules other j more q in
    ap (λ w. Request (status_fault.Unbound i w)) a.is ∙ ap unbound_end (sym a.first ∙ ap (λ t. first_unbound rules t) same ∙ b.first) ∙ ap (λ w. Request (status_fault.Unbound j w)) (sym b.is)

-- which of three a shard asks for
pub data ShardAnswer (ask : (Gtid → ℕ → Type 0) → List Picked → ShardName → Log → Start → Status → Type 0) (shard : Shard) (s : ShardName) (start : Start) (rules : List Meant) (status : Status) : Type 0 where
  unread_schema : (line : ℕ) → schema_of shard.schema ≡ Err (refusal.BadSchema line) → status ≡ BadSchema s line → ShardAnswer ask shard s start rules status
  unbound_rule : (index : ℕ) (why : SelectRefusal) → IsUnboundIn (Some shard) rules index why → status ≡ Request (status_fault.Unbound index why) → ShardAnswer ask shard s start rules status
  by_log : AsksByItsLog ask shard s start rules status → ShardAnswer ask shard s start rules status

pub shard_answer : (ask : (Gtid → ℕ → Type 0) → List Picked → ShardName → Log → Start → Status → Type 0) (shard : Shard) (s : ShardName) (start : Start) (rules : List Meant) (status : Status) → ShardAsksFor ask (Some shard) s start rules status → ShardAnswer ask shard s start rules status
shard_answer ask shard s start rules status (◌⊎◌.inl (line, cut, is)) = unread_schema line cut is
shard_answer ask shard s start rules status (◌⊎◌.inr (◌⊎◌.inl (index, why, is, says))) = unbound_rule index why is says
shard_answer ask shard s start rules status (◌⊎◌.inr (◌⊎◌.inr by)) = by_log by

one_of_answers : Laws → (shard : Shard) (s : ShardName) (start : Start) (rules : List Meant) (a b : Status) → ShardAnswer LogAsksFor shard s start rules a → ShardAnswer LogOwes shard s start rules b → a ≡ b
one_of_answers laws shard s start rules a b (unread_schema line cut is) (unread_schema other again too) =
    let both : ◌≡◌ {A = Result Schema SchemaRefusal} (Err (refusal.BadSchema line)) (Err (refusal.BadSchema other)) = sym cut ∙ again in
    let same : line ≡ other = cc in
    is ∙ ap (λ n. BadSchema s n) same ∙ sym too
one_of_answers laws shard s start rules a b (unread_schema line cut is) (unbound_rule index why (schema, reads, more) too) = absurd (read_or_refused shard.schema schema line reads cut)
one_of_answers laws shard s start rules a b (unread_schema line cut is) (by_log (schema, reads, binds, asks)) = absurd (read_or_refused shard.schema schema line reads cut)
one_of_answers laws shard s start rules a b (unbound_rule index why (schema, reads, more) is) (unread_schema line cut too) = absurd (read_or_refused shard.schema schema line reads cut)
one_of_answers laws shard s start rules a b (unbound_rule i why (schema, reads, p) is) (unbound_rule j more (other, again, q) too) =
    is ∙ one_unbound rules schema.tables other.tables i j why more (ap (λ (x : Schema). x.tables) (one_schema shard.schema schema other reads again)) p q ∙ sym too
one_of_answers laws shard s start rules a b (unbound_rule index why (schema, reads, p) is) (by_log (other, again, binds, asks)) =
    absurd (bound_or_not rules other.tables index why binds (subst (λ (x : Schema). UnboundIs rules x.tables (filters.Unbound index why)) (one_schema shard.schema schema other reads again) p))
one_of_answers laws shard s start rules a b (by_log (schema, reads, binds, asks)) (unread_schema line cut too) = absurd (read_or_refused shard.schema schema line reads cut)
one_of_answers laws shard s start rules a b (by_log (other, again, binds, asks)) (unbound_rule index why (schema, reads, p) is) =
    absurd (bound_or_not rules other.tables index why binds (subst (λ (x : Schema). UnboundIs rules x.tables (filters.Unbound index why)) (one_schema shard.schema schema other reads again) p))
one_of_answers laws shard s start rules a b (by_log (schema, reads, binds, p)) (by_log (other, again, more, q)) =
    let log : Log = shard_log s shard.schema shard.log in
    one_owed (shard_places s shard.schema shard.log) (laws.places (shard_rules s shard.schema) shard.log).begins (picked_by rules schema.tables) s log start a b p
    (subst (λ (x : Schema). LogOwes (shard_places s shard.schema shard.log) (picked_by rules x.tables) s log start b) (one_schema shard.schema other schema again reads) q)

one_of_shard : Laws → (shard : Option Shard) (s : ShardName) (start : Start) (rules : List Meant) (a b : Status) → ShardAsksFor LogAsksFor shard s start rules a → ShardAsksFor LogOwes shard s start rules b → a ≡ b
one_of_shard laws None s start rules a b p q = p ∙ sym q
one_of_shard laws (Some shard) s start rules a b p q = one_of_answers laws shard s start rules a b (shard_answer LogAsksFor shard s start rules a p) (shard_answer LogOwes shard s start rules b q)

-- ---- an input asks for one answer

-- the input is refused, or asks for a shard, which asks for the answer
pub data DueAnswer (ask : (Gtid → ℕ → Type 0) → List Picked → ShardName → Log → Start → Status → Type 0) (cluster : ClusterBytes) (input : List ℕ) (status : Status) : Type 0 where
  refused : (fault : RequestFault) → IsFaultOf input fault → status ≡ Request fault → DueAnswer ask cluster input status
  asked : (name : ShardName) (start : Start) (rules : List RuleText) → Asks input name start rules → ShardAsksFor ask (find_shard cluster name) name start (map meant_by rules) status → DueAnswer ask cluster input status

of_log : (ask : (Gtid → ℕ → Type 0) → List Picked → ShardName → Log → Start → Status → Type 0) (cluster : ClusterBytes) (input : List ℕ) (status : Status) → AnswersBy ask cluster input status → DueAnswer ask cluster input status
of_log ask cluster input status (name, start, rules, shard, asks, found, by) =
    asked name start rules asks (subst (λ o. ShardAsksFor ask o name start (map meant_by rules) status) (sym found) (◌⊎◌.inr (◌⊎◌.inr by)))

pub unbound_asks : (ask : (Gtid → ℕ → Type 0) → List Picked → ShardName → Log → Start → Status → Type 0) (shard : Option Shard) (s : ShardName) (start : Start) (rules : List Meant) (index : ℕ) (why : SelectRefusal) → IsUnboundIn shard rules index why →
    ShardAsksFor ask shard s start rules (Request (status_fault.Unbound index why))
unbound_asks ask None s start rules index why is = absurd is
unbound_asks ask (Some shard) s start rules index why is = ◌⊎◌.inr (◌⊎◌.inl (index, why, is, refl))

of_fault : (ask : (Gtid → ℕ → Type 0) → List Picked → ShardName → Log → Start → Status → Type 0) (cluster : ClusterBytes) (input : List ℕ) (fault : RequestFault) → IsFaultDue cluster input fault → DueAnswer ask cluster input (Request fault)
of_fault ask cluster input fault (◌⊎◌.inl is) = refused fault is refl
of_fault ask cluster input fault (◌⊎◌.inr (index, why, is, (name, start, rules, asks, not))) =
    asked name start rules asks (subst (λ f. ShardAsksFor ask (find_shard cluster name) name start (map meant_by rules) (Request f)) (sym is) (unbound_asks ask (find_shard cluster name) name start (map meant_by rules) index why not))

pub due_answer : (ask : (Gtid → ℕ → Type 0) → List Picked → ShardName → Log → Start → Status → Type 0) (cluster : ClusterBytes) (input : List ℕ) (status : Status) → IsDueBy ask cluster input status → DueAnswer ask cluster input status
due_answer ask cluster input (Request fault) due = of_fault ask cluster input fault due
due_answer ask cluster input (UnknownShard name) (start, rules, asks, absent) =
    asked name start rules asks (subst (λ o. ShardAsksFor ask o name start (map meant_by rules) (UnknownShard name)) (sym absent) refl)
due_answer ask cluster input (BadSchema name line) (start, rules, shard, asks, found, cut) =
    asked name start rules asks (subst (λ o. ShardAsksFor ask o name start (map meant_by rules) (BadSchema name line)) (sym found) (◌⊎◌.inl (line, cut, refl)))
due_answer ask cluster input Done due = of_log ask cluster input Done due
due_answer ask cluster input Memory due = of_log ask cluster input Memory due
due_answer ask cluster input Usage due = of_log ask cluster input Usage due
due_answer ask cluster input (BadFrame number frame_why) due = of_log ask cluster input (BadFrame number frame_why) due
due_answer ask cluster input (Purged name missing) due = of_log ask cluster input (Purged name missing) due
due_answer ask cluster input (BadLog name offset why) due = of_log ask cluster input (BadLog name offset why) due
due_answer ask cluster input (FeedFault name) due = of_log ask cluster input (FeedFault name) due
due_answer ask cluster input LinkFault due = of_log ask cluster input LinkFault due
due_answer ask cluster input InputFault due = of_log ask cluster input InputFault due
due_answer ask cluster input (OpenFault name) due = of_log ask cluster input (OpenFault name) due
due_answer ask cluster input (PositionTooLarge name) due = of_log ask cluster input (PositionTooLarge name) due
due_answer ask cluster input (Stopped name id) due = of_log ask cluster input (Stopped name id) due

-- what one ask asks for, another one asks for too
pub asked_again : Laws → (ask : (Gtid → ℕ → Type 0) → List Picked → ShardName → Log → Start → Status → Type 0) (cluster : ClusterBytes) (input : List ℕ) (n m : ShardName) (s t : Start) (r u : List RuleText) (status : Status) → Asks input n s r → Asks input m t u →
    ShardAsksFor ask (find_shard cluster n) n s (map meant_by r) status → ShardAsksFor ask (find_shard cluster m) m t (map meant_by u) status
asked_again laws ask cluster input n m s t r u status asks too for =
    let same = asks_once laws input n m s t r u asks.0 too.0 in
    subst (λ x. ShardAsksFor ask (find_shard cluster m) m x (map meant_by u) status) same.1
    (subst (λ x. ShardAsksFor ask (find_shard cluster m) m s (map meant_by x) status) same.2 (subst (λ x. ShardAsksFor ask (find_shard cluster x) x s (map meant_by r) status) same.0 for))

one_due : Laws → (cluster : ClusterBytes) (input : List ℕ) (a b : Status) → DueAnswer LogAsksFor cluster input a → DueAnswer LogOwes cluster input b → a ≡ b
one_due laws cluster input a b (refused f p is) (refused g q too) = is ∙ ap (λ x. Request x) (fault_once laws input f g p q) ∙ sym too
one_due laws cluster input a b (refused f p is) (asked n s r asks for) = absurd (not_asked laws input n s r f asks p)
one_due laws cluster input a b (asked n s r asks for) (refused f p is) = absurd (not_asked laws input n s r f asks p)
one_due laws cluster input a b (asked n s r asks for) (asked m t u too more) =
    one_of_shard laws (find_shard cluster m) m t (map meant_by u) a b (asked_again laws LogAsksFor cluster input n m s t r u a asks too for) more

-- what may come is what is owed
pub due_owed : Laws → (cluster : ClusterBytes) (input : List ℕ) (a b : Status) → IsDue cluster input a → IsOwed cluster input b → a ≡ b
due_owed laws cluster input a b p q = one_due laws cluster input a b (due_answer LogAsksFor cluster input a p) (due_answer LogOwes cluster input b q)

-- ---- the answer that came

-- what is brought is from outside
brought_outside : (cluster : ClusterBytes) (input : List ℕ) (status : Status) → IsBrought cluster input status → IsOutside status
brought_outside cluster input Memory brought = tt
brought_outside cluster input InputFault brought = tt
brought_outside cluster input LinkFault brought = tt
brought_outside cluster input (FeedFault name) brought = tt
brought_outside cluster input (OpenFault name) brought = tt
brought_outside cluster input Done brought = brought
brought_outside cluster input Usage brought = brought
brought_outside cluster input (BadFrame number frame_why) brought = brought
brought_outside cluster input (Request fault) (index, is, has) = (index, is)
brought_outside cluster input (UnknownShard name) brought = brought
brought_outside cluster input (Purged name missing) brought = brought
brought_outside cluster input (BadLog name offset why) brought = brought
brought_outside cluster input (PositionTooLarge name) brought = brought
brought_outside cluster input (Stopped name id) brought = brought
brought_outside cluster input (BadSchema name line) brought = brought

-- an answer that isn't brought from outside is due
came : (cluster : ClusterBytes) (input : List ℕ) (status other : Status) → IsBrought cluster input status ⊎ IsDue cluster input status → status ≡ other → (IsOutside other → ⊥) → IsDue cluster input other
came cluster input status other (◌⊎◌.inl brought) is not = absurd (not (subst IsOutside is (brought_outside cluster input status brought)))
came cluster input status other (◌⊎◌.inr due) is not = subst (λ s. IsDue cluster input s) is due

pub came_told : (told : Option ClusterBytes) (left : Option (List ℕ)) (status other : Status) → IfSome told (λ c. IfSome left (λ input. IsBrought c input status ⊎ IsDue c input status)) →
    status ≡ other → (IsOutside other → ⊥) → IfSome told (λ c. IfSome left (λ input. IsDue c input other))
came_told None left status other due is not = tt
came_told (Some c) None status other due is not = tt
came_told (Some c) (Some input) status other due is not = came c input status other due is not

-- the answer that is owed comes, but for one that is brought from outside
comes : Laws → (cluster : ClusterBytes) (input : List ℕ) (status other : Status) → IsBrought cluster input status ⊎ IsDue cluster input status → IsOwed cluster input other → IsOutside status ⊎ (status ≡ other)
comes laws cluster input status other (◌⊎◌.inl brought) owed = ◌⊎◌.inl (brought_outside cluster input status brought)
comes laws cluster input status other (◌⊎◌.inr came) owed = ◌⊎◌.inr (due_owed laws cluster input status other came owed)

pub comes_told : Laws → (told : Option ClusterBytes) (left : Option (List ℕ)) (status other : Status) → IfSome told (λ c. IfSome left (λ input. IsBrought c input status ⊎ IsDue c input status)) →
    IfSome told (λ c. IfSome left (λ input. IsOwed c input other → IsOutside status ⊎ (status ≡ other)))
comes_told laws None left status other due = tt
comes_told laws (Some c) None status other due = tt
comes_told laws (Some c) (Some input) status other due = comes laws c input status other due
