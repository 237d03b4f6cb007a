-- An input says one thing: a request, or one fault.
use Rattle.std.proofs.Common.{◌≡◌, ℕ, List, [], ◌∷◌, length, Option, Some, None, Result, Ok, Err, refl, sym, ap, subst, ◌∙◌, arith}
use Rattle.std.specs.Prelude.{◌⊎◌}
use Rattle.vs_base.specs.declared.ShardName.{ShardName}
use Rattle.vs_base.specs.declared.rule_text.RuleText.{RuleText}
use Rattle.vs_filter.specs.Causes.{FaultIs}
use Rattle.vs_filter.specs.Rules.{Fault, NoPattern, NoSelect, first_fault}
use Rattle.vs_command.proofs.PartLemmas.{name_of_parts}
use Rattle.vs_frame.specs.Frames.{IsPart, IsTooLong}
use Rattle.vs_request.specs.Requests.{Says}
use Rattle.vs_request.specs.declared.request.Request.{Request}
use Rattle.vs_request.specs.declared.request.StartAt.TheVariants.{Fresh}
use Rattle.vs_request.specs.declared.request.Wanted.{Wanted}
use Rattle.vs_request.specs.declared.refusal.RequestRefusal.{RequestRefusal}
use Rattle.vs_request.specs.declared.refusal.RequestRefusal.TheVariants as refusals
use Rattle.vs_command.specs.declared.request.RequestEnd.{RequestEnd}
use Rattle.vs_command.specs.declared.request.RequestEnd.TheVariants as ends
use Rattle.vs_command.specs.declared.start.Start.{Start}
use Rattle.vs_command.specs.declared.start.Start.TheVariants.{At, Current}
use Rattle.vs_command.specs.declared.status.RequestFault.{RequestFault}
use Rattle.vs_command.specs.declared.status.RequestFault.TheVariants.{Cut, TooLong, Message, NoShards, TooManyShards, BadName, BadPosition, NeedsShard, TooManyKeys, LongKey, TooManyRules, NotBuilt, BadPattern, PatternRefused, BadRule, Unbound}
use Rattle.vs_command.specs.Laws.{Laws}
use Rattle.vs_command.specs.Requests.{Asks, AsksBy, BeginsWithRequest, IsFaultOf, IsNotBuilt, IsPlain, end_of, entry_of, start_of}

-- ---- what an input says

-- it ends before a frame is whole, a length is too long, or a message says something
data Said : Type 0 where
  cuts : (held : ℕ) → Said
  long : (n : ℕ) → Said
  says : (said : Result Request RequestRefusal) → Said

abbrev SaidBy : List ℕ → Said → Type 0
SaidBy input (cuts held) = IsPart input × (held ≡ length input)
SaidBy input (long n) = IsTooLong input n
SaidBy input (says said) = BeginsWithRequest input said

said_once : Laws → (input : List ℕ) (a b : Said) → SaidBy input a → SaidBy input b → a ≡ b
said_once laws input (cuts h) (cuts k) p q = ap (λ n. cuts n) (p.1 ∙ sym q.1)
said_once laws input (cuts h) (long n) p q = absurd (laws.part_fits input n p.0 q)
said_once laws input (long n) (cuts h) p q = absurd (laws.part_fits input n q.0 p)
said_once laws input (cuts h) (says r) p q = absurd (laws.part input p.0 q.0 q.1 q.2)
said_once laws input (says r) (cuts h) p q = absurd (laws.part input q.0 p.0 p.1 p.2)
said_once laws input (long n) (long m) p q = ap (λ n. long n) (laws.one_length input n m p q)
said_once laws input (long n) (says r) p q = absurd (laws.too_long input n p q.0 q.1 q.2)
said_once laws input (says r) (long n) p q = absurd (laws.too_long input n q p.0 p.1 p.2)
said_once laws input (says r) (says s) p q =
    let same = laws.one_frame input p.0 q.0 p.1 q.1 p.2 q.2 in
    ap (λ x. says x) (laws.requests q.0 r s (subst (λ m. Says m r) same.0 p.3) q.3)

-- ---- the fault that it is

-- a fault of a rule, as that of the request that it is
abbrev fault_at : ℕ → Fault → RequestFault
fault_at index NoPattern = BadPattern index
fault_at index (NoSelect at) = BadRule index at

-- what is wrong with a request that was read: it isn't built, or one of its rules has a fault
data BringsBy (request : Request) (fault : RequestFault) : Type 0 where
  unbuilt : (index : ℕ) → fault ≡ NotBuilt index → IsNotBuilt request index → BringsBy request fault
  faulty : (name : ShardName) (start : Start) (rules : List RuleText) (index : ℕ) (why : Fault) → IsPlain request name start rules → FaultIs rules index why → fault ≡ fault_at index why → BringsBy request fault

abbrev Brings : Said → RequestFault → Type 0
Brings (cuts held) fault = fault ≡ Cut held
Brings (long n) fault = fault ≡ TooLong n
Brings (says (Err refusal)) fault = end_of refusal ≡ ends.Fault fault
Brings (says (Ok request)) fault = BringsBy request fault

record HasFault (input : List ℕ) (fault : RequestFault) : Type 0 where
  pub said : Said
  pub is : SaidBy input said
  pub brings : Brings said fault

refused_by : (input : List ℕ) (refusal : RequestRefusal) (fault : RequestFault) → end_of refusal ≡ ends.Fault fault → BeginsWithRequest input (Err refusal) → HasFault input fault
refused_by input refusal fault is begins = record { said = says (Err refusal); is = begins; brings = is }

fault_said : (input : List ℕ) (fault : RequestFault) → IsFaultOf input fault → HasFault input fault
fault_said input (Cut held) p = record { said = cuts held; is = p; brings = refl }
fault_said input (TooLong n) p = record { said = long n; is = p; brings = refl }
fault_said input (Message why) p = refused_by input (refusals.Message why) (Message why) refl p
fault_said input NoShards p = refused_by input refusals.NoShards NoShards refl p
fault_said input (TooManyShards n) p = refused_by input (refusals.TooManyShards n) (TooManyShards n) refl p
fault_said input (BadName index) p = refused_by input (refusals.BadName index) (BadName index) refl p
fault_said input (BadPosition index at) p = refused_by input (refusals.BadPosition index at) (BadPosition index at) refl p
fault_said input (NeedsShard index) p = refused_by input (refusals.NeedsShard index) (NeedsShard index) refl p
fault_said input (TooManyKeys index) p = refused_by input (refusals.TooManyKeys index) (TooManyKeys index) refl p
fault_said input (LongKey index) p = refused_by input (refusals.LongKey index) (LongKey index) refl p
fault_said input (TooManyRules n) p = refused_by input (refusals.TooManyRules n) (TooManyRules n) refl p
fault_said input (NotBuilt index) p = record { said = says (Ok p.3.0); is = (p.0, p.1, p.2, p.3.1); brings = unbuilt index refl p.3.2 }
fault_said input (BadPattern index) p = record { said = says (Ok p.3.0); is = (p.0, p.1, p.2, p.3.1); brings = faulty p.3.2 p.3.3 p.3.4 index NoPattern p.3.5 p.3.6 refl }
fault_said input (BadRule index at) p = record { said = says (Ok p.3.0); is = (p.0, p.1, p.2, p.3.1); brings = faulty p.3.2 p.3.3 p.3.4 index (NoSelect at) p.3.5 p.3.6 refl }
fault_said input (PatternRefused index) p = absurd p.3
fault_said input (Unbound index why) p = absurd p.3

one_index : (request : Request) (i j : ℕ) → IsNotBuilt request i → IsNotBuilt request j → i ≡ j
one_index request i j (◌⊎◌.inl p) (◌⊎◌.inl q) = p.0 ∙ sym q.0
one_index request i j (◌⊎◌.inr p) (◌⊎◌.inr q) = p.0 ∙ sym q.0
one_index request i j (◌⊎◌.inl p) (◌⊎◌.inr q) = absurd (omega (arith, p.1, ap (λ (l : List Wanted). length l) q.2))
one_index request i j (◌⊎◌.inr p) (◌⊎◌.inl q) = absurd (omega (arith, q.1, ap (λ (l : List Wanted). length l) p.2))

one_start : (s t : Start) → start_of s ≡ start_of t → s ≡ t
one_start (At p) (At q) h = let same : p ≡ q = cc in ap (λ x. At x) same
one_start (At p) Current h = cc
one_start Current (At q) h = cc
one_start Current Current h = refl

one_entry : (a b : Wanted) → ◌≡◌ {A = List Wanted} (a ∷ []) (b ∷ []) → a ≡ b
one_entry a b h = cc

one_plain : (request : Request) (n m : ShardName) (s t : Start) (r u : List RuleText) → IsPlain request n s r → IsPlain request m t u → (n ≡ m) × (s ≡ t) × (r ≡ u)
one_plain request n m s t r u p q =
    let head = one_entry (entry_of n s) (entry_of m t) (sym p.entries ∙ q.entries) in
    (name_of_parts n m (ap (λ (w : Wanted). w.keyspace) head) (ap (λ (w : Wanted). w.shard) head), one_start s t (ap (λ (w : Wanted). w.start) head), p.rules_are ∙ sym q.rules_are)

not_plain : (request : Request) (name : ShardName) (start : Start) (rules : List RuleText) (index : ℕ) → IsPlain request name start rules → IsNotBuilt request index → ⊥
not_plain request name start rules index plain (◌⊎◌.inl many) = omega (arith, many.1, ap (λ (l : List Wanted). length l) plain.entries)
not_plain request name start rules index plain (◌⊎◌.inr (zero, wanted, one, ◌⊎◌.inr flags)) = flags plain.flags
not_plain request name start rules index plain (◌⊎◌.inr (zero, wanted, one, ◌⊎◌.inl (◌⊎◌.inl fresh))) =
    not_fresh start (sym (ap (λ (w : Wanted). w.start) (one_entry wanted (entry_of name start) (sym one ∙ plain.entries))) ∙ fresh)
  where
    not_fresh : (start : Start) → start_of start ≡ Fresh → ⊥
    not_fresh (At p) h = cc
    not_fresh Current h = cc
not_plain request name start rules index plain (◌⊎◌.inr (zero, wanted, one, ◌⊎◌.inl (◌⊎◌.inr (◌⊎◌.inl shard)))) =
    plain.shard (sym (ap (λ (w : Wanted). w.shard) (one_entry wanted (entry_of name start) (sym one ∙ plain.entries))) ∙ shard)
not_plain request name start rules index plain (◌⊎◌.inr (zero, wanted, one, ◌⊎◌.inl (◌⊎◌.inr (◌⊎◌.inr key)))) =
    key (ap (λ (w : Wanted). w.last_key) (one_entry wanted (entry_of name start) (sym one ∙ plain.entries)))

-- the fault of a rule that is the first
abbrev fault_in : Option (ℕ × Fault) → RequestFault
fault_in None = NoShards
fault_in (Some fault) = fault_at fault.0 fault.1

one_fault : (rules others : List RuleText) (i j : ℕ) (why more : Fault) → rules ≡ others → FaultIs rules i why → FaultIs others j more → fault_at i why ≡ fault_at j more
one_fault rules others i j why more same p q = ap fault_in (sym p ∙ ap first_fault same ∙ q)

of_request : (request : Request) (f g : RequestFault) → BringsBy request f → BringsBy request g → f ≡ g
of_request request f g (unbuilt i is p) (unbuilt j too q) = is ∙ ap (λ k. NotBuilt k) (one_index request i j p q) ∙ sym too
of_request request f g (unbuilt i is p) (faulty n s r j why plain fault too) = absurd (not_plain request n s r i plain p)
of_request request f g (faulty n s r j why plain fault is) (unbuilt i too p) = absurd (not_plain request n s r i plain p)
of_request request f g (faulty n s r i why plain fault is) (faulty m t u j more other bad too) =
    is ∙ one_fault r u i j why more (one_plain request n m s t r u plain other).2 fault bad ∙ sym too

brings_once : (said : Said) (f g : RequestFault) → Brings said f → Brings said g → f ≡ g
brings_once (cuts held) f g p q = p ∙ sym q
brings_once (long n) f g p q = p ∙ sym q
brings_once (says (Err refusal)) f g p q = let same : ◌≡◌ {A = RequestEnd} (ends.Fault f) (ends.Fault g) = sym p ∙ q in cc
brings_once (says (Ok request)) f g p q = of_request request f g p q

pub fault_once : Laws → (input : List ℕ) (f g : RequestFault) → IsFaultOf input f → IsFaultOf input g → f ≡ g
fault_once laws input f g p q =
    let a = fault_said input f p in
    let b = fault_said input g q in
    brings_once b.said f g (subst (λ s. Brings s f) (said_once laws input a.said b.said a.is b.is) a.brings) b.brings

-- ---- what it asks for

same_request : Laws → (input : List ℕ) (a b : Request) → BeginsWithRequest input (Ok a) → BeginsWithRequest input (Ok b) → a ≡ b
same_request laws input a b p q = let same = said_once laws input (says (Ok a)) (says (Ok b)) p q in cc

pub asks_once : Laws → (input : List ℕ) (n m : ShardName) (s t : Start) (r u : List RuleText) → AsksBy input n s r → AsksBy input m t u → (n ≡ m) × (s ≡ t) × (r ≡ u)
asks_once laws input n m s t r u p q = one_plain q.0 n m s t r u (subst (λ x. IsPlain x n s r) (same_request laws input p.0 q.0 p.1 q.1) p.2) q.2

none_brought : (request asked : Request) (name : ShardName) (start : Start) (rules : List RuleText) (fault : RequestFault) → request ≡ asked → IsPlain asked name start rules → first_fault rules ≡ None →
    BringsBy request fault → ⊥
none_brought request asked name start rules fault same plain lawful (unbuilt index is not) = not_plain asked name start rules index plain (subst (λ x. IsNotBuilt x index) same not)
none_brought request asked name start rules fault same plain lawful (faulty n s r index why other bad is) =
    let rules_are : r ≡ rules = (one_plain asked n name s start r rules (subst (λ x. IsPlain x n s r) same other) plain).2 in
    let clash : ◌≡◌ {A = Option (ℕ × Fault)} (Some (index, why)) None = sym bad ∙ ap first_fault rules_are ∙ lawful in
    cc

pub not_asked : Laws → (input : List ℕ) (name : ShardName) (start : Start) (rules : List RuleText) (fault : RequestFault) → Asks input name start rules → IsFaultOf input fault → ⊥
not_asked laws input name start rules fault asks is =
    let it = fault_said input fault is in
    go it.said fault (said_once laws input it.said (says (Ok asks.0.0)) it.is asks.0.1) it.brings
  where
    go : (said : Said) (fault : RequestFault) → said ≡ says (Ok asks.0.0) → Brings said fault → ⊥
    go (cuts held) fault same brings = cc
    go (long n) fault same brings = cc
    go (says (Err refusal)) fault same brings = cc
    go (says (Ok request)) fault same brings = let r : request ≡ asks.0.0 = cc in none_brought request asks.0.0 name start rules fault r asks.0.2 asks.1 brings

-- the fault is one of a rule
abbrev pub IsRuleFault : RequestFault → Type 0
IsRuleFault fault = (index : ℕ) × ((fault ≡ BadPattern index) ⊎ ((at : ℕ) × (fault ≡ BadRule index at)))

rule_fault : (index : ℕ) (why : Fault) (fault : RequestFault) → fault ≡ fault_at index why → IsRuleFault fault
rule_fault index NoPattern fault is = (index, ◌⊎◌.inl is)
rule_fault index (NoSelect at) fault is = (index, ◌⊎◌.inr (at, is))

brought_by_rules : (request asked : Request) (name : ShardName) (start : Start) (rules : List RuleText) (fault : RequestFault) → request ≡ asked → IsPlain asked name start rules → BringsBy request fault → IsRuleFault fault
brought_by_rules request asked name start rules fault same plain (unbuilt index is not) = absurd (not_plain asked name start rules index plain (subst (λ x. IsNotBuilt x index) same not))
brought_by_rules request asked name start rules fault same plain (faulty n s r index why other bad is) = rule_fault index why fault is

-- a fault of an input that asks for a shard is one of its rules
pub fault_by_rules : Laws → (input : List ℕ) (name : ShardName) (start : Start) (rules : List RuleText) (fault : RequestFault) → AsksBy input name start rules → IsFaultOf input fault → IsRuleFault fault
fault_by_rules laws input name start rules fault asks is =
    let it = fault_said input fault is in
    go it.said fault (said_once laws input it.said (says (Ok asks.0)) it.is asks.1) it.brings
  where
    go : (said : Said) (fault : RequestFault) → said ≡ says (Ok asks.0) → Brings said fault → IsRuleFault fault
    go (cuts held) fault same brings = absurd (cc)
    go (long n) fault same brings = absurd (cc)
    go (says (Err refusal)) fault same brings = absurd (cc)
    go (says (Ok request)) fault same brings = let r : request ≡ asks.0 = cc in brought_by_rules request asks.0 name start rules fault r asks.2 brings
