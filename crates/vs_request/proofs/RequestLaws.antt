-- Bytes say one thing: a request, or their first fault.
use Rattle.std.proofs.Common.{◌≡◌, ◌<◌, ◌∙◌, ◌⊎◌, ℕ, List, length, Result, Ok, Err, refl, sym, ap, arith, inl, inr}
use Rattle.std.specs.Prelude.{MatchResult, map, true}
use Rattle.vs_proto.specs.Shapes.{read}
use Rattle.vs_proto.specs.Tables as tables
use Rattle.vs_proto.specs.declared.refusal.Fault.{Fault}
use Rattle.vs_proto.specs.declared.refusal.Fault.TheVariants.{Wire, NotUtf8}
use Rattle.vs_proto.specs.declared.refusal.ProtoRefusal.TheVariants as protos
use Rattle.vs_proto.specs.declared.request.VStreamRequest.{VStreamRequest}
use Rattle.vs_request.specs.declared.refusal.RequestRefusal.{RequestRefusal}
use Rattle.vs_request.specs.declared.refusal.RequestRefusal.TheVariants.{Message, NoShards, TooManyShards, BadName, BadPosition, NeedsShard, TooManyKeys, LongKey, TooManyRules, Memory}
use Rattle.vs_request.specs.declared.request.Request.{Request}
use Rattle.vs_request.specs.declared.request.Flags.{Flags}
use Rattle.vs_base.specs.declared.rule_text.RuleText.{RuleText}
use Rattle.vs_request.specs.declared.request.Wanted.{Wanted}
use Rattle.vs_request.specs.Entries.{AskFor, IsFaultIn}
use Rattle.vs_request.specs.Requests.{HasFault, IsFirstFault, Means, Says, entries_in, flags_in, rule_text, rules_in}
use Rattle.vs_request.proofs.Forks.{fork, fork-holds, fork-no, fork-yes, less_or_not, not_less}
use Rattle.vs_request.proofs.ListLaws.{Answer, SaysEntries, asked, asked-holds, fault-asked, wanted-asked}

abbrev request_with : VStreamRequest → List Wanted → Request
request_with message wanted = record { entries = wanted; rules = map rule_text (rules_in message.filter); flags = flags_in message.flags }

abbrev count : VStreamRequest → ℕ
count message = length (rules_in message.filter)

abbrev pub ruled : VStreamRequest → Answer → Result Request RequestRefusal
ruled message (Err fault) = Err fault
ruled message (Ok wanted) = fork (less_or_not 256 (count message)) (Err (TooManyRules (count message))) (Ok (request_with message wanted))

-- what a message asks for, or its first fault
abbrev pub meant : VStreamRequest → Result Request RequestRefusal
meant message = ruled message (asked (entries_in message.vgtid))

request_with-is : (message : VStreamRequest) (r : Request) → Means message r → request_with message r.entries ≡ r
request_with-is message r h =
    let with : List RuleText → Flags → Request = λ rules flags. record { entries = r.entries; rules = rules; flags = flags } in
    ap (λ rules. with rules (flags_in message.flags)) (sym h.rules) ∙ ap (λ flags. with r.rules flags) (sym h.flags)

wanted-meant : (message : VStreamRequest) (wanted : List Wanted) → AskFor (entries_in message.vgtid) wanted → meant message ≡ ruled message (Ok wanted)
wanted-meant message wanted h = ap (λ r. ruled message r) (wanted-asked (entries_in message.vgtid) wanted h)

request-meant : (message : VStreamRequest) (r : Request) → Means message r → meant message ≡ Ok r
request-meant message r h =
    wanted-meant message r.entries h.entries
    ∙ fork-no (less_or_not 256 (count message)) (Err (TooManyRules (count message))) (Ok (request_with message r.entries)) (λ many. omega (arith, many, h.few_rules))
    ∙ ap (λ x. Ok x) (request_with-is message r h)

rules-meant : (message : VStreamRequest) (n : ℕ) (wanted : List Wanted) → AskFor (entries_in message.vgtid) wanted → count message ≡ n → 256 < n → meant message ≡ Err (TooManyRules n)
rules-meant message n wanted h e many =
    let over : 256 < count message = omega (arith, e, many) in
    wanted-meant message wanted h
    ∙ fork-yes (less_or_not 256 (count message)) (Err (TooManyRules (count message))) (Ok (request_with message wanted)) over
    ∙ ap (λ k. Err (TooManyRules k)) e

entry-meant : (message : VStreamRequest) (fault : RequestRefusal) → IsFaultIn (entries_in message.vgtid) fault → meant message ≡ Err fault
entry-meant message fault h = ap (λ r. ruled message r) (fault-asked (entries_in message.vgtid) fault h)

fault-meant : (message : VStreamRequest) (fault : RequestRefusal) → IsFirstFault message fault → meant message ≡ Err fault
fault-meant message (TooManyRules n) h = rules-meant message n h.0.0 h.0.1 h.1 h.2
fault-meant message (Message why) h = entry-meant message (Message why) h
fault-meant message NoShards h = entry-meant message NoShards h
fault-meant message (TooManyShards n) h = entry-meant message (TooManyShards n) h
fault-meant message (BadName index) h = entry-meant message (BadName index) h
fault-meant message (BadPosition index at) h = entry-meant message (BadPosition index at) h
fault-meant message (NeedsShard index) h = entry-meant message (NeedsShard index) h
fault-meant message (TooManyKeys index) h = entry-meant message (TooManyKeys index) h
fault-meant message (LongKey index) h = entry-meant message (LongKey index) h
fault-meant message Memory h = entry-meant message Memory h

abbrev SaysMessage : VStreamRequest → Result Request RequestRefusal → Type 0
SaysMessage message (Ok r) = Means message r
SaysMessage message (Err fault) = IsFirstFault message fault

-- a fault of the entries is the message's
of_entries : (message : VStreamRequest) (fault : RequestRefusal) → IsFaultIn (entries_in message.vgtid) fault → IsFirstFault message fault
of_entries message (TooManyRules n) h = absurd h
of_entries message (Message why) h = h
of_entries message NoShards h = h
of_entries message (TooManyShards n) h = h
of_entries message (BadName index) h = h
of_entries message (BadPosition index at) h = h
of_entries message (NeedsShard index) h = h
of_entries message (TooManyKeys index) h = h
of_entries message (LongKey index) h = h
of_entries message Memory h = h

ruled-holds : (message : VStreamRequest) (r : Answer) → SaysEntries (entries_in message.vgtid) r → SaysMessage message (ruled message r)
ruled-holds message (Err fault) h = of_entries message fault h
ruled-holds message (Ok wanted) h = fork-holds (SaysMessage message) (less_or_not 256 (count message)) (Err (TooManyRules (count message))) (Ok (request_with message wanted))
    (λ many. ((wanted, h), refl, many))
    (λ unlike. record { entries = h; few_rules = not_less 256 (count message) unlike; rules = refl; flags = refl })

meant-holds : (message : VStreamRequest) → SaysMessage message (meant message)
meant-holds message = ruled-holds message (asked (entries_in message.vgtid)) (asked-holds (entries_in message.vgtid))

-- ---- bytes

abbrev Reading : Type 0
Reading = Result VStreamRequest (ℕ × Fault)

abbrev pub refused_by : ℕ → Fault → RequestRefusal
refused_by at (Wire why) = Message (protos.BadMessage at why)
refused_by at NotUtf8 = Message (protos.NotUtf8 at)

abbrev pub answer_of : Reading → Result Request RequestRefusal
answer_of (Ok message) = meant message
answer_of (Err fault) = Err (refused_by fault.0 fault.1)

-- what the bytes say
abbrev pub answer : List ℕ → Result Request RequestRefusal
answer bytes = answer_of (read (tables.request true) bytes)

fault-answer : (bytes : List ℕ) (fault : RequestRefusal) → HasFault bytes fault → Err fault ≡ answer bytes
fault-answer bytes fault h = sym (ap (λ r. answer_of r) h.is_read ∙ fault-meant h.message fault h.is_first)

-- they say nothing else
pub only : (bytes : List ℕ) (r : Result Request RequestRefusal) → Says bytes r → r ≡ answer bytes
only bytes (Ok r) h = sym (ap (λ x. answer_of x) h.is_read ∙ request-meant h.message r h.means)
only bytes (Err (Message protos.Memory)) h = absurd h
only bytes (Err (Message (protos.BadMessage at why))) h = sym (ap (λ x. answer_of x) h)
only bytes (Err (Message (protos.NotUtf8 at))) h = sym (ap (λ x. answer_of x) h)
only bytes (Err NoShards) h = fault-answer bytes NoShards h
only bytes (Err (TooManyShards n)) h = fault-answer bytes (TooManyShards n) h
only bytes (Err (BadName index)) h = fault-answer bytes (BadName index) h
only bytes (Err (BadPosition index at)) h = fault-answer bytes (BadPosition index at) h
only bytes (Err (NeedsShard index)) h = fault-answer bytes (NeedsShard index) h
only bytes (Err (TooManyKeys index)) h = fault-answer bytes (TooManyKeys index) h
only bytes (Err (LongKey index)) h = fault-answer bytes (LongKey index) h
only bytes (Err (TooManyRules n)) h = fault-answer bytes (TooManyRules n) h
only bytes (Err Memory) h = fault-answer bytes Memory h

fault-said : (bytes : List ℕ) (fault : RequestRefusal) (message : VStreamRequest) → read (tables.request true) bytes ≡ Ok message → IsFirstFault message fault → Says bytes (Err fault)
fault-said bytes (Message why) message is h = absurd h
fault-said bytes NoShards message is h = record { message = message; is_read = is; is_first = h }
fault-said bytes (TooManyShards n) message is h = record { message = message; is_read = is; is_first = h }
fault-said bytes (BadName index) message is h = record { message = message; is_read = is; is_first = h }
fault-said bytes (BadPosition index at) message is h = record { message = message; is_read = is; is_first = h }
fault-said bytes (NeedsShard index) message is h = record { message = message; is_read = is; is_first = h }
fault-said bytes (TooManyKeys index) message is h = record { message = message; is_read = is; is_first = h }
fault-said bytes (LongKey index) message is h = record { message = message; is_read = is; is_first = h }
fault-said bytes (TooManyRules n) message is h = record { message = message; is_read = is; is_first = h }
fault-said bytes Memory message is h = record { message = message; is_read = is; is_first = h }

message-said : (bytes : List ℕ) (message : VStreamRequest) → read (tables.request true) bytes ≡ Ok message → (r : Result Request RequestRefusal) → SaysMessage message r → Says bytes r
message-said bytes message is (Ok r) h = record { message = message; is_read = is; means = h }
message-said bytes message is (Err fault) h = fault-said bytes fault message is h

refused-said : (bytes : List ℕ) (at : ℕ) (fault : Fault) → read (tables.request true) bytes ≡ Err (at, fault) → Says bytes (Err (refused_by at fault))
refused-said bytes at (Wire why) is = is
refused-said bytes at NotUtf8 is = is

reading-said : (bytes : List ℕ) (r : Reading) → read (tables.request true) bytes ≡ r → Says bytes (answer_of r)
reading-said bytes (Ok message) is = message-said bytes message is (meant message) (meant-holds message)
reading-said bytes (Err fault) is = refused-said bytes fault.0 fault.1 is

-- and they say that
pub holds : (bytes : List ℕ) → Says bytes (answer bytes)
holds bytes = reading-said bytes (read (tables.request true) bytes) refl

-- what is answered is what they say, unless memory is wanting
pub or_memory : (bytes : List ℕ) (r s : Result Request RequestRefusal) → (r ≡ Err Memory) ⊎ Says bytes r → Says bytes s → (r ≡ Err Memory) ⊎ (r ≡ s)
or_memory bytes r s h k = elim h [ inl memory ↦ inl memory | inr says ↦ inr (only bytes r says ∙ sym (only bytes s k)) ]

-- what a message means is what its bytes say
pub read_message : (bytes : List ℕ) (message : VStreamRequest) (r : Result Request RequestRefusal) → read (tables.request true) bytes ≡ Ok message →
    MatchResult r (Means message) (λ fault. (fault ≡ Memory) ⊎ IsFirstFault message fault) → (r ≡ Err Memory) ⊎ Says bytes r
read_message bytes message (Ok asked) is h = inr (message-said bytes message is (Ok asked) h)
read_message bytes message (Err fault) is h = elim h [ inl memory ↦ inl (ap (λ f. Err f) memory) | inr first ↦ inr (fault-said bytes fault message is first) ]
