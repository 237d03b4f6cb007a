-- What is taken of an input, and what a frame at its front is.
use Rattle.std.proofs.Common.{◌≡◌, ◌≢◌, ◌==◌, ℕ, suc, Bool, true, false, ◌&&◌, not, nat_eq, eqb-true, leb-true, ◌≤◌, ◌<◌, ◌+◌, List, [], ◌∷◌, ◌++◌, length, Option, Some, None, Result, Ok, Err, refl, sym, ap, subst, ◌∙◌, append_assoc, append-nil, length-append, take, arith}
use Rattle.std.proofs.lemmas.List.{length-take}
use Rattle.std.specs.Prelude.{IfSome, IsTrue, ◌⊎◌, ◌||◌, nat_le}
use Rattle.std.specs.List.{AllByRecursion, list_all}
use Rattle.std.specs.Int.{w32, to_be_bytes}
use Rattle.vs_base.specs.Frames.{framed}
use Rattle.vs_frame.specs.Frames.{BeginsWithFrame, IsPart, IsWithinLimit}
use Rattle.vs_outside.specs.Told.{Takes}
use Rattle.vs_base.specs.Names.{FitsName}
use Rattle.vs_outside.specs.Names.{has_name_length, is_dots, is_keyspace_text, is_name_byte, is_shard_byte, is_shard_text}
use Rattle.vs_proto.specs.declared.vgtid.ShardGtid.{ShardGtid}
use Rattle.vs_request.specs.Entries.{AreWanted, is_named}
use Rattle.vs_request.specs.Requests.{Says}
use Rattle.vs_request.specs.declared.refusal.RequestRefusal.{RequestRefusal}
use Rattle.vs_request.specs.declared.refusal.RequestRefusal.TheVariants as refusals
use Rattle.vs_command.specs.declared.request.RequestEnd.TheVariants as ends
use Rattle.vs_command.specs.declared.status.RequestFault.{RequestFault}
use Rattle.vs_command.specs.declared.status.RequestFault.TheVariants.{Cut, TooLong, Message, NoShards, TooManyShards, BadName, BadPosition, NeedsShard, TooManyKeys, LongKey, TooManyRules, NotBuilt, BadPattern, PatternRefused, BadRule, Unbound}
use Rattle.vs_request.specs.declared.request.Flags.{Flags}
use Rattle.vs_request.specs.declared.request.Request.{Request}
use Rattle.vs_request.specs.declared.request.Wanted.{Wanted}
use Rattle.vs_base.specs.declared.ShardName.{ShardName}
use Rattle.vs_base.specs.declared.rule_text.RuleText.{RuleText}
use Rattle.vs_command.specs.declared.start.Start.{Start}
use Rattle.vs_command.specs.Requests.{AsksBy, HasEnded, HasTaken, IsFaultOf, IsFaultOfMessage, IsRequestFrame, IsNotBuilt, IsPlain, IsUnbuilt, IsWithinFrame, SaysLength, TakesOf, end_of, entry_of, has_no_flags, no_flags, rules_or_any}

-- nothing taken
pub TakesOf-none : (P : List ℕ → List ℕ → Type 0) (told : Option (List ℕ)) → ((rest : List ℕ) → told ≡ Some rest → P [] rest) → TakesOf told told P
TakesOf-none P None p = tt
TakesOf-none P (Some before) p = ([], before, refl, refl, p before refl)

-- what P says, Q says
pub TakesOf-weaken : (P Q : List ℕ → List ℕ → Type 0) (before now : Option (List ℕ)) → ((taken rest : List ℕ) → P taken rest → Q taken rest) → TakesOf before now P → TakesOf before now Q
TakesOf-weaken P Q None now f t = tt
TakesOf-weaken P Q (Some before) now f (taken, rest, is, left, p) = (taken, rest, is, left, f taken rest p)

-- one read after another takes what both take
pub TakesOf-then : (P Q R : List ℕ → List ℕ → Type 0) (before between now : Option (List ℕ)) →
    ((a b rest : List ℕ) → P a (b ++ rest) → Q b rest → R (a ++ b) rest) → TakesOf before between P → TakesOf between now Q → TakesOf before now R
TakesOf-then P Q R None between now f first second = tt
TakesOf-then P Q R (Some before) between now f (a, middle, is, left, p) second =
    let next : TakesOf (Some middle) now Q = subst (λ o. TakesOf o now Q) left second in
    (a ++ next.0, next.1, is ∙ ap (λ l. a ++ l) next.2 ∙ sym (append_assoc a next.0 next.1), next.3, f a next.0 next.1 (subst (λ l. P a l) next.2 p) next.4)

-- a read of a source
pub TakesOf-read : (P : List ℕ → Type 0) (before now : Option (List ℕ)) → Takes before now P → TakesOf before now (λ taken rest. P taken)
TakesOf-read P None now t = tt
TakesOf-read P (Some before) now (taken, rest, is, left, p) = (taken, rest, is, left, p)

-- what is said of both, is said of all that was left
pub TakesOf-all : (P : List ℕ → List ℕ → Type 0) (Q : List ℕ → Type 0) (before now : Option (List ℕ)) → ((taken rest : List ℕ) → P taken rest → Q (taken ++ rest)) →
    TakesOf before now P → IfSome before Q
TakesOf-all P Q None now f t = tt
TakesOf-all P Q (Some before) now f (taken, rest, is, left, p) = subst Q (sym is) (f taken rest p)

no_more : (rest : List ℕ) (n : ℕ) → length rest + 4 ≡ n → n ≤ 4 → rest ≡ []
no_more [] n sum most = refl
no_more (x ∷ rest) n sum most = absurd (omega (arith, sum, most))

-- what was taken with a read more is no more than so many bytes
pub within_read : (before between now : Option (List ℕ)) (bytes buf : List ℕ) (n count : ℕ) → length bytes + n ≤ count →
    TakesOf before between (λ taken rest. taken ≡ bytes) → Takes between now (λ more. more ≡ take n buf) → Takes before now (λ taken. length taken ≤ count)
within_read None between now bytes buf n count few first second = tt
within_read (Some before) between now bytes buf n count few (taken, rest, is, left, same) second =
    let next : Takes (Some rest) now (λ more. more ≡ take n buf) = subst (λ o. Takes o now (λ more. more ≡ take n buf)) left second in (
      taken ++ next.0,
      next.1,
      is ∙ ap (λ l. taken ++ l) next.2 ∙ sym (append_assoc taken next.0 next.1),
      next.3,
      omega (arith, few, length-append taken next.0, ap (λ l. length l) same, ap (λ l. length l) next.4, length-take n buf),
    )

-- the four bytes of a length, and nothing behind them
only_length : (h rest : List ℕ) (n : ℕ) → h ≡ to_be_bytes w32 n ++ rest → length rest + 4 ≡ length h → length h ≤ 4 → h ≡ to_be_bytes w32 n
only_length h rest n is sum most = is ∙ ap (λ l. to_be_bytes w32 n ++ l) (no_more rest (length h) sum most) ∙ append-nil (to_be_bytes w32 n)

-- what was taken where only so many bytes were asked for
abbrev pub TookUpTo : ℕ → List ℕ → List ℕ → List ℕ → Type 0
TookUpTo count bytes taken rest = (taken ≡ bytes) × (length taken < count → rest ≡ [])

-- the input ends within the length
pub cut_length : (before now : Option (List ℕ)) (h : List ℕ) (held : ℕ) → held ≡ length h → length h < 4 → TakesOf before now (TookUpTo 4 h) → TakesOf before now (HasEnded (Cut held))
cut_length before now h held is short took =
    TakesOf-weaken (TookUpTo 4 h) (HasEnded (Cut held)) before now
    (λ taken rest t. (◌⊎◌.inl (subst (λ l. length l < 4) (sym t.0) short), is ∙ ap (λ l. length l) (sym t.0), t.1 (subst (λ l. length l < 4) (sym t.0) short))) took

-- the length is over the limit
pub long_length : (before now : Option (List ℕ)) (h : List ℕ) (n : ℕ) → SaysLength h n → length h ≤ 4 → 16777216 < n →
    TakesOf before now (TookUpTo 4 h) → TakesOf before now (HasEnded (TooLong n))
long_length before now h n (small, rest, is, sum) most over took =
    TakesOf-weaken (TookUpTo 4 h) (HasEnded (TooLong n)) before now
    (λ taken left t. ((over, small, (rest, t.0 ∙ is)), ap (λ l. length l) t.0 ∙ ap (λ l. length l) (only_length h rest n is sum most))) took

-- the input ends within the message
pub cut_message : (before between now : Option (List ℕ)) (h m : List ℕ) (n held : ℕ) → SaysLength h n → length h ≤ 4 → n ≤ 16777216 →
    length m < n → held ≡ 4 + length m → TakesOf before between (TookUpTo 4 h) → TakesOf between now (TookUpTo n m) → TakesOf before now (HasEnded (Cut held))
cut_message before between now h m n held (small, rest, is, sum) most within short are first second =
    TakesOf-then (TookUpTo 4 h) (TookUpTo n m) (HasEnded (Cut held)) before between now
    (λ a b left s t.
    let front : a ≡ to_be_bytes w32 n = s.0 ∙ only_length h rest n is sum most in
    let fewer : length b < n = subst (λ l. length l < n) (sym t.0) short in (
      ◌⊎◌.inr (n, b, ap (λ l. l ++ b) front, within, fewer),
      omega (arith, are, length-append a b, ap (λ l. length l) front, ap (λ l. length l) t.0),
      t.1 fewer,
    )) first second

-- the length of a frame, and no more bytes behind it than it says
pub message_within : (before between now : Option (List ℕ)) (h : List ℕ) (n : ℕ) → SaysLength h n → length h ≤ 4 → n ≤ 16777216 →
    TakesOf before between (TookUpTo 4 h) → Takes between now (λ taken. length taken ≤ n) → Takes before now IsWithinFrame
message_within None between now h n says most within first second = tt
message_within (Some before) between now h n (small, rest, is, sum) most within (a, middle, are, left, took) second =
    let next : Takes (Some middle) now (λ taken. length taken ≤ n) = subst (λ o. Takes o now (λ taken. length taken ≤ n)) left second in (
      a ++ next.0,
      next.1,
      are ∙ ap (λ l. a ++ l) next.2 ∙ sym (append_assoc a next.0 next.1),
      next.3,
      ◌⊎◌.inr (n, next.0, ap (λ l. l ++ next.0) (took.0 ∙ only_length h rest n is sum most), within, next.4),
    )

-- the frame is whole
pub whole_frame : (before between now : Option (List ℕ)) (h m : List ℕ) (n : ℕ) → SaysLength h n → length h ≤ 4 → n ≤ 16777216 →
    length m ≡ n → TakesOf before between (TookUpTo 4 h) → TakesOf between now (TookUpTo n m) → TakesOf before now (λ taken left. (taken ≡ framed m) × IsWithinLimit m)
whole_frame before between now h m n (small, rest, is, sum) most within same first second =
    TakesOf-then (TookUpTo 4 h) (TookUpTo n m) (λ taken left. (taken ≡ framed m) × IsWithinLimit m) before between now
    (λ a b left s t. (
      ap (λ l. l ++ b) (s.0 ∙ only_length h rest n is sum most) ∙ ap (λ l. to_be_bytes w32 n ++ l) t.0 ∙ ap (λ k. to_be_bytes w32 k ++ m) (sym same),
      omega (arith, within, same),
    )) first second

-- ---- what a request asks for

pub last_one : {A : Type 0} (old new : List A) (x : A) → old ≡ new ++ x ∷ [] → length old ≤ 1 → old ≡ x ∷ []
last_one old [] x is few = is
last_one old (y ∷ new) x is few = absurd (omega (arith, few, ap (λ l. length l) is, length-append new (x ∷ [])))

one_of : {A : Type 0} (xs : List A) → 1 ≤ length xs → length xs ≤ 1 → (x : A) × (xs ≡ x ∷ [])
one_of [] some few = absurd (omega (arith, some))
one_of (x ∷ []) some few = (x, refl)
one_of (x ∷ y ∷ xs) some few = absurd (omega (arith, few))

pub none_of : {A : Type 0} (xs : List A) → true ≡ (length xs == 0) → xs ≡ []
none_of [] h = refl
none_of (x ∷ xs) h = absurd (omega (arith, eqb-true (length (x ∷ xs)) 0 (sym h)))

-- where there are rules, they are those
pub rules_or-some : (rules : List RuleText) → false ≡ (length rules == 0) → rules ≡ rules_or_any rules
rules_or-some [] h = absurd (cc)
rules_or-some (rule ∷ rules) h = refl

-- flags aren't built
pub not_built_flags : (request : Request) → 1 ≤ length request.entries → length request.entries ≤ 1 → false ≡ has_no_flags request.flags → IsNotBuilt request 0
not_built_flags request some few flags =
    let one = one_of request.entries some few in
    ◌⊎◌.inr (refl, one.0, one.1, ◌⊎◌.inr (λ none. let it : false ≡ true = flags ∙ ap has_no_flags none in cc))

-- nor is what the entry asks for
pub not_built_entry : (request : Request) (wanted : Wanted) → request.entries ≡ wanted ∷ [] → IsUnbuilt wanted → IsNotBuilt request 0
not_built_entry request wanted is unbuilt = ◌⊎◌.inr (refl, wanted, is, ◌⊎◌.inl unbuilt)

both_true : (a b : Bool) → true ≡ (a && b) → (true ≡ a) × (true ≡ b)
both_true true b h = (refl, h)
both_true false b h = absurd (cc)

not_true : (a : Bool) → true ≡ not a → a ≡ false
not_true true h = absurd (cc)
not_true false h = refl

no_flags_are : (flags : Flags) → true ≡ has_no_flags flags → flags ≡ no_flags
no_flags_are flags h =
    let skew = both_true (nat_eq flags.max_skew 0) (nat_eq flags.heartbeat_interval 0 && (not flags.stop_on_reshard && not flags.include_journals)) h in
    let beat = both_true (nat_eq flags.heartbeat_interval 0) (not flags.stop_on_reshard && not flags.include_journals) skew.1 in
    let journals = both_true (not flags.stop_on_reshard) (not flags.include_journals) beat.1 in
    are flags.max_skew flags.heartbeat_interval flags.stop_on_reshard flags.include_journals (eqb-true flags.max_skew 0 (sym skew.0)) (eqb-true flags.heartbeat_interval 0 (sym beat.0))
    (not_true flags.stop_on_reshard journals.0) (not_true flags.include_journals journals.1)
  where
    are : (a b : ℕ) (c d : Bool) → a ≡ 0 → b ≡ 0 → c ≡ false → d ≡ false →
        ◌≡◌ {A = Flags} (record { max_skew = a; heartbeat_interval = b; stop_on_reshard = c; include_journals = d }) no_flags
    are a b c d p q r t = cc

-- the request asks for one shard and nothing else
pub is_plain : (request : Request) (wanted : Wanted) (name : ShardName) (start : Start) (rules : List RuleText) → request.entries ≡ wanted ∷ [] →
    (wanted ≡ entry_of name start) × (name.shard ≢ []) × (rules ≡ request.rules) → true ≡ has_no_flags request.flags → IsPlain request name start (rules_or_any rules)
is_plain request wanted name start rules one asked flags = record {
  entries = one ∙ ap (λ w. w ∷ []) asked.0;
  shard = asked.1;
  rules_are = ap rules_or_any asked.2;
  flags = no_flags_are request.flags flags;
}

-- with the rule of a request without rules
pub plain_whole : (request : Request) (name other : ShardName) (start from : Start) (rules whole : List RuleText) → IsPlain request name start (rules_or_any rules) →
    (other ≡ name) × (from ≡ start) × (whole ≡ rules_or_any rules) → IsPlain request other from whole
plain_whole request name other start from rules whole plain same =
    subst (λ n. IsPlain request n from whole) (sym same.0) (subst (λ s. IsPlain request name s whole) (sym same.1) (subst (λ r. IsPlain request name start r) (sym same.2) plain))

-- ---- what a message says

pub said_so : {A E : Type 0} {r e : Result A E} {P : Type 0} → (r ≡ e → ⊥) → (r ≡ e) ⊎ P → P
said_so not (◌⊎◌.inl same) = absurd (not same)
said_so not (◌⊎◌.inr p) = p

short_names : (keyspace shard : List ℕ) → IsTrue (is_named keyspace shard) → FitsName keyspace shard
short_names keyspace shard named =
    let parts = and_parts (is_keyspace_text keyspace) (length shard == 0 || is_shard_text shard) named in (
      short keyspace (list_all is_name_byte keyspace) parts.0,
      either (length shard == 0) (is_shard_text shard) parts.1 (λ h. omega (arith, eqb-true (length shard) 0 h))
          (λ h. short shard (list_all is_shard_byte shard) (and_parts (not (is_dots shard)) (has_name_length shard && list_all is_shard_byte shard) h).1),
    )
  where
    and_parts : (a b : Bool) → IsTrue (a && b) → IsTrue a × IsTrue b
    and_parts true true h = (refl, refl)
    and_parts true false h = absurd (cc)
    and_parts false b h = absurd (cc)

    either : {P : Type 0} (a b : Bool) → IsTrue (a || b) → (a ≡ true → P) → (IsTrue b → P) → P
    either true b h f g = f refl
    either false b h f g = g h

    short : (text : List ℕ) (all : Bool) → IsTrue (has_name_length text && all) → length text ≤ 64
    short text all h = leb-true (length text) 64 (and_parts (nat_le 1 (length text)) (nat_le (length text) 64) (and_parts (has_name_length text) all h).0).1

all_named : (entries : List ShardGtid) (wanted : List Wanted) → AreWanted entries wanted → AllByRecursion (λ (w : Wanted). FitsName w.keyspace w.shard) wanted
all_named [] [] are = tt
all_named [] (w ∷ wanted) are = absurd are
all_named (e ∷ entries) [] are = absurd are
all_named (e ∷ entries) (w ∷ wanted) are =
    let one = are.0 in
    (subst (λ k. FitsName k w.shard) (sym one.keyspace) (subst (λ t. FitsName e.keyspace t) (sym one.shard) (short_names e.keyspace e.shard one.starts.lawful.starts.named)), all_named entries wanted are.1)

same_length : (entries : List ShardGtid) (wanted : List Wanted) → AreWanted entries wanted → length entries ≡ length wanted
same_length [] [] are = refl
same_length [] (w ∷ wanted) are = absurd are
same_length (e ∷ entries) [] are = absurd are
same_length (e ∷ entries) (w ∷ wanted) are = ap suc (same_length entries wanted are.1)

pub names_fit : (message : List ℕ) (request : Request) → Says message (Ok request) → AllByRecursion (λ (w : Wanted). FitsName w.keyspace w.shard) request.entries
names_fit message request says = all_named _ request.entries says.means.entries.are_wanted

pub some_entries : (message : List ℕ) (request : Request) → Says message (Ok request) → 1 ≤ length request.entries
some_entries message request says = omega (arith, says.means.entries.count.0, same_length _ request.entries says.means.entries.are_wanted)

pub refused_message : (message : List ℕ) (refusal : RequestRefusal) (fault : RequestFault) → Says message (Err refusal) → end_of refusal ≡ ends.Fault fault → IsFaultOfMessage message fault
refused_message message refusals.Memory fault says is = absurd (cc)
refused_message message (refusals.Message why) fault says is = let same : (Message why) ≡ fault = cc in subst (λ f. IsFaultOfMessage message f) same says
refused_message message refusals.NoShards fault says is = let same : NoShards ≡ fault = cc in subst (λ f. IsFaultOfMessage message f) same says
refused_message message (refusals.TooManyShards n) fault says is = let same : (TooManyShards n) ≡ fault = cc in subst (λ f. IsFaultOfMessage message f) same says
refused_message message (refusals.BadName index) fault says is = let same : (BadName index) ≡ fault = cc in subst (λ f. IsFaultOfMessage message f) same says
refused_message message (refusals.BadPosition index at) fault says is = let same : (BadPosition index at) ≡ fault = cc in subst (λ f. IsFaultOfMessage message f) same says
refused_message message (refusals.NeedsShard index) fault says is = let same : (NeedsShard index) ≡ fault = cc in subst (λ f. IsFaultOfMessage message f) same says
refused_message message (refusals.TooManyKeys index) fault says is = let same : (TooManyKeys index) ≡ fault = cc in subst (λ f. IsFaultOfMessage message f) same says
refused_message message (refusals.LongKey index) fault says is = let same : (LongKey index) ≡ fault = cc in subst (λ f. IsFaultOfMessage message f) same says
refused_message message (refusals.TooManyRules n) fault says is = let same : (TooManyRules n) ≡ fault = cc in subst (λ f. IsFaultOfMessage message f) same says

-- ---- what an input begins with

pub asks_of : (before now : Option (List ℕ)) (m : List ℕ) (name : ShardName) (start : Start) (rules : List RuleText) →
    TakesOf before now (λ taken left. (taken ≡ framed m) × IsWithinLimit m) → (request : Request) × Says m (Ok request) × IsPlain request name start rules → IfSome before (λ input. AsksBy input name start rules)
asks_of before now m name start rules took says =
    TakesOf-all (λ taken left. (taken ≡ framed m) × IsWithinLimit m) (λ input. AsksBy input name start rules) before now
    (λ taken rest t. (says.0, (m, rest, (ap (λ l. l ++ rest) t.0, t.1), says.1), says.2)) took

pub took_frame : (before now : Option (List ℕ)) (m : List ℕ) → TakesOf before now (λ taken left. (taken ≡ framed m) × IsWithinLimit m) → TakesOf before now (λ taken rest. IsRequestFrame taken)
took_frame before now m took = TakesOf-weaken (λ taken left. (taken ≡ framed m) × IsWithinLimit m) (λ taken rest. IsRequestFrame taken) before now (λ taken rest t. (m, t.0, t.1)) took

begins_with : (input : List ℕ) (fault : RequestFault) (m rest : List ℕ) → BeginsWithFrame input m rest → IsFaultOfMessage m fault → IsFaultOf input fault
begins_with input (Cut held) m rest begins is = absurd is
begins_with input (TooLong n) m rest begins is = absurd is
begins_with input (Message why) m rest begins is = (m, rest, begins, is)
begins_with input NoShards m rest begins is = (m, rest, begins, is)
begins_with input (TooManyShards n) m rest begins is = (m, rest, begins, is)
begins_with input (BadName index) m rest begins is = (m, rest, begins, is)
begins_with input (BadPosition index at) m rest begins is = (m, rest, begins, is)
begins_with input (NeedsShard index) m rest begins is = (m, rest, begins, is)
begins_with input (TooManyKeys index) m rest begins is = (m, rest, begins, is)
begins_with input (LongKey index) m rest begins is = (m, rest, begins, is)
begins_with input (TooManyRules n) m rest begins is = (m, rest, begins, is)
begins_with input (NotBuilt index) m rest begins is = (m, rest, begins, is)
begins_with input (BadPattern index) m rest begins is = (m, rest, begins, is)
begins_with input (PatternRefused index) m rest begins is = (m, rest, begins, is)
begins_with input (BadRule index at) m rest begins is = (m, rest, begins, is)
begins_with input (Unbound index why) m rest begins is = (m, rest, begins, is)

taken_of : (fault : RequestFault) (m taken rest : List ℕ) → IsFaultOfMessage m fault → IsRequestFrame taken → HasTaken fault taken rest
taken_of (Cut held) m taken rest is frame = absurd is
taken_of (TooLong n) m taken rest is frame = absurd is
taken_of (Message why) m taken rest is frame = frame
taken_of NoShards m taken rest is frame = frame
taken_of (TooManyShards n) m taken rest is frame = frame
taken_of (BadName index) m taken rest is frame = frame
taken_of (BadPosition index at) m taken rest is frame = frame
taken_of (NeedsShard index) m taken rest is frame = frame
taken_of (TooManyKeys index) m taken rest is frame = frame
taken_of (LongKey index) m taken rest is frame = frame
taken_of (TooManyRules n) m taken rest is frame = frame
taken_of (NotBuilt index) m taken rest is frame = frame
taken_of (BadPattern index) m taken rest is frame = frame
taken_of (PatternRefused index) m taken rest is frame = frame
taken_of (BadRule index at) m taken rest is frame = frame
taken_of (Unbound index why) m taken rest is frame = frame

pub fault_of_message : (before now : Option (List ℕ)) (m : List ℕ) (fault : RequestFault) → TakesOf before now (λ taken left. (taken ≡ framed m) × IsWithinLimit m) → IsFaultOfMessage m fault →
    IfSome before (λ input. IsFaultOf input fault)
fault_of_message before now m fault took is =
    TakesOf-all (λ taken left. (taken ≡ framed m) × IsWithinLimit m) (λ input. IsFaultOf input fault) before now
    (λ taken rest t. begins_with (taken ++ rest) fault m rest (ap (λ l. l ++ rest) t.0, t.1) is) took

pub took_faulty : (before now : Option (List ℕ)) (m : List ℕ) (fault : RequestFault) → TakesOf before now (λ taken left. (taken ≡ framed m) × IsWithinLimit m) → IsFaultOfMessage m fault →
    TakesOf before now (HasTaken fault)
took_faulty before now m fault took is =
    TakesOf-weaken (λ taken left. (taken ≡ framed m) × IsWithinLimit m) (HasTaken fault) before now (λ taken rest t. taken_of fault m taken rest is (m, t.0, t.1)) took

ended_so : (fault : RequestFault) (taken rest : List ℕ) → HasEnded fault taken rest → IsFaultOf (taken ++ rest) fault
ended_so (Cut held) taken rest (part, is, none) =
    let all : taken ++ rest ≡ taken = ap (λ l. taken ++ l) none ∙ append-nil taken in
    (subst IsPart (sym all) part, is ∙ ap (λ l. length l) (sym all))
ended_so (TooLong n) taken rest ((over, small, (more, are)), four) = (over, small, (more ++ rest, ap (λ l. l ++ rest) are ∙ append_assoc (to_be_bytes w32 n) more rest))
ended_so (Message why) taken rest ended = absurd ended
ended_so NoShards taken rest ended = absurd ended
ended_so (TooManyShards n) taken rest ended = absurd ended
ended_so (BadName index) taken rest ended = absurd ended
ended_so (BadPosition index at) taken rest ended = absurd ended
ended_so (NeedsShard index) taken rest ended = absurd ended
ended_so (TooManyKeys index) taken rest ended = absurd ended
ended_so (LongKey index) taken rest ended = absurd ended
ended_so (TooManyRules n) taken rest ended = absurd ended
ended_so (NotBuilt index) taken rest ended = absurd ended
ended_so (BadPattern index) taken rest ended = absurd ended
ended_so (PatternRefused index) taken rest ended = absurd ended
ended_so (BadRule index at) taken rest ended = absurd ended
ended_so (Unbound index why) taken rest ended = absurd ended

has_taken : (fault : RequestFault) (taken rest : List ℕ) → HasEnded fault taken rest → HasTaken fault taken rest
has_taken (Cut held) taken rest ended = ended.2
has_taken (TooLong n) taken rest ended = ended.1
has_taken (Message why) taken rest ended = absurd ended
has_taken NoShards taken rest ended = absurd ended
has_taken (TooManyShards n) taken rest ended = absurd ended
has_taken (BadName index) taken rest ended = absurd ended
has_taken (BadPosition index at) taken rest ended = absurd ended
has_taken (NeedsShard index) taken rest ended = absurd ended
has_taken (TooManyKeys index) taken rest ended = absurd ended
has_taken (LongKey index) taken rest ended = absurd ended
has_taken (TooManyRules n) taken rest ended = absurd ended
has_taken (NotBuilt index) taken rest ended = absurd ended
has_taken (BadPattern index) taken rest ended = absurd ended
has_taken (PatternRefused index) taken rest ended = absurd ended
has_taken (BadRule index at) taken rest ended = absurd ended
has_taken (Unbound index why) taken rest ended = absurd ended

-- no frame is there
pub fault_of_frame : (before now : Option (List ℕ)) (fault : RequestFault) → TakesOf before now (HasEnded fault) → IfSome before (λ input. IsFaultOf input fault)
fault_of_frame before now fault took = TakesOf-all (HasEnded fault) (λ input. IsFaultOf input fault) before now (λ taken rest t. ended_so fault taken rest t) took

pub took_less : (before now : Option (List ℕ)) (fault : RequestFault) → TakesOf before now (HasEnded fault) → TakesOf before now (HasTaken fault)
took_less before now fault took = TakesOf-weaken (HasEnded fault) (HasTaken fault) before now (λ taken rest t. has_taken fault taken rest t) took
