-- Entries together have one meaning or one first fault.
use Rattle.std.proofs.Common.{◌≡◌, ◌+◌, ◌<◌, ◌≤◌, ◌∙◌, ℕ, List, [], ◌∷◌, ◌++◌, length, Result, Ok, Err, refl, sym, ap, subst, arith}
use Rattle.vs_proto.specs.declared.vgtid.ShardGtid.{ShardGtid}
use Rattle.vs_request.specs.declared.refusal.RequestRefusal.{RequestRefusal}
use Rattle.vs_request.specs.declared.refusal.RequestRefusal.TheVariants.{Message, NoShards, TooManyShards, BadName, BadPosition, NeedsShard, TooManyKeys, LongKey, TooManyRules, Memory}
use Rattle.vs_request.specs.declared.request.Wanted.{Wanted}
use Rattle.vs_request.specs.Entries.{AreWanted, AskFor, HasFirstFault, IsFaultIn, IsFaulty, IsLawfulCount, IsOfEntry}
use Rattle.vs_request.proofs.EntryLaws as entries
use Rattle.vs_request.proofs.EntryLaws.{judged, Judges}
use Rattle.vs_request.proofs.Forks.{fork, fork-holds, fork-no, fork-yes, less_or_not, not_less}

abbrev pub Answer : Type 0
Answer = Result (List Wanted) RequestRefusal

abbrev pub joined : Result Wanted RequestRefusal → Answer → Answer
joined (Err fault) r = Err fault
joined (Ok wanted) (Err fault) = Err fault
joined (Ok wanted) (Ok more) = Ok (wanted ∷ more)

-- what the entries from this index on ask for, or their first fault
abbrev pub all_judged : ℕ → List ShardGtid → Answer
all_judged i [] = Ok []
all_judged i (entry ∷ rest) = joined (judged i entry) (all_judged (i + 1) rest)

wanted-judged : (i : ℕ) (list : List ShardGtid) (wanted : List Wanted) → AreWanted list wanted → all_judged i list ≡ Ok wanted
wanted-judged i [] [] h = refl
wanted-judged i [] (w ∷ more) h = absurd h
wanted-judged i (entry ∷ rest) [] h = absurd h
wanted-judged i (entry ∷ rest) (w ∷ more) h =
    ap (λ r. joined r (all_judged (i + 1) rest)) (sym (entries.only i entry (Ok w) h.0)) ∙ ap (λ r. joined (Ok w) r) (wanted-judged (i + 1) rest more h.1)

fault-judged : (i k : ℕ) (before : List ShardGtid) (wanted : List Wanted) (entry : ShardGtid) (behind : List ShardGtid) (fault : RequestRefusal) → k ≡ i + length before →
    AreWanted before wanted → IsFaulty k entry fault → all_judged i (before ++ entry ∷ behind) ≡ Err fault
fault-judged i k [] [] entry behind fault at are h =
    let here : k ≡ i = omega (arith, at) in
    ap (λ r. joined r (all_judged (i + 1) behind)) (sym (entries.only i entry (Err fault) (subst (λ n. IsFaulty n entry fault) here h)))
fault-judged i k [] (w ∷ wanted) entry behind fault at are h = absurd are
fault-judged i k (first ∷ before) [] entry behind fault at are h = absurd are
fault-judged i k (first ∷ before) (w ∷ wanted) entry behind fault at are h =
    let next : k ≡ i + 1 + length before = omega (arith, at) in
    ap (λ r. joined r (all_judged (i + 1) (before ++ entry ∷ behind))) (sym (entries.only i first (Ok w) are.0))
    ∙ ap (λ r. joined (Ok w) r) (fault-judged (i + 1) k before wanted entry behind fault next are.1 h)

first-judged : (list : List ShardGtid) (fault : RequestRefusal) → HasFirstFault list fault → all_judged 0 list ≡ Err fault
first-judged list fault h =
    ap (λ l. all_judged 0 l) h.are ∙ fault-judged 0 (length h.before) h.before h.wanted h.entry h.behind fault (omega arith) h.none_before h.is_faulty

-- an entry from this index on has the first fault
record HasFaultFrom (i : ℕ) (list : List ShardGtid) (fault : RequestRefusal) : Type 0 where
  before : List ShardGtid
  entry : ShardGtid
  behind : List ShardGtid
  are : list ≡ before ++ entry ∷ behind
  wanted : List Wanted
  none_before : AreWanted before wanted
  is_faulty : IsFaulty (i + length before) entry fault

abbrev AllJudge : ℕ → List ShardGtid → Answer → Type 0
AllJudge i list (Ok wanted) = AreWanted list wanted
AllJudge i list (Err fault) = HasFaultFrom i list fault

joined-holds : (i : ℕ) (entry : ShardGtid) (rest : List ShardGtid) (r : Result Wanted RequestRefusal) (s : Answer) → Judges i entry r → AllJudge (i + 1) rest s → AllJudge i (entry ∷ rest) (joined r s)
joined-holds i entry rest (Err fault) s h k =
    let same : i ≡ i + 0 = omega arith in
    record { before = []; entry = entry; behind = rest; are = refl; wanted = []; none_before = tt; is_faulty = subst (λ n. IsFaulty n entry fault) same h }
joined-holds i entry rest (Ok w) (Err fault) h k =
    let same : i + 1 + length k.before ≡ i + length (entry ∷ k.before) = omega arith in
    record {
      before = entry ∷ k.before;
      entry = k.entry;
      behind = k.behind;
      are = ap (λ l. entry ∷ l) k.are;
      wanted = w ∷ k.wanted;
      none_before = (h, k.none_before);
      is_faulty = subst (λ n. IsFaulty n k.entry fault) same k.is_faulty;
    }
joined-holds i entry rest (Ok w) (Ok more) h k = (h, k)

all-holds : (i : ℕ) (list : List ShardGtid) → AllJudge i list (all_judged i list)
all-holds i [] = tt
all-holds i (entry ∷ rest) = joined-holds i entry rest (judged i entry) (all_judged (i + 1) rest) (entries.holds i entry) (all-holds (i + 1) rest)

-- ---- with their number

-- what the entries ask for, or their first fault
abbrev pub asked : List ShardGtid → Answer
asked [] = Err NoShards
asked (entry ∷ rest) = fork (less_or_not 64 (length (entry ∷ rest))) (Err (TooManyShards (length (entry ∷ rest)))) (all_judged 0 (entry ∷ rest))

lawful-asked : (list : List ShardGtid) → IsLawfulCount (length list) → asked list ≡ all_judged 0 list
lawful-asked [] count = absurd (let h : 1 ≤ 0 = count.0 in omega (arith, h))
lawful-asked (entry ∷ rest) count =
    fork-no (less_or_not 64 (length (entry ∷ rest))) (Err (TooManyShards (length (entry ∷ rest)))) (all_judged 0 (entry ∷ rest)) (λ many. omega (arith, count.1, many))

pub wanted-asked : (list : List ShardGtid) (wanted : List Wanted) → AskFor list wanted → asked list ≡ Ok wanted
wanted-asked list wanted h = lawful-asked list h.count ∙ wanted-judged 0 list wanted h.are_wanted

of_entry-asked : (list : List ShardGtid) (fault : RequestRefusal) → IsOfEntry list fault → asked list ≡ Err fault
of_entry-asked list fault h = lawful-asked list h.0 ∙ first-judged list fault h.1

many-asked : (list : List ShardGtid) (n : ℕ) → length list ≡ n → 64 < n → asked list ≡ Err (TooManyShards n)
many-asked [] n e many = absurd (let h : 0 ≡ n = e in omega (arith, h, many))
many-asked (entry ∷ rest) n e many =
    let over : 64 < length (entry ∷ rest) = omega (arith, e, many) in
    fork-yes (less_or_not 64 (length (entry ∷ rest))) (Err (TooManyShards (length (entry ∷ rest)))) (all_judged 0 (entry ∷ rest)) over
    ∙ ap (λ k. Err (TooManyShards k)) e

pub fault-asked : (list : List ShardGtid) (fault : RequestRefusal) → IsFaultIn list fault → asked list ≡ Err fault
fault-asked list NoShards h = ap (λ l. asked l) h
fault-asked list (TooManyShards n) h = many-asked list n h.0 h.1
fault-asked list (BadName index) h = of_entry-asked list (BadName index) h
fault-asked list (BadPosition index at) h = of_entry-asked list (BadPosition index at) h
fault-asked list (NeedsShard index) h = of_entry-asked list (NeedsShard index) h
fault-asked list (TooManyKeys index) h = of_entry-asked list (TooManyKeys index) h
fault-asked list (LongKey index) h = of_entry-asked list (LongKey index) h
fault-asked list (Message why) h = absurd h
fault-asked list (TooManyRules n) h = absurd h
fault-asked list Memory h = absurd h

abbrev pub SaysEntries : List ShardGtid → Answer → Type 0
SaysEntries list (Ok wanted) = AskFor list wanted
SaysEntries list (Err fault) = IsFaultIn list fault

of_entry-in : (list : List ShardGtid) (fault : RequestRefusal) → IsOfEntry list fault → IsFaultIn list fault
of_entry-in list NoShards h = absurd h.1.is_faulty
of_entry-in list (TooManyShards n) h = absurd h.1.is_faulty
of_entry-in list (BadName index) h = h
of_entry-in list (BadPosition index at) h = h
of_entry-in list (NeedsShard index) h = h
of_entry-in list (TooManyKeys index) h = h
of_entry-in list (LongKey index) h = h
of_entry-in list (Message why) h = absurd h.1.is_faulty
of_entry-in list (TooManyRules n) h = absurd h.1.is_faulty
of_entry-in list Memory h = absurd h.1.is_faulty

from_first : (list : List ShardGtid) (fault : RequestRefusal) → HasFaultFrom 0 list fault → HasFirstFault list fault
from_first list fault h =
    let same : 0 + length h.before ≡ length h.before = omega arith in
    record {
      before = h.before;
      entry = h.entry;
      behind = h.behind;
      are = h.are;
      wanted = h.wanted;
      none_before = h.none_before;
      is_faulty = subst (λ n. IsFaulty n h.entry fault) same h.is_faulty;
    }

few-hold : (list : List ShardGtid) → IsLawfulCount (length list) → (r : Answer) → AllJudge 0 list r → SaysEntries list r
few-hold list count (Ok wanted) h = record { count = count; are_wanted = h }
few-hold list count (Err fault) h = of_entry-in list fault (count, from_first list fault h)

pub asked-holds : (list : List ShardGtid) → SaysEntries list (asked list)
asked-holds [] = refl
asked-holds (entry ∷ rest) = fork-holds (SaysEntries (entry ∷ rest)) (less_or_not 64 (length (entry ∷ rest)))
    (Err (TooManyShards (length (entry ∷ rest)))) (all_judged 0 (entry ∷ rest))
    (λ many. (refl, many))
    (λ unlike. few-hold (entry ∷ rest) (omega arith, not_less 64 (length (entry ∷ rest)) unlike) (all_judged 0 (entry ∷ rest)) (all-holds 0 (entry ∷ rest)))
