-- A request that was read is lawful.
use Rattle.std.proofs.Common.{◌≡◌, ◌≤◌, ◌∙◌, List, [], ◌∷◌, length, Option, Some, None, refl, sym, ap, subst, arith, suc, Result, Ok, Err}
use Rattle.std.specs.Prelude.{All, IfOk, MatchResult}
use Rattle.std.proofs.lemmas.List.{length-map}
use Rattle.std.proofs.lemmas.List.Elements.{All-cons, All-nil}
use Rattle.vs_base.specs.declared.change.LastKey.{LastKey}
use Rattle.vs_proto.specs.declared.request.VStreamRequest.{VStreamRequest}
use Rattle.vs_proto.specs.declared.vgtid.ShardGtid.{ShardGtid}
use Rattle.vs_proto.specs.declared.vgtid.TableKey.{TableKey}
use Rattle.vs_request.specs.declared.refusal.RequestRefusal.{RequestRefusal}
use Rattle.vs_request.specs.declared.request.Request.{Request}
use Rattle.vs_request.specs.declared.request.StartAt.{StartAt}
use Rattle.vs_request.specs.declared.request.Wanted.{Wanted}
use Rattle.vs_request.specs.Entries.{AreWanted, IsLastKey, IsLawfulCount, IsLawfulEntry, IsWanted, LacksShard, MayStand, is_named, most_keys}
use Rattle.vs_request.specs.Requests.{IsLawful, Means, rule_text, rules_in, entries_in}

key-may_stand : (start : StartAt) (keys : List TableKey) (last : Option LastKey) → length keys ≤ most_keys start → IsLastKey keys last → MayStand start last
key-may_stand start keys None few h = tt
key-may_stand start [] (Some last) few h = absurd h
key-may_stand start (key ∷ more) (Some last) few h = let some : 1 ≤ length (key ∷ more) = omega arith in omega (arith, some, few)

wanted-lawful : (entry : ShardGtid) (wanted : Wanted) → IsWanted entry wanted → IsLawfulEntry wanted
wanted-lawful entry wanted h =
    let names : is_named wanted.keyspace wanted.shard ≡ is_named entry.keyspace entry.shard = ap (λ k. is_named k wanted.shard) h.keyspace ∙ ap (λ s. is_named entry.keyspace s) h.shard in
    record {
      named = names ∙ h.starts.lawful.starts.named;
      has_shard = λ lacks. h.starts.lawful.has_shard (subst (λ s. LacksShard s wanted.start) h.shard lacks);
      may_stand = key-may_stand wanted.start entry.table_p_ks wanted.last_key h.starts.few h.last_key;
    }

all-lawful : (entries : List ShardGtid) (wanted : List Wanted) → AreWanted entries wanted → All IsLawfulEntry wanted
all-lawful [] [] h = All-nil IsLawfulEntry
all-lawful [] (w ∷ more) h = absurd h
all-lawful (entry ∷ rest) [] h = absurd h
all-lawful (entry ∷ rest) (w ∷ more) h = All-cons IsLawfulEntry w more (wanted-lawful entry w h.0) (all-lawful rest more h.1)

length-wanted : (entries : List ShardGtid) (wanted : List Wanted) → AreWanted entries wanted → length wanted ≡ length entries
length-wanted [] [] h = refl
length-wanted [] (w ∷ more) h = absurd h
length-wanted (entry ∷ rest) [] h = absurd h
length-wanted (entry ∷ rest) (w ∷ more) h = ap (λ k. suc k) (length-wanted rest more h.1)

-- what a message means has no fault
pub lawful_meaning : (message : VStreamRequest) (asked : Request) → Means message asked → IsLawful asked
lawful_meaning message asked h =
    let same : length asked.entries ≡ length (entries_in message.vgtid) = length-wanted (entries_in message.vgtid) asked.entries h.entries.are_wanted in
    let rules : length asked.rules ≡ length (rules_in message.filter) = ap (λ r. length r) h.rules ∙ length-map (rules_in message.filter) rule_text in
    record {
      count = subst IsLawfulCount (sym same) h.entries.count;
      entries = all-lawful (entries_in message.vgtid) asked.entries h.entries.are_wanted;
      few_rules = let few : length (rules_in message.filter) ≤ 256 = h.few_rules in omega (arith, rules, few);
    }

-- and so has what is read of it
pub read-lawful : (message : VStreamRequest) (r : Result Request RequestRefusal) (Q : RequestRefusal → Type 0) → MatchResult r (Means message) Q → IfOk r (λ asked. IsLawful asked)
read-lawful message (Ok asked) Q h = lawful_meaning message asked h
read-lawful message (Err fault) Q h = tt
