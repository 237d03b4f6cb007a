-- What the definitions accept and refuse, at small values.
use Rattle.std.proofs.Common.{◌≡◌, ℕ, zero, suc, ◌+◌, ◌<◌, ◌≤◌, ◌-◌, ◌^◌, true, List, [], ◌∷◌, length, map, Some, None, pos, slice_index, is_eq, refl, ap, subst, true≢false, ⊎_elim, inr, arith}
use Rattle.std.specs.List.{AllByRecursion}
use Rattle.vs_base.specs.Names.{names_differ, same_name}
use Rattle.vs_base.specs.declared.ShardName.{ShardName}
use Rattle.vs_gtid.specs.Positions.{Position, IsInterval, IsCanonical, has}
use Rattle.vs_gtid.specs.declared.interval.Interval.{Interval}
use Rattle.vs_gtid.specs.declared.Successor.{Successor}
use Rattle.vs_gtid.specs.declared.JournalValue.{JournalValue}
use Rattle.vs_gtid.specs.declared.Work.{Work}
use Rattle.vs_gtid.specs.declared.Work.TheVariants.{Ddl, Journal}
use Rattle.vs_gtid.specs.declared.Entry.{Entry}
use Rattle.vs_model.specs.Logs.{Log, due, stop, between}
use Rattle.vs_gtid.specs.Vectors.{Vector, switched}
use Rattle.vs_gtid.specs.Vectors.Place.{Streaming}
use Rattle.vs_model.specs.Legal.{HasGathered}
use Rattle.vs_model.specs.Requests.{asked}
use Rattle.vs_model.specs.Requests.Wanted.{OneShard, AllShards}
use Rattle.vs_model.specs.Requests.StartAt.{From, FromEnd}
use Rattle.vs_model.proofs.Lists.{cons_is_not_nil}
use Rattle.vs_model.proofs.Places.{same_position}

pub one_fits : (n : ℕ) → length (n ∷ []) ≤ 64
one_fits n = omega arith

-- keyspaces, shards and servers are numbered
abbrev pub shard : ℕ → ℕ → ShardName
shard keyspace n = record { keyspace = keyspace ∷ []; shard = n ∷ []; keyspace_fits = one_fits keyspace; shard_fits = one_fits n }

abbrev pub server : ℕ → List ℕ
server n = 0 ∷ 0 ∷ 0 ∷ 0 ∷ 0 ∷ 0 ∷ 0 ∷ 0 ∷ 0 ∷ 0 ∷ 0 ∷ 0 ∷ 0 ∷ 0 ∷ 0 ∷ n ∷ []

abbrev pub interval : ℕ → ℕ → ℕ → Interval
interval s a b = record { uuid = server s; first = a; last = b }

abbrev pub up_to : ℕ → ℕ → Position
up_to s n = interval s 1 n ∷ []

abbrev pub entry : (n : ℕ) → 1 ≤ n → n ≤ 2 ^ 63 - 2 → Work → Entry
entry n p q work = record { gtid = record { uuid = server 1; number = n; first = p; last = q }; time = 100 + n; work = work }

abbrev pub log : List Entry → Log
log entries = record { base = []; entries = entries; fault = None }

abbrev pub journal : (ps : List ShardName) (ns : List Successor) → length ps ≤ 64 → length ns ≤ 64 → names_differ ps ≡ true →
    names_differ (map (λ n. n.name) ns) ≡ true → JournalValue
journal ps ns a b c d = record { id = pos 7; shards = true; participants = ps; successors = ns; few_participants = a; few_successors = b; participants_differ = c; successors_differ = d }

pub halves_differ : names_differ (shard 1 40 ∷ shard 1 60 ∷ []) ≡ true
unfolding same_name
halves_differ = refl

-- the shard 80 becomes 40 and 60
abbrev pub split : JournalValue
split =
    let halves : List Successor = record { name = shard 1 40; position = up_to 2 1 } ∷ record { name = shard 1 60; position = up_to 3 1 } ∷ [] in
    journal (shard 1 80 ∷ []) halves (omega arith) (omega arith) refl halves_differ

-- the shards 40 and 60 become 80
abbrev pub merge : JournalValue
merge =
    let whole : List Successor = record { name = shard 1 80; position = up_to 4 1 } ∷ [] in
    journal (shard 1 40 ∷ shard 1 60 ∷ []) whole (omega arith) (omega arith) halves_differ refl

switches : (switched ((shard 1 80, Streaming (up_to 1 1)) ∷ (shard 1 81, Streaming []) ∷ []) split
    ≡ (shard 1 81, Streaming []) ∷ (shard 1 40, Streaming (up_to 2 1)) ∷ (shard 1 60, Streaming (up_to 3 1)) ∷ [])
    × (switched ((shard 1 40, Streaming (up_to 1 1)) ∷ (shard 1 60, Streaming (up_to 2 1)) ∷ (shard 2 40, Streaming (up_to 5 3)) ∷ []) merge
    ≡ (shard 2 40, Streaming (up_to 5 3)) ∷ (shard 1 80, Streaming (up_to 4 1)) ∷ [])
unfolding same_name
switches = (refl, refl)

-- a statement, a journal and a statement
abbrev pub one : Entry
one = entry 1 (omega arith) (omega arith) (Ddl [])

abbrev pub two : JournalValue → Entry
two j = entry 2 (omega arith) (omega arith) (Journal j)

abbrev pub three : Entry
three = entry 3 (omega arith) (omega arith) (Ddl [])

abbrev pub resharded : JournalValue → Log
resharded j = log (one ∷ two j ∷ three ∷ [])

-- a participant stops at the journal, and to another shard it is due
due_entries : (due (shard 1 80) (resharded split) [] ≡ one ∷ [])
    × (stop (shard 1 80) (resharded split) [] ≡ Some split)
    × (due (shard 1 80) (resharded split) (up_to 1 1) ≡ [])
    × (between (shard 1 80) (resharded split) [] (up_to 1 3) ≡ one ∷ [])
    × (due (shard 1 81) (resharded split) (up_to 1 1) ≡ two split ∷ three ∷ [])
    × (stop (shard 1 81) (resharded split) [] ≡ None)
unfolding has same_name
due_entries = (refl, refl, refl, refl, refl, refl)

-- no switch while a participant has an entry due
abbrev waiting : Vector
waiting = (shard 1 40, Streaming (up_to 1 1)) ∷ (shard 1 60, Streaming []) ∷ []

too_early : HasGathered ((shard 1 40, resharded merge) ∷ (shard 1 60, resharded merge) ∷ []) waiting merge → ⊥
unfolding has same_name
too_early gathered =
    let arrived = gathered.arrived (shard 1 60) refl in
    cons_is_not_nil one []
    (subst (λ p. due (shard 1 60) (resharded merge) p ≡ []) (same_position waiting (shard 1 60) arrived.0 [] arrived.1 refl) arrived.2)

-- a keyspace stands for its shards in the order of their names, whatever the order of the cluster
asks : asked ((shard 1 81, log []) ∷ (shard 2 1, log []) ∷ (shard 1 80, log []) ∷ []) (OneShard (shard 3 1) FromEnd ∷ AllShards (1 ∷ []) (From []) ∷ [])
    ≡ (shard 3 1, FromEnd) ∷ (shard 1 80, From []) ∷ (shard 1 81, From []) ∷ []
asks = refl

server_bytes : (s : ℕ) → s < 256 → (k : ℕ) → slice_index (server s) k < 256
server_bytes s few =
    let z : 0 < 256 = omega arith in
    within (server s) (z, (z, (z, (z, (z, (z, (z, (z, (z, (z, (z, (z, (z, (z, (z, (few, tt))))))))))))))))
  where
    within : (xs : List ℕ) → AllByRecursion (λ b. b < 256) xs → (k : ℕ) → slice_index xs k < 256
    within [] h k = omega arith
    within (x ∷ xs) h zero = h.0
    within (x ∷ xs) h (suc k) = within xs h.1 k

pub is_interval : (s a b : ℕ) → s < 256 → 1 ≤ a → a ≤ b → b ≤ 2 ^ 63 - 2 → IsInterval (interval s a b)
is_interval s a b few from ascends to = record { uuid = refl; bytes = server_bytes s few; first = from; ascends = ascends; last = to }

-- intervals stand apart, and those that meet are spelled as one
apart : IsCanonical (interval 1 1 2 ∷ interval 1 4 4 ∷ [])
apart =
    let gap : 3 < 4 = omega arith in
    (is_interval 1 1 2 (omega arith) (omega arith) (omega arith) (omega arith), inr (refl, gap), (is_interval 1 4 4 (omega arith) (omega arith) (omega arith) (omega arith), tt, tt))

meeting : IsCanonical (interval 1 1 2 ∷ interval 1 3 4 ∷ []) → ⊥
meeting h = ⊎_elim (λ less. true≢false (ap is_eq less)) (λ gap. let lt = gap.1 in omega arith) h.1
