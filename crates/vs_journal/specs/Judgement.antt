-- What a journal text in form says: its names and positions, and what is wrong with them.
use Rattle.std.specs.Prelude.{ℕ, Bool, true, false, ◌&&◌, nat_le, List, [], ◌∷◌, length, map, Option, Some, None, Result, Ok, Err, ℤ, if◌then◌else◌}
use Rattle.std.specs.BTreeMap.{insert_entry, is_at}
use Rattle.std.specs.BTreeSet.{insert_key}
use Rattle.std.specs.List.{list_any}
use Rattle.std.specs.Map.{lookup}
use Rattle.std.specs.Option.{is_some, option_and_then, option_map}
use Rattle.std.specs.Ordering.{nat_cmp, ordering_then}
use Rattle.std.specs.Result.{result_ok}
use Rattle.std.specs.Cmp.Lexicographic.{slice_cmp}
use Rattle.std.specs.declared.cmp.Ordering.{Ordering}
use Rattle.vs_base.specs.declared.shard_name.ShardName.{ShardName}
use Rattle.vs_gtid.specs.Positions.{Position}
use Rattle.vs_gtid.specs.Readings.{read}
use Rattle.vs_gtid.specs.declared.journal.Successor.{Successor}
use Rattle.vs_gtid.specs.declared.journal.JournalValue.{JournalValue}
use Rattle.vs_outside.specs.Names.{is_keyspace_text, is_shard_text}
use Rattle.vs_journal.specs.Grammar.{parsed_journal}
use Rattle.vs_journal.specs.declared.parsed.Member.{Member}
use Rattle.vs_journal.specs.declared.parsed.ParsedJournal.{ParsedJournal}
use Rattle.vs_journal.specs.declared.refusal.JournalRefusal.{JournalRefusal}
use Rattle.vs_journal.specs.declared.refusal.JournalRefusal.TheVariants.{BadJournal, RepeatedParticipant, RepeatedSuccessor, TooManyNames}

-- ---- journals without what their types keep

abbrev pub PlainName : Type 0
PlainName = List ℕ × List ℕ

pub record PlainJournal : Type 0 where
  pub id : ℤ
  pub shards : Bool
  pub participants : List PlainName
  pub successors : List (PlainName × Position)

abbrev pub plain_name : ShardName → PlainName
plain_name n = (n.keyspace, n.shard)

abbrev pub plain_successor : Successor → PlainName × Position
plain_successor s = (plain_name s.name, s.position)

abbrev pub plain_journal : JournalValue → PlainJournal
plain_journal j = record { id = j.id; shards = j.shards; participants = map plain_name j.participants; successors = map plain_successor j.successors }

-- ---- names and positions

-- by keyspaces, and then by shards
abbrev pub plain_cmp : PlainName → PlainName → Ordering
plain_cmp a b = ordering_then (slice_cmp nat_cmp a.0 b.0) (slice_cmp nat_cmp a.1 b.1)

abbrev pub is_lawful_name : Member → Bool
is_lawful_name m = is_keyspace_text m.keyspace && is_shard_text m.shard

abbrev pub lawful_name : Member → Option PlainName
lawful_name m = if is_lawful_name m then Some (m.keyspace, m.shard) else None

-- the set of GTIDs of a text that isn't empty
abbrev pub position_in : List ℕ → Option Position
position_in [] = None
position_in (c ∷ cs) = result_ok (read (c ∷ cs))

abbrev pub lawful_successor : Member → Option (PlainName × Position)
lawful_successor m = option_and_then (λ (n : PlainName). option_map (λ (p : Position). (n, p)) (position_in m.gtid)) (lawful_name m)

-- what a function gives of each, where it gives something of each
abbrev pub all_some : {A B : Type 0} → (A → Option B) → List A → Option (List B)
all_some f [] = Some []
all_some f (x ∷ xs) = option_and_then (λ y. option_map (λ ys. y ∷ ys) (all_some f xs)) (f x)

-- Keys put in order one after another, into those that are in order already; none where one comes twice.
abbrev pub gathered_keys : {K : Type 0} → (K → K → Ordering) → List K → List K → Option (List K)
gathered_keys cmp keys [] = Some keys
gathered_keys cmp keys (k ∷ ks) = if list_any (is_at (cmp k)) keys then None else gathered_keys cmp (insert_key cmp keys k) ks

-- the same of what stands at keys
abbrev pub gathered_entries : {K X : Type 0} → (K → K → Ordering) → List (K × X) → List (K × X) → Option (List (K × X))
gathered_entries cmp entries [] = Some entries
gathered_entries cmp entries (e ∷ es) = if is_some (lookup (is_at (cmp e.0)) entries) then None else gathered_entries cmp (insert_entry cmp entries e.0 e.1) es

-- ---- judgement

-- how many participants a journal may have, and how many successors
abbrev pub most_members : ℕ
most_members = 64

abbrev pub shards_journal : ℤ → List PlainName → List (PlainName × Position) → PlainJournal
shards_journal id participants successors = record { id = id; shards = true; participants = participants; successors = successors }

-- A repeated participant comes before a repeated successor, and that before too many.
abbrev pub by_order : ℤ → Option (List PlainName) → Option (List (PlainName × Position)) → Result PlainJournal JournalRefusal
by_order id None successors = Err RepeatedParticipant
by_order id (Some participants) None = Err RepeatedSuccessor
by_order id (Some participants) (Some successors) =
    if nat_le (length participants) most_members && nat_le (length successors) most_members
    then Ok (shards_journal id participants successors)
    else Err TooManyNames

-- lawful names and positions, some of each
abbrev pub by_names : ℕ → ℤ → Option (List PlainName) → Option (List (PlainName × Position)) → Result PlainJournal JournalRefusal
by_names size id (Some (p ∷ ps)) (Some (s ∷ ss)) = by_order id (gathered_keys plain_cmp [] (p ∷ ps)) (gathered_entries plain_cmp [] (s ∷ ss))
by_names size id participants successors = Err (BadJournal size)

-- a journal of tables has no names, whatever its text says of them
abbrev pub judged_journal : ℕ → ParsedJournal → Result PlainJournal JournalRefusal
judged_journal size j =
    if j.shards
    then by_names size j.id (all_some lawful_name j.participants) (all_some lawful_successor j.successors)
    else Ok (record { id = j.id; shards = false; participants = []; successors = [] })

abbrev pub in_form : ℕ → Result ParsedJournal ℕ → Result PlainJournal JournalRefusal
in_form size (Err at) = Err (BadJournal at)
in_form size (Ok j) = judged_journal size j

-- the journal that a text says, or why it says none
abbrev pub journal_said : List ℕ → Result PlainJournal JournalRefusal
journal_said text = in_form (length text) (parsed_journal text)
