-- What an entry of a request asks for, or the first thing that is wrong with it: of one entry in this order its names, its
-- position, a set without a shard, too many last keys, a last key over its limits; of several entries the first from the left.
use Rattle.std.specs.Prelude.{◌≡◌, ◌≤◌, ◌<◌, ◌||◌, ◌&&◌, ◌==◌, ℕ, Bool, List, [], ◌∷◌, ◌++◌, length, IsTrue, Option, Some, None}
use Rattle.vs_base.specs.declared.change.LastKey.{LastKey}
use Rattle.vs_base.specs.Cells.{FitsKey}
use Rattle.vs_outside.specs.Names.{is_keyspace_text, is_shard_text}
use Rattle.vs_proto.specs.declared.vgtid.ShardGtid.{ShardGtid}
use Rattle.vs_proto.specs.declared.vgtid.TableKey.{TableKey}
use Rattle.vs_request.specs.declared.request.StartAt.{StartAt}
use Rattle.vs_request.specs.declared.request.StartAt.TheVariants.{Fresh, Current, At}
use Rattle.vs_request.specs.declared.request.Wanted.{Wanted}
use Rattle.vs_request.specs.declared.refusal.RequestRefusal.{RequestRefusal}
use Rattle.vs_request.specs.declared.refusal.RequestRefusal.TheVariants.{Message, NoShards, TooManyShards, BadName, BadPosition, NeedsShard, TooManyKeys, LongKey, TooManyRules, Memory}
use Rattle.vs_request.specs.Keys.{key_cells}
use Rattle.vs_request.specs.Starts.{IsRefusedAt, StartsAs}

-- the texts name a shard, or with an empty second one all shards of a keyspace
abbrev pub is_named : List ℕ → List ℕ → Bool
is_named keyspace shard = is_keyspace_text keyspace && (length shard == 0 || is_shard_text shard)

abbrev pub IsNamed : ShardGtid → Type 0
IsNamed entry = IsTrue (is_named entry.keyspace entry.shard)

-- a set is of one shard
abbrev pub LacksShard : List ℕ → StartAt → Type 0
LacksShard shard Fresh = ⊥
LacksShard shard Current = ⊥
LacksShard shard (At set) = shard ≡ []

-- how many last keys may stand beside a start
abbrev pub most_keys : StartAt → ℕ
most_keys Fresh = 0
most_keys Current = 0
most_keys (At set) = 1

-- a last key that is within the limits
abbrev pub FitsLimits : TableKey → Type 0
FitsLimits key = FitsKey key.table_name (key_cells key)

-- the last key that these name, if they name one
abbrev pub IsLastKey : List TableKey → Option LastKey → Type 0
IsLastKey [] None = Unit {0}
IsLastKey [] (Some last) = ⊥
IsLastKey (key ∷ more) None = ⊥
IsLastKey (key ∷ more) (Some last) = (more ≡ []) × (last.table ≡ key.table_name) × (last.key ≡ key_cells key)

-- there is one last key, and it is over the limits
abbrev pub IsLongKey : List TableKey → Type 0
IsLongKey keys = (key : TableKey) × (keys ≡ key ∷ []) × ¬ FitsLimits key

-- The names are lawful, and the position says this start.
pub record Starts (entry : ShardGtid) (start : StartAt) : Type 0 where
  pub named : IsNamed entry
  pub says : StartsAs entry.gtid start

-- And a set has its shard.
pub record StartsLawfully (entry : ShardGtid) (start : StartAt) : Type 0 where
  pub starts : Starts entry start
  pub has_shard : ¬ LacksShard entry.shard start

-- And no more last keys stand there than may.
pub record HasFewKeys (entry : ShardGtid) (start : StartAt) : Type 0 where
  pub lawful : StartsLawfully entry start
  pub few : length entry.table_p_ks ≤ most_keys start

-- The entry has no fault, and asks for this.
pub record IsWanted (entry : ShardGtid) (wanted : Wanted) : Type 0 where
  pub keyspace : wanted.keyspace ≡ entry.keyspace
  pub shard : wanted.shard ≡ entry.shard
  pub starts : HasFewKeys entry wanted.start
  pub last_key : IsLastKey entry.table_p_ks wanted.last_key

-- a last key stands only where one may
abbrev pub MayStand : StartAt → Option LastKey → Type 0
MayStand start None = Unit {0}
MayStand start (Some last) = 1 ≤ most_keys start

-- Whatever asked for this had no fault.
pub record IsLawfulEntry (wanted : Wanted) : Type 0 where
  pub named : IsTrue (is_named wanted.keyspace wanted.shard)
  pub has_shard : ¬ LacksShard wanted.shard wanted.start
  pub may_stand : MayStand wanted.start wanted.last_key

-- the first fault of the entry at this index
abbrev pub IsFaulty : ℕ → ShardGtid → RequestRefusal → Type 0
IsFaulty i entry (BadName index) = (index ≡ i) × ¬ IsNamed entry
IsFaulty i entry (BadPosition index at) = (index ≡ i) × IsNamed entry × IsRefusedAt entry.gtid at
IsFaulty i entry (NeedsShard index) = (index ≡ i) × (start : StartAt) × Starts entry start × LacksShard entry.shard start
IsFaulty i entry (TooManyKeys index) = (index ≡ i) × (start : StartAt) × StartsLawfully entry start × (most_keys start < length entry.table_p_ks)
IsFaulty i entry (LongKey index) = (index ≡ i) × (start : StartAt) × HasFewKeys entry start × IsLongKey entry.table_p_ks
IsFaulty i entry (Message why) = ⊥
IsFaulty i entry NoShards = ⊥
IsFaulty i entry (TooManyShards n) = ⊥
IsFaulty i entry (TooManyRules n) = ⊥
IsFaulty i entry Memory = ⊥

-- the entries ask for these, one by one
abbrev pub AreWanted : List ShardGtid → List Wanted → Type 0
AreWanted [] [] = Unit {0}
AreWanted [] (wanted ∷ more) = ⊥
AreWanted (entry ∷ entries) [] = ⊥
AreWanted (entry ∷ entries) (wanted ∷ more) = IsWanted entry wanted × AreWanted entries more

-- An entry has the fault at its place, and no entry before it has one.
pub record HasFirstFault (entries : List ShardGtid) (fault : RequestRefusal) : Type 0 where
  pub before : List ShardGtid
  pub entry : ShardGtid
  pub behind : List ShardGtid
  pub are : entries ≡ before ++ entry ∷ behind
  pub wanted : List Wanted
  pub none_before : AreWanted before wanted
  pub is_faulty : IsFaulty (length before) entry fault

-- 1 to 64
abbrev pub IsLawfulCount : ℕ → Type 0
IsLawfulCount n = (1 ≤ n) × (n ≤ 64)

-- The entries have no fault, and ask for these.
pub record AskFor (entries : List ShardGtid) (wanted : List Wanted) : Type 0 where
  pub count : IsLawfulCount (length entries)
  pub are_wanted : AreWanted entries wanted

-- one entry has the first fault
abbrev pub IsOfEntry : List ShardGtid → RequestRefusal → Type 0
IsOfEntry entries fault = IsLawfulCount (length entries) × HasFirstFault entries fault

-- the first fault of the entries
abbrev pub IsFaultIn : List ShardGtid → RequestRefusal → Type 0
IsFaultIn entries NoShards = entries ≡ []
IsFaultIn entries (TooManyShards n) = (length entries ≡ n) × (64 < n)
IsFaultIn entries (BadName index) = IsOfEntry entries (BadName index)
IsFaultIn entries (BadPosition index at) = IsOfEntry entries (BadPosition index at)
IsFaultIn entries (NeedsShard index) = IsOfEntry entries (NeedsShard index)
IsFaultIn entries (TooManyKeys index) = IsOfEntry entries (TooManyKeys index)
IsFaultIn entries (LongKey index) = IsOfEntry entries (LongKey index)
IsFaultIn entries (Message why) = ⊥
IsFaultIn entries (TooManyRules n) = ⊥
IsFaultIn entries Memory = ⊥
