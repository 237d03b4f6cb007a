-- Counts of faults and of waits, which stop at the last number of 64 bits; one, or one for each name.
use Rattle.std.specs.Prelude.{◌≡◌, ℕ, ◌+◌, ◌-◌, ◌^◌, ◌<◌, ◌≤◌, min, false}
use Rattle.vs_base.specs.declared.shard_name.ShardName.{ShardName}
use Rattle.vs_base.specs.Names.{same_name}

-- what a count is after n more
abbrev pub raised : ℕ → ℕ → ℕ
raised n before = min (before + n) (2 ^ 64 - 1)

-- the count rose, or stands at its last value
abbrev pub Rose : ℕ → ℕ → Type 0
Rose before now = raised 1 before ≤ now

-- the count can still be seen to rise
abbrev pub IsBelowLast : ℕ → Type 0
IsBelowLast n = n < 2 ^ 64 - 1

-- no name's count changed
abbrev pub KeepsCounts : (ShardName → ℕ) → (ShardName → ℕ) → Type 0
KeepsCounts before now = (n : ShardName) → now n ≡ before n

-- no count of another name changed
abbrev pub KeepsOthers : ShardName → (ShardName → ℕ) → (ShardName → ℕ) → Type 0
KeepsOthers name before now = (n : ShardName) → same_name name n ≡ false → now n ≡ before n

-- no count fell
abbrev pub NoneFell : (ShardName → ℕ) → (ShardName → ℕ) → Type 0
NoneFell before now = (n : ShardName) → before n ≤ now n
