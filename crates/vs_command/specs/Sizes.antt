-- Which entries can be sent: those of which each message is within the limit.
use Rattle.std.specs.Prelude.{◌≡◌, ℕ, ◌-◌, ◌^◌, min, nat_lt, Bool, is_none, if◌then◌else◌, List, [], ◌∷◌, Option, Some, None}
use Rattle.std.specs.List.{AllByRecursion, find}
use Rattle.vs_base.specs.Limits.{most_body}
use Rattle.vs_base.specs.declared.Gtid.{Gtid}
use Rattle.vs_base.specs.declared.ShardName.{ShardName}
use Rattle.vs_gtid.specs.declared.Entry.{Entry}
use Rattle.vs_filter.specs.declared.bound.Picked.{Picked}
use Rattle.vs_render.specs.Bodies.{entry_body, sizes_of}

-- the size of the first message of an entry's body that is over the limit, by the picked tables of its shard
unfoldable pub size_over : List Picked → ShardName → Entry → Option ℕ
size_over tables s e = find (nat_lt most_body) (sizes_of (entry_body tables s e))

abbrev pub IsSendable : List Picked → ShardName → Entry → Type 0
IsSendable tables s e = size_over tables s e ≡ None

abbrev pub is_sendable : List Picked → ShardName → Entry → Bool
is_sendable tables s e = is_none (size_over tables s e)

abbrev pub AreSendable : List Picked → ShardName → List Entry → Type 0
AreSendable tables s es = AllByRecursion (λ (e : Entry). IsSendable tables s e) es

-- the first message of the entry that is over the limit has so many bytes; from 2^64 on these count as 2^64 - 1
abbrev pub IsOversized : List Picked → ShardName → Entry → ℕ → Type 0
IsOversized tables s e bytes = (n : ℕ) × (size_over tables s e ≡ Some n) × (bytes ≡ min n (2 ^ 64 - 1))

-- the entries up to the first one that can't be sent
abbrev pub sendable_front : List Picked → ShardName → List Entry → List Entry
sendable_front tables s [] = []
sendable_front tables s (e ∷ es) = if is_sendable tables s e then e ∷ sendable_front tables s es else []

-- the first entry that can't be sent
abbrev pub first_oversized : List Picked → ShardName → List Entry → Option Entry
first_oversized tables s [] = None
first_oversized tables s (e ∷ es) = if is_sendable tables s e then first_oversized tables s es else Some e

-- The entry is oversized by so many bytes, and has its GTID event at this place, by what is said of where GTID events stand.
abbrev pub IsOversizedAt : (Gtid → ℕ → Type 0) → List Picked → ShardName → Entry → ℕ → ℕ → Type 0
IsOversizedAt stands tables s e at bytes = stands e.gtid at × IsOversized tables s e bytes

-- the next entry is oversized
abbrev pub IsNextOversized : (Gtid → ℕ → Type 0) → List Picked → ShardName → List Entry → ℕ → ℕ → Type 0
IsNextOversized stands tables s [] at bytes = ⊥
IsNextOversized stands tables s (e ∷ rest) at bytes = IsOversizedAt stands tables s e at bytes
