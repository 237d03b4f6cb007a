-- Counts that rose stay so, and a count that stayed below its last value did not rise.
use Rattle.std.proofs.Common.{◌≡◌, ℕ, ◌≤◌, ◌-◌, ◌^◌, Bool, true, false, refl, subst, arith}
use Rattle.vs_base.specs.declared.shard_name.ShardName.{ShardName}
use Rattle.vs_base.specs.Names.{same_name}
use Rattle.vs_base.proofs.NameLemmas.{same_name-is}
use Rattle.vs_outside.specs.Counts.{Rose, IsBelowLast, KeepsOthers, NoneFell, raised}

pub Rose-later : (a b c : ℕ) → Rose a b → b ≤ c → Rose a c
Rose-later a b c p q = grind arith

pub Rose-before : (a b c : ℕ) → a ≤ b → Rose b c → Rose a c
Rose-before a b c p q = grind arith

-- a count that can be seen to rise and stayed did not rise
pub Rose-kept : (a b : ℕ) → IsBelowLast a → b ≡ a → ¬ Rose a b
Rose-kept a b p q r = grind arith

-- no count fell, where that of one name rose and those of the others stayed
pub none_fell_raised : (name : ShardName) (before now : ShardName → ℕ) (more : ℕ) → ((n : ShardName) → before n ≤ 2 ^ 64 - 1) →
    now name ≡ raised more (before name) → KeepsOthers name before now → NoneFell before now
none_fell_raised name before now more within rose others n = by_test (same_name name n) refl
  where
    later : before name ≤ now name
    later = let most = within name in omega (arith, rose)

    by_test : (b : Bool) → same_name name n ≡ b → before n ≤ now n
    by_test true is = subst (λ m. before m ≤ now m) (same_name-is name n is) later
    by_test false is = omega (arith, others n is)
