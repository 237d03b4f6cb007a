-- Feeds that are out: how often logs were opened, and feeds of their names given back.
use Rattle.std.specs.Prelude.{◌≡◌, ℕ, ◌+◌, ◌-◌, List, count_by}
use Rattle.vs_base.specs.declared.shard_name.ShardName.{ShardName}
use Rattle.vs_base.specs.Names.{same_name}

-- how often the name stands among the names
abbrev pub times : ShardName → List ShardName → ℕ
times name names = count_by (λ n. same_name n name) names

-- how many feeds of the name are out
abbrev pub lent : ShardName → List ShardName → (ShardName → ℕ) → ℕ
lent name opened returned = times name opened - returned name

-- of each name as many feeds are out as before
abbrev pub GivesAllBack : List ShardName → (ShardName → ℕ) → List ShardName → (ShardName → ℕ) → Type 0
GivesAllBack opened_old returned_old opened_new returned_new =
    (n : ShardName) → times n opened_new + returned_old n ≡ returned_new n + times n opened_old
