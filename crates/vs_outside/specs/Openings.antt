-- The logs that were opened, and what is counted of each name's feeds that were given back.
use Rattle.std.specs.Prelude.{ℕ, ◌-◌, ◌^◌, min, ◌&&◌, cond, List, map}
use Rattle.std.specs.List.{sum_by}
use Rattle.vs_base.specs.declared.shard_name.ShardName.{ShardName}
use Rattle.vs_base.specs.Names.{same_name}
use Rattle.vs_outside.specs.declared.openings.Opening.{Opening}

abbrev pub opened_names : List Opening → List ShardName
opened_names openings = map (λ o. o.name) openings

-- the sum over the feeds of the name that were given back
abbrev pub sum_of : (Opening → ℕ) → List Opening → ShardName → ℕ
sum_of count openings name = sum_by (λ o. cond (same_name o.name name && o.returned) (count o) 0) openings

abbrev pub returned_of : List Opening → ShardName → ℕ
returned_of openings name = sum_of (λ _. 1) openings name

-- counts of faults and of waits stop at the last number of 64 bits
abbrev pub faults_of : List Opening → ShardName → ℕ
faults_of openings name = min (sum_of (λ o. o.faults) openings name) (2 ^ 64 - 1)

abbrev pub waits_of : List Opening → ShardName → ℕ
waits_of openings name = min (sum_of (λ o. o.waits) openings name) (2 ^ 64 - 1)
