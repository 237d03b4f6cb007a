-- Buffers that never grow, and the pool that lends them.
use Rattle.std.specs.Prelude.{ℕ, List, [], ◌++◌}

-- a buffer: how many bytes fit, and those that it holds
pub record Buffer : Type 0 where
  pub size : ℕ
  pub bytes : List ℕ

-- one that holds none
abbrev pub emptied : ℕ → Buffer
emptied size = record { size = size; bytes = [] }

-- one that holds these bytes as well
abbrev pub holding : Buffer → List ℕ → Buffer
holding b more = record b { bytes = b.bytes ++ more }

-- a pool: how many buffers are its own, out or free, and for how many bytes each of the free ones is
pub record Reserve : Type 0 where
  pub count : ℕ
  pub free : List ℕ

abbrev pub with_free : Reserve → List ℕ → Reserve
with_free p free = record p { free = free }
