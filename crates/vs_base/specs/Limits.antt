-- The limits that several crates keep, by name; in bytes where nothing else is said.
use Rattle.std.specs.Prelude.{ℕ}

-- of a keyspace, a shard, or the table of a last key
abbrev pub most_name : ℕ
most_name = 64

-- of a position, in intervals
abbrev pub most_intervals : ℕ
most_intervals = 1024

-- of the events of a message that carries rows
abbrev pub most_body : ℕ
most_body = 8388608

-- of a message behind its length
abbrev pub most_message : ℕ
most_message = 16777216

-- of the events of an entry of a log
abbrev pub most_entry : ℕ
most_entry = 67108864
