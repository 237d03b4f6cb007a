-- Which texts may name a keyspace and a shard.
use Rattle.std.specs.Prelude.{ℕ, Bool, ◌&&◌, ◌||◌, not, nat_le, nat_eq, List, [], ◌∷◌, length}
use Rattle.std.specs.List.{list_all}
use Rattle.std.specs.Cmp.Lexicographic.{pointwise}

-- an ASCII letter or digit, '-' or '_'
abbrev pub is_name_byte : ℕ → Bool
is_name_byte b = (nat_le 97 b && nat_le b 122) || (nat_le 65 b && nat_le b 90) || (nat_le 48 b && nat_le b 57) || nat_eq b 45 || nat_eq b 95

-- one of these, or '.'
abbrev pub is_shard_byte : ℕ → Bool
is_shard_byte b = is_name_byte b || nat_eq b 46

-- 1 to 64 bytes
abbrev pub has_name_length : List ℕ → Bool
has_name_length text = nat_le 1 (length text) && nat_le (length text) 64

-- the text may name a keyspace
abbrev pub is_keyspace_text : List ℕ → Bool
is_keyspace_text text = has_name_length text && list_all is_name_byte text

-- the text is '.' or '..'
abbrev pub is_dots : List ℕ → Bool
is_dots text = pointwise nat_eq text (46 ∷ []) || pointwise nat_eq text (46 ∷ 46 ∷ [])

-- the text may name a shard, and isn't empty
abbrev pub is_shard_text : List ℕ → Bool
is_shard_text text = not (is_dots text) && (has_name_length text && list_all is_shard_byte text)
