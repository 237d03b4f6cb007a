-- A frame's bytes: a message behind its length, in four bytes, the highest first.
use Rattle.std.specs.Prelude.{ℕ, List, ◌++◌, length}
use Rattle.std.specs.Int.{w32, to_be_bytes}

abbrev pub framed : List ℕ → List ℕ
framed message = to_be_bytes w32 (length message) ++ message
