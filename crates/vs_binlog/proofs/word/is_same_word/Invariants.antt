use Rattle.std.proofs.Common.{◌≡◌, length, drop, map, nat_eq}
use Rattle.std.specs.Cmp.Lexicographic.{pointwise}
use Rattle.vs_binlog.specs.Words.{upper}
use Rattle.vs_binlog.proofs.word.is_same_word.Given as goal

abbrev pub invariant-loop-i : goal.invariant-loop-i
invariant-loop-i l =
    (length l.word ≡ length l.wanted)
    × (pointwise nat_eq (map upper l.word) l.wanted ≡ pointwise nat_eq (map upper (drop l.i l.word)) (drop l.i l.wanted))
