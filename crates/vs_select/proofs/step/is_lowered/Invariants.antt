use Rattle.std.proofs.Common.{◌≡◌, length, drop, map, nat_eq}
use Rattle.std.specs.Cmp.Lexicographic.{pointwise}
use Rattle.vs_select.specs.Parts.{lower}
use Rattle.vs_select.proofs.step.is_lowered.Given as goal

abbrev pub invariant-loop-i : goal.invariant-loop-i
invariant-loop-i l = record {
  long : length l.word ≡ length l.keyword;
  same : pointwise nat_eq (map lower l.word) l.keyword ≡ pointwise nat_eq (map lower (drop l.i l.word)) (drop l.i l.keyword);
}
