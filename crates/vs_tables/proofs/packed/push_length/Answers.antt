use Rattle.std.proofs.Common.{◌≡◌, ◌++◌, ◌-◌, ◌∷◌, [], ap, arith, sym, ◌∙◌}
use Rattle.std.proofs.lemmas.List.{append_assoc}
use Rattle.vs_tables.specs.Packed.{length_marks}
use Rattle.vs_tables.proofs.PackLemmas.{marks_more}
use Rattle.vs_tables.proofs.packed.push_length.Goals as goal

pub loop-left-preserved : goal.loop-left-preserved
loop-left-preserved c =
    let items = c.loop-left.bytes.items in
    let left = c.loop-left.left in
    c.loop-left.invariant
    ∙ ap (λ marks. items ++ marks) (marks_more left (omega (arith, c.loop-left-test.true)))
    ∙ sym (append_assoc items (254 ∷ []) (length_marks (left - 254)))
    ∙ ap (λ bytes. bytes ++ length_marks (left - 254)) (sym c.in_ok-push.ensures.items)
