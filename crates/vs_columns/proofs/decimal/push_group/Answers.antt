use Rattle.std.proofs.Common.{◌++◌, ap, ◌∙◌}
use Rattle.vs_columns.specs.Digits.{shown}
use Rattle.vs_columns.proofs.DigitLemmas.{begun_here}
use Rattle.vs_columns.proofs.DecimalLemmas.{group_last}
use Rattle.vs_columns.proofs.decimal.push_group.Goals as goal

pub returns-then-begun-clause-ok : goal.returns-then-begun-clause-ok
returns-then-begun-clause-ok c =
    let last = group_last c.args.digits c.group_number.result c.args.bytes.now c.nine_digits-all.result c.requires.few c.group_number.ensures c.nine_digits-all.ensures in
    c.in_ok-extend_from_slice.ensures.items ∙ ap (λ ds. c.args.out.now.items ++ ds) (c.shown-shown.ensures ∙ ap (λ ds. shown c.args.begun ds) (c.behind.ensures ∙ last))

pub returns-else-begun-clause-ok : goal.returns-else-begun-clause-ok
returns-else-begun-clause-ok c =
    let last = group_last c.args.digits c.group_number.result c.args.bytes.now c.nine_digits-all.result c.requires.few c.group_number.ensures c.nine_digits-all.ensures in
    c.in_ok-extend_from_slice.ensures.items ∙ ap (λ ds. c.args.out.now.items ++ ds) (c.shown-shown.ensures ∙ ap (λ ds. shown c.args.begun ds) (c.behind.ensures ∙ last))

pub returns-else-begun-clause-begun : goal.returns-else-begun-clause-begun
returns-else-begun-clause-begun c =
    let last = group_last c.args.digits c.group_number.result c.args.bytes.now c.nine_digits-all.result c.requires.few c.group_number.ensures c.nine_digits-all.ensures in
    begun_here c.args.begun c.is_empty.result _ c.shown-shown.result.now c.if-begun.false c.is_empty.ensures (c.shown-shown.ensures ∙ ap (λ ds. shown c.args.begun ds) (c.behind.ensures ∙ last))
