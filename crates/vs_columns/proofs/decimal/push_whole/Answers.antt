use Rattle.std.proofs.Common.{◌≡◌, ◌++◌, ◌/◌, ◌%◌, drop, sym, ap, ◌∙◌, false}
use Rattle.vs_columns.specs.Digits.{shown, begun_by}
use Rattle.vs_columns.specs.Decimals.{group_digits, nines_digits, whole_digits}
use Rattle.vs_columns.proofs.DigitLemmas.{shown_behind, begun_behind, none_shown, some_shown}
use Rattle.vs_columns.proofs.decimal.push_whole.Goals as goal

pub returns-in_ok-push-clause-ok : goal.returns-in_ok-push-clause-ok
unfolding whole_digits
returns-in_ok-push-clause-ok c =
    let text = shown_behind false c.in_ok-begun.begun (group_digits (c.args.digits % 9) c.args.bytes.now) (nines_digits (c.args.digits / 9) c.behind.result.now) c.args.out.now.items _ _ c.in_ok-begun.ensures.ok c.in_ok-begun.ensures.begun c.in_ok-begun-2.ensures.ok in
    let begun = begun_behind false c.in_ok-begun.begun c.in_ok-begun-2.begun (group_digits (c.args.digits % 9) c.args.bytes.now) (nines_digits (c.args.digits / 9) c.behind.result.now) c.in_ok-begun.ensures.begun c.in_ok-begun-2.ensures.begun in
    let whole : group_digits (c.args.digits % 9) c.args.bytes.now ++ nines_digits (c.args.digits / 9) c.behind.result.now ≡ whole_digits c.args.digits c.args.bytes.now =
    ap (λ xs. group_digits (c.args.digits % 9) c.args.bytes.now ++ nines_digits (c.args.digits / 9) xs) (c.behind.ensures ∙ ap (λ n. drop n c.args.bytes.now) c.group_size.ensures) in
    none_shown (whole_digits c.args.digits c.args.bytes.now) c.args.out.now.items _ _ (sym c.if-not-begun.true ∙ begun ∙ ap (λ ds. begun_by false ds) whole) (text ∙ ap (λ ds. c.args.out.now.items ++ shown false ds) whole) c.in_ok-push.ensures.items

pub returns-else-not-begun-clause-ok : goal.returns-else-not-begun-clause-ok
unfolding whole_digits
returns-else-not-begun-clause-ok c =
    let text = shown_behind false c.in_ok-begun.begun (group_digits (c.args.digits % 9) c.args.bytes.now) (nines_digits (c.args.digits / 9) c.behind.result.now) c.args.out.now.items _ _ c.in_ok-begun.ensures.ok c.in_ok-begun.ensures.begun c.in_ok-begun-2.ensures.ok in
    let begun = begun_behind false c.in_ok-begun.begun c.in_ok-begun-2.begun (group_digits (c.args.digits % 9) c.args.bytes.now) (nines_digits (c.args.digits / 9) c.behind.result.now) c.in_ok-begun.ensures.begun c.in_ok-begun-2.ensures.begun in
    let whole : group_digits (c.args.digits % 9) c.args.bytes.now ++ nines_digits (c.args.digits / 9) c.behind.result.now ≡ whole_digits c.args.digits c.args.bytes.now =
    ap (λ xs. group_digits (c.args.digits % 9) c.args.bytes.now ++ nines_digits (c.args.digits / 9) xs) (c.behind.ensures ∙ ap (λ n. drop n c.args.bytes.now) c.group_size.ensures) in
    some_shown (whole_digits c.args.digits c.args.bytes.now) c.args.out.now.items _ (sym c.if-not-begun.false ∙ begun ∙ ap (λ ds. begun_by false ds) whole) (text ∙ ap (λ ds. c.args.out.now.items ++ shown false ds) whole)
