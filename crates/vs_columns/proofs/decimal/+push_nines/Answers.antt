use Rattle.std.proofs.Common.{◌++◌, ◌-◌, sym, ap, ◌∙◌}
use Rattle.vs_columns.specs.Digits.{shown, begun_by}
use Rattle.vs_columns.specs.Decimals.{group_digits, nines_digits}
use Rattle.vs_columns.proofs.DigitLemmas.{shown_behind, begun_behind}
use Rattle.vs_columns.proofs.DecimalLemmas.{nines_step}
use Rattle.vs_columns.proofs.KeptLemmas.{kept_behind, on_ok_so, on_err_so, if_ok_so}
use Rattle.vs_columns.proofs.decimal.+push_nines.Goals as goal

pub returns-clause-ok : goal.returns-clause-ok
returns-clause-ok t c =
    on_ok_so c.push_nines.result _ _
    (λ h. shown_behind c.args.begun c.in_ok-begun.begun (group_digits 9 c.args.bytes.now) (nines_digits (c.args.count - 1) c.behind.result.now) c.args.out.now.items _ _ c.in_ok-begun.ensures.ok c.in_ok-begun.ensures.begun h
    ∙ ap (λ ds. c.args.out.now.items ++ shown c.args.begun ds) (ap (λ bytes. group_digits 9 c.args.bytes.now ++ nines_digits (c.args.count - 1) bytes) c.behind.ensures ∙ sym (nines_step c.args.count c.args.bytes.now c.if-count-eq0.false)))
    c.push_nines.ensures.ok

pub returns-clause-begun : goal.returns-clause-begun
returns-clause-begun t c =
    if_ok_so c.push_nines.result _ _
    (λ b h. begun_behind c.args.begun c.in_ok-begun.begun b (group_digits 9 c.args.bytes.now) (nines_digits (c.args.count - 1) c.behind.result.now) c.in_ok-begun.ensures.begun h
    ∙ ap (λ ds. begun_by c.args.begun ds) (ap (λ bytes. group_digits 9 c.args.bytes.now ++ nines_digits (c.args.count - 1) bytes) c.behind.ensures ∙ sym (nines_step c.args.count c.args.bytes.now c.if-count-eq0.false)))
    c.push_nines.ensures.begun

pub returns-clause-err : goal.returns-clause-err
returns-clause-err t c =
    on_err_so c.push_nines.result _ _ (λ h. kept_behind c.args.out.now.items _ _ _ c.in_ok-begun.ensures.ok h) c.push_nines.ensures.err
