use Rattle.vs_columns.proofs.KeptLemmas.{appended, kept_behind, on_err_holds}
use Rattle.vs_columns.proofs.decimal.push_decimal.Goals as goal

pub returns-in_err-push_whole-clause-err : goal.returns-in_err-push_whole-clause-err
returns-in_err-push_whole-clause-err c =
    on_err_holds c.from_residual-in_err-push_whole.result _ (kept_behind c.args.out.now.items _ _ _ c.in_ok-push_sign.ensures.ok c.in_err-push_whole.ensures.err)

pub returns-in_err-push_scale-clause-err : goal.returns-in_err-push_scale-clause-err
returns-in_err-push_scale-clause-err c =
    on_err_holds c.from_residual-in_err-push_scale.result _
    (kept_behind c.args.out.now.items _ _ _ (appended c.args.out.now.items _ _ _ _ c.in_ok-push_sign.ensures.ok c.in_ok-push_whole.ensures.ok) c.in_err-push_scale.ensures.err)
