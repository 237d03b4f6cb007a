use Rattle.std.proofs.Common.{◌≡◌, ◌∙◌, Err, ap, subst, sym}
use Rattle.std.proofs.lemmas.Result.{err_from_is_err_and}
use Rattle.vs_journal.specs.Names.{IsReading}
use Rattle.vs_journal.proofs.ReadingLaws.{judged_reading, unparsed_reading}
use Rattle.vs_journal.proofs.read.read_text.Goals as goal

pub returns-in_err-journal-clause-reads : goal.returns-in_err-journal-clause-reads
returns-in_err-journal-clause-reads c =
    let p = err_from_is_err_and c.from_residual.result c.from_residual.ensures.1 in
    let is : c.from_residual.result ≡ Err c.in_err-journal.field-0.0 = p.1 ∙ ap (λ x. Err x) p.2 in
    subst (IsReading c.args.text.now) (sym is) (unparsed_reading c.args.text.now c.in_err-journal.field-0.0 c.in_err-journal.ensures.bad)

pub returns-clause-reads : goal.returns-clause-reads
returns-clause-reads c = judged_reading c.args.text.now c.in_ok-journal.journal c.judged_journal.result c.in_ok-journal.ensures.ok c.judged_journal.ensures
