use Rattle.vs_columns.proofs.DateLemmas.{fraction_behind}
use Rattle.vs_columns.proofs.calendar.push_fraction.Goals as goal

pub returns-clause-ok : goal.returns-clause-ok
returns-clause-ok c =
    fraction_behind c.args.precision c.args.number c.fraction_size.result c.six_digits-digits.result c.behind.result.now c.args.out.now.items c.push.new.self.items _
    c.requires c.if-precision-eq0.false c.fraction_size.ensures c.six_digits-digits.ensures c.behind.ensures c.in_ok-push.ensures.items c.in_ok-extend_from_slice.ensures.items
