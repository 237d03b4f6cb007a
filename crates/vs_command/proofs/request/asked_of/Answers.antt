use Rattle.std.proofs.Common.{◌∙◌, ◌≤◌, length, refl, sym, arith, ap}
use Rattle.vs_command.proofs.RequestLemmas.{is_plain, last_one, not_built_flags}
use Rattle.vs_command.proofs.request.asked_of.Goals as goal

pub returns-then-not-has_no_flags-clause-not_built : goal.returns-then-not-has_no_flags-clause-not_built
returns-then-not-has_no_flags-clause-not_built c =
    let few : length c.args.request.entries ≤ 1 = omega (arith, c.if-len-gt1.false, c.len.ensures, ap (λ l. length l) c.into_vec-entries.ensures) in
    (0, refl, not_built_flags c.args.request c.requires.some few (sym (sym c.has_no_flags.ensures ∙ c.if-not-has_no_flags.true)))

pub returns-in-Some-asked_by-clause-asks : goal.returns-in-Some-asked_by-clause-asks
returns-in-Some-asked_by-clause-asks c =
    let few : length c.args.request.entries ≤ 1 = omega (arith, c.if-len-gt1.false, c.len.ensures, ap (λ l. length l) c.into_vec-entries.ensures) in
    let one = last_one c.args.request.entries c.pop.new.self.items c.in-Some.wanted (sym c.into_vec-entries.ensures ∙ c.in-Some.ensures.items) few in
    is_plain c.args.request c.in-Some.wanted c.in-Some-asked_by.asked.name c.in-Some-asked_by.asked.start c.in-Some-asked_by.asked.rules one c.in-Some-asked_by.ensures (sym (sym c.has_no_flags.ensures ∙ c.if-not-has_no_flags.false))
