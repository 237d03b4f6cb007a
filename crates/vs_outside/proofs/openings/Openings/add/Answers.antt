use Rattle.std.proofs.Common.{sym, ◌∙◌, arith}
use Rattle.vs_outside.proofs.OpeningLemmas.{sum_of-given, sum_of-other, count_of-given, count_of-other, opened_names-set, all_given, within-given}
use Rattle.vs_outside.proofs.openings.Openings.add.Goals as goal

no_place : (c : goal.In_default) → ⊥
no_place c =
    let none = all_given c.args.self.now.openings.items c.args.name.now (sym c.place_out.ensures ∙ c.in_default.is) in
    omega (arith, c.requires.lent)

pub returns-in_default-clause-faults : goal.returns-in_default-clause-faults
returns-in_default-clause-faults c = absurd (no_place c)

pub returns-in_default-clause-waits : goal.returns-in_default-clause-waits
returns-in_default-clause-waits c = absurd (no_place c)

pub returns-in_default-clause-returned : goal.returns-in_default-clause-returned
returns-in_default-clause-returned c = absurd (no_place c)

pub invariant_of-self : goal.invariant_of-self
invariant_of-self c = record { within = within-given c.args.self.now.openings.items c.args.name.now c.in-Some.place c.index_mut.result.now _ (sym c.place_out.ensures ∙ c.in-Some.is) c.index_mut.ensures.value c.close.ensures.name c.close.ensures.returned }

pub returns-clause-names : goal.returns-clause-names
returns-clause-names c = opened_names-set c.args.self.now.openings.items c.args.name.now c.in-Some.place c.index_mut.result.now _ (sym c.place_out.ensures ∙ c.in-Some.is) c.index_mut.ensures.value c.close.ensures.name c.close.ensures.returned

pub returns-clause-faults : goal.returns-clause-faults
returns-clause-faults c = count_of-given c.args.self.now.openings.items c.args.name.now c.in-Some.place c.index_mut.result.now _ (sym c.place_out.ensures ∙ c.in-Some.is) c.index_mut.ensures.value c.close.ensures.name c.close.ensures.returned (λ o. o.faults) c.args.faults c.close.ensures.faults

pub returns-clause-waits : goal.returns-clause-waits
returns-clause-waits c = count_of-given c.args.self.now.openings.items c.args.name.now c.in-Some.place c.index_mut.result.now _ (sym c.place_out.ensures ∙ c.in-Some.is) c.index_mut.ensures.value c.close.ensures.name c.close.ensures.returned (λ o. o.waits) c.args.waits c.close.ensures.waits

pub returns-clause-returned : goal.returns-clause-returned
returns-clause-returned c = sum_of-given c.args.self.now.openings.items c.args.name.now c.in-Some.place c.index_mut.result.now _ (sym c.place_out.ensures ∙ c.in-Some.is) c.index_mut.ensures.value c.close.ensures.name c.close.ensures.returned (λ _. 1)

pub returns-clause-other_faults : goal.returns-clause-other_faults
returns-clause-other_faults c = count_of-other c.args.self.now.openings.items c.args.name.now c.in-Some.place c.index_mut.result.now _ (sym c.place_out.ensures ∙ c.in-Some.is) c.index_mut.ensures.value c.close.ensures.name c.close.ensures.returned (λ o. o.faults)

pub returns-clause-other_waits : goal.returns-clause-other_waits
returns-clause-other_waits c = count_of-other c.args.self.now.openings.items c.args.name.now c.in-Some.place c.index_mut.result.now _ (sym c.place_out.ensures ∙ c.in-Some.is) c.index_mut.ensures.value c.close.ensures.name c.close.ensures.returned (λ o. o.waits)

pub returns-clause-other_returned : goal.returns-clause-other_returned
returns-clause-other_returned c = sum_of-other c.args.self.now.openings.items c.args.name.now c.in-Some.place c.index_mut.result.now _ (sym c.place_out.ensures ∙ c.in-Some.is) c.index_mut.ensures.value c.close.ensures.name c.close.ensures.returned (λ _. 1)
