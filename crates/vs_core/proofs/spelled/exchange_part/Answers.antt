use Rattle.std.proofs.Common.{is_some, ap, sym, ◌∙◌, position}
use Rattle.std.proofs.Math.ListN.{set}
use Rattle.vs_core.specs.Parts.{is_part_of}
use Rattle.vs_core.proofs.PartLemmas.{part_new, part_old, part_stands}
use Rattle.vs_core.proofs.spelled.exchange_part.Goals as goal

pub returns-in-Some-clause-new : goal.returns-in-Some-clause-new
returns-in-Some-clause-new c = λ v p there are is.
    let xs = c.args.parts.now.items in
    let s = c.args.name.now in
    let at = ap (position (is_part_of s)) (sym c.as_slice.ensures.value) ∙ sym c.place_of_part.ensures ∙ c.in-Some.is in
    ap (set xs c.in-Some.i) (c.replace.ensures.after ∙ is) ∙ part_new xs v s are p c.in-Some.i at

pub returns-in-Some-clause-old : goal.returns-in-Some-clause-old
returns-in-Some-clause-old c = λ v p there are.
    let xs = c.args.parts.now.items in
    let s = c.args.name.now in
    let at = ap (position (is_part_of s)) (sym c.as_slice.ensures.value) ∙ sym c.place_of_part.ensures ∙ c.in-Some.is in
    c.replace.ensures.value ∙ part_old xs v s are p c.in-Some.i c.index_mut.result.now there at c.index_mut.ensures.value

pub returns-in-None-clause-new : goal.returns-in-None-clause-new
returns-in-None-clause-new c = λ v p there are is.
    let s = c.args.name.now in
    part_stands c.args.parts.now.items v s are there (ap (position (is_part_of s)) (sym c.as_slice.ensures.value) ∙ sym c.place_of_part.ensures ∙ c.in-None.is)

pub returns-in-None-clause-old : goal.returns-in-None-clause-old
returns-in-None-clause-old c = λ v p there are.
    let s = c.args.name.now in
    part_stands c.args.parts.now.items v s are (ap is_some there) (ap (position (is_part_of s)) (sym c.as_slice.ensures.value) ∙ sym c.place_of_part.ensures ∙ c.in-None.is)
