use Rattle.std.proofs.Common.{◌++◌, ◌∙◌, ap, sym, get_or, refl, rules}
use Rattle.std.specs.Prelude.{ℤ, pos}
use Rattle.std.specs.Int.{w64}
use Rattle.std.proofs.lemmas.Int.{to_z-of_z}
use Rattle.vs_show.specs.Cells.{cell_text, cells_text, first_cell, values_behind}
use Rattle.vs_show.proofs.CellLemmas.{further-end, further-next}
use Rattle.vs_show.proofs.cell.put_cells.Goals as goal

pub loop-length-preserved : goal.loop-length-preserved
loop-length-preserved c =
    let z : ℤ = get_or c.in-Some.others.now c.loop-length.length-index (pos 0) in
    let same = to_z-of_z w64 z (search rules) in
    further-next c.in-Some.others.now c.loop-length.length-index z _ _ _ c.loop-length.out.items c.extend_from_slice.new.self.items _ c.loop-length-test.true
    refl (c.in_ok-extend_from_slice.ensures.items)
    (c.in_ok-put_cell-2.ensures ∙ ap (λ z. c.extend_from_slice.new.self.items ++ cell_text (first_cell z c.loop-length.rest.now)) same)
    (c.values_behind-rest-in-loop-length.ensures ∙ ap (λ z. values_behind z c.loop-length.rest.now) same) c.loop-length.invariant

pub returns : goal.returns
returns c =
    let same = to_z-of_z w64 c.in-Some.first.now (search rules) in
    further-end c.in-Some.first.now c.in-Some.others.now c.loop-length.length-index _ _ _ _ _ _ c.loop-length-test.false
    (c.in_ok-put_cell.ensures ∙ ap (λ z. c.args.out.now.items ++ cell_text (first_cell z c.args.values.now)) same)
    (c.values_behind-rest.ensures ∙ ap (λ z. values_behind z c.args.values.now) same) c.loop-length.invariant
    ∙ ap (λ zs. c.args.out.now.items ++ cells_text zs c.args.values.now) (sym c.in-Some.ensures.cases.0)
