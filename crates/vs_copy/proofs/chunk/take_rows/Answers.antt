use Rattle.std.proofs.Common.{◌≡◌, ◌+◌, ◌∷◌, None, Some, filter_map, map, option_map, arith, subst, sym, ◌∙◌}
use Rattle.std.specs.List.{last_or}
use Rattle.std.specs.Map.{values_of}
use Rattle.std.proofs.lemmas.Grind.{common_steps}
use Rattle.std.proofs.lemmas.Result.{IfOk-weaker}
use Rattle.vs_base.specs.Keys.{project}
use Rattle.vs_model.specs.Copy.{chunk_of}
use Rattle.vs_copy.specs.Chunks.{told_row}
use Rattle.vs_copy.proofs.ChunkLemmas.{IsFilled, IsFull, Told, no_room, one_taken}
use Rattle.vs_copy.proofs.chunk.take_rows.Goals as goal

pub loop-row-preserved-in-Some-2 : goal.loop-row-preserved-in-Some-2
loop-row-preserved-in-Some-2 c =
    let u = c.args.table.now in
    let key = project u.table.key in
    let all = filter_map (told_row u) (values_of c.args.rows) in
    let row : Told = (key c.in_ok-row.row, c.in-Some-2.told.cells) in
    let left = filter_map (told_row u) (values_of c.next.new.self) in
    let last = option_map key c.loop-row.last in
    let here : filter_map (told_row u) (values_of c.loop-row.row-iterator) ≡ row ∷ left = grind (arith, common_steps) in
    subst (λ taken. IsFilled all taken (Some (key c.in_ok-row.row)) (c.loop-row.size + c.in-Some-2.told.size) left) (sym c.in_ok-push.ensures.ok)
    (one_taken all c.loop-row.taken last c.loop-row.size row left c.in-Some-2.told.size
    (subst (IsFilled all c.loop-row.taken last c.loop-row.size) here c.loop-row.invariant) (grind (arith, common_steps)) (grind (arith, common_steps)))

pub returns-then-not-has_room-clause-last : goal.returns-then-not-has_room-clause-last
returns-then-not-has_room-clause-last c =
    let u = c.args.table.now in
    let key = project u.table.key in
    let all = filter_map (told_row u) (values_of c.args.rows) in
    let row : Told = (key c.in_ok-row.row, c.in-Some-2.told.cells) in
    let left = filter_map (told_row u) (values_of c.next.new.self) in
    let last = option_map key c.loop-row.last in
    let here : filter_map (told_row u) (values_of c.loop-row.row-iterator) ≡ row ∷ left = grind (arith, common_steps) in
    let full : IsFull all c.loop-row.taken last =
    no_room all c.loop-row.taken last c.loop-row.size row left c.in-Some-2.told.size
    (subst (IsFilled all c.loop-row.taken last c.loop-row.size) here c.loop-row.invariant) (grind (arith, common_steps)) (grind (arith, common_steps)) in
    IfOk-weaker c.finish.result (λ taken. taken.last ≡ last) (λ taken. taken.last ≡ last_or None (map (λ (told : Told). told.0) (chunk_of all)))
    (λ taken is. is ∙ full.keys) c.finish.ensures.last
