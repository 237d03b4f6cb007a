use Rattle.std.proofs.Common.{ℕ, Some, length, take, refl, ap, sym, ◌∙◌, add-one, arith}
use Rattle.std.proofs.lemmas.Bool.{eq-eqb}
use Rattle.std.proofs.lemmas.Option.{slice_get_read}
use Rattle.vs_pace.specs.declared.head.Head.{Head}
use Rattle.vs_core.specs.Choices.{lane_head}
use Rattle.vs_core.proofs.HeldPieces.{not_same}
use Rattle.vs_core.proofs.NextLemmas.{head_hit, head_miss}
use Rattle.vs_core.proofs.choosing.lane_head.Goals as goal

pub returns-then-number-lane : goal.returns-then-number-lane
returns-then-number-lane c =
    let held = c.args.held.now.items in
    let x = c.index.result.now in
    let head_at : ℕ → Head = λ t. record { time = t; taken = c.loop-place.place } in
    ap (λ t. Some (head_at t)) (c.from.ensures ∙ c.piece_time.ensures)
    ∙ sym (head_hit c.args.lane held c.loop-place.place x c.loop-place.invariant
    (slice_get_read held (length held) c.loop-place.place x refl (omega (arith, c.args.held.now.ok.0)) c.index.ensures)
    (eq-eqb x.0 c.args.lane c.if-number-lane.true))

pub loop-place-preserved : goal.loop-place-preserved
loop-place-preserved c =
    let held = c.args.held.now.items in
    let x = c.index.result.now in
    ap (λ n. lane_head c.args.lane (take n held)) (add-one c.loop-place.place)
    ∙ head_miss c.args.lane held c.loop-place.place x c.loop-place.invariant
    (slice_get_read held (length held) c.loop-place.place x refl (omega (arith, c.args.held.now.ok.0)) c.index.ensures)
    (not_same x.0 c.args.lane c.if-number-lane.false)
