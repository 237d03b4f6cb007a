use Rattle.std.proofs.Common.{◌≡◌, ◌+◌, Err, ◌<◌, ◌≤◌, false, length, take, drop, subst, sym, ◌∙◌, ap, arith, suc, List, ◌++◌, ◌∷◌, []}
use Rattle.std.proofs.lemmas.List.{take_all}
use Rattle.std.proofs.lemmas.Result.{err_from_is_err_and}
use Rattle.vs_gtid.specs.declared.Entry.{Entry}
use Rattle.vs_gtid.specs.Positions.{has}
use Rattle.vs_gtid.specs.Joins.{added}
use Rattle.vs_outside.specs.Told.{Writes}
use Rattle.vs_command.specs.declared.sending.SendEnd.TheVariants.{PositionTooLarge, TooLarge}
use Rattle.vs_command.specs.Fetched.{IsPlaced, entries_of}
use Rattle.vs_command.specs.Sending.{AreSent, lacking}
use Rattle.vs_command.proofs.SizeLemmas.{AreSendable-more, lacking_of-next, lacking_of-split, placed_at, stops_at, too_large_at}
use Rattle.vs_command.proofs.FitLemmas.{FitAlong-more}
use Rattle.vs_command.proofs.SendLemmas.{Writes-body, Writes-cut_body, Writes-ended_early, Writes-sent, Writes-unsent, position_after-more}
use Rattle.vs_command.proofs.sending.send_entries.Goals as goal

pub returns-in_default-clause-wrote : goal.returns-in_default-clause-wrote
returns-in_default-clause-wrote g c =
    Writes-unsent (IsPlaced c.args.entries.now) c.args.bound.now.tables c.args.name.now c.args.start.now (lacking c.args.start.now (entries_of c.args.entries.now)) (g.O.Sink.sent c.args.output.now)

pub returns-in_err-body-clause-wrote : goal.returns-in_err-body-clause-wrote
returns-in_err-body-clause-wrote g c =
    let p = err_from_is_err_and c.from_residual.result c.from_residual.ensures.1 in
    let inside : c.loop-placed.placed-index < length c.args.entries.now = omega arith in
    let lacks : has c.args.start.now c.placed-item.result.entry.gtid ≡ false = sym c.contains.ensures.has ∙ c.if-contains.false in
    let are = lacking_of-split c.args.start.now c.args.entries.now c.loop-placed.placed-index c.placed-item.result inside c.placed-item.is lacks in
    let is : c.from_residual.result ≡ Err c.in_err-body.field-0.0 = p.1 ∙ ap (λ x. Err x) p.2 in
    rw is (Writes-ended_early (IsPlaced c.args.entries.now) c.args.bound.now.tables c.args.name.now c.args.start.now (lacking c.args.start.now (entries_of (take c.loop-placed.placed-index c.args.entries.now)))
    (lacking c.args.start.now (entries_of (drop (suc c.loop-placed.placed-index) c.args.entries.now))) (lacking c.args.start.now (entries_of c.args.entries.now)) c.placed-item.result.entry c.placed-item.result.at c.in_err-body.field-0.0 _ _
    are (placed_at c.args.entries.now c.loop-placed.placed-index c.placed-item.result inside c.placed-item.is)
    (λ at bytes h. c.in_err-body.ensures.oversized at bytes (ap (λ x. Err x) h)) (λ h. c.in_err-body.ensures.no_link (ap (λ x. Err x) h)) (λ h. c.in_err-body.ensures.no_position (ap (λ x. Err x) h))
    c.loop-placed.invariant.wrote)

pub returns-in_err-body-clause-oversized : goal.returns-in_err-body-clause-oversized
returns-in_err-body-clause-oversized g c at bytes told =
    let p = err_from_is_err_and c.from_residual.result c.from_residual.ensures.1 in
    let inside : c.loop-placed.placed-index < length c.args.entries.now = omega arith in
    let lacks : has c.args.start.now c.placed-item.result.entry.gtid ≡ false = sym c.contains.ensures.has ∙ c.if-contains.false in
    let is : Err c.in_err-body.field-0.0 ≡ Err (TooLarge at bytes) = sym (p.1 ∙ ap (λ x. Err x) p.2) ∙ told in
    let same : c.in_err-body.field-0.0 ≡ TooLarge at bytes = cc in
    let over = c.in_err-body.ensures.oversized at bytes (ap (λ x. Err x) same) in
    rw over.0 (stops_at c.args.bound.now.tables c.args.name.now c.args.start.now c.args.entries.now c.loop-placed.placed-index c.placed-item.result bytes inside c.placed-item.is lacks over.1
    c.loop-placed.invariant.sendable c.loop-placed.invariant.fits)

pub returns-in_err-send_body-clause-wrote : goal.returns-in_err-send_body-clause-wrote
returns-in_err-send_body-clause-wrote g c =
    let p = err_from_is_err_and c.from_residual-in_err-send_body.result c.from_residual-in_err-send_body.ensures.1 in
    let inside : c.loop-placed.placed-index < length c.args.entries.now = omega arith in
    let lacks : has c.args.start.now c.placed-item.result.entry.gtid ≡ false = sym c.contains.ensures.has ∙ c.if-contains.false in
    let are = lacking_of-split c.args.start.now c.args.entries.now c.loop-placed.placed-index c.placed-item.result inside c.placed-item.is lacks in
    let cut = Writes-cut_body (IsPlaced c.args.entries.now) c.args.bound.now.tables c.args.name.now c.args.start.now c.loop-placed.position (lacking c.args.start.now (entries_of (take c.loop-placed.placed-index c.args.entries.now)))
    (lacking c.args.start.now (entries_of (drop (suc c.loop-placed.placed-index) c.args.entries.now))) c.placed-item.result.entry c.in_ok-body.body.body c.in_err-send_body.field-0.0 _ _ _
    c.in_ok-body.ensures.body c.loop-placed.invariant.position c.loop-placed.invariant.wrote c.in_err-send_body.ensures.wrote in
    let is : c.from_residual-in_err-send_body.result ≡ Err c.in_err-send_body.field-0.0 = p.1 ∙ ap (λ x. Err x) p.2 in
    rw is (subst (λ es. Writes (g.O.Sink.sent c.args.output.now) (g.O.Sink.sent c.send_body.new.output) (λ w. AreSent (IsPlaced c.args.entries.now) c.args.bound.now.tables c.args.name.now c.args.start.now es (Err c.in_err-send_body.field-0.0) w)) (sym are) cut)

pub returns-in_err-send_body-clause-large : goal.returns-in_err-send_body-clause-large
returns-in_err-send_body-clause-large g c large =
    let p = err_from_is_err_and c.from_residual-in_err-send_body.result c.from_residual-in_err-send_body.ensures.1 in
    let inside : c.loop-placed.placed-index < length c.args.entries.now = omega arith in
    let lacks : has c.args.start.now c.placed-item.result.entry.gtid ≡ false = sym c.contains.ensures.has ∙ c.if-contains.false in
    let is : Err p.0 ≡ Err PositionTooLarge = sym p.1 ∙ large in
    let same : c.in_err-send_body.field-0.0 ≡ PositionTooLarge = cc in
    let next = c.in_err-send_body.ensures.large (ap (λ x. Err x) same) in
    too_large_at c.args.bound.now.tables c.args.name.now c.args.start.now c.loop-placed.position c.args.entries.now c.loop-placed.placed-index c.placed-item.result inside c.placed-item.is lacks
    c.in_ok-body.ensures.sendable c.loop-placed.invariant.sendable c.loop-placed.invariant.position next

pub loop-placed-preserved : goal.loop-placed-preserved
loop-placed-preserved g c =
    let inside : c.loop-placed.placed-index < length c.args.entries.now = omega arith in
    let lacks : has c.args.start.now c.placed-item.result.entry.gtid ≡ false = sym c.contains.ensures.has ∙ c.if-contains.false in
    let front : List Entry = lacking c.args.start.now (entries_of (take c.loop-placed.placed-index c.args.entries.now)) in
    let more : lacking c.args.start.now (entries_of (take (c.loop-placed.placed-index + 1) c.args.entries.now)) ≡ front ++ c.placed-item.result.entry ∷ [] =
    lacking_of-next c.args.start.now c.args.entries.now c.loop-placed.placed-index c.placed-item.result inside c.placed-item.is lacks in
    record {
      wrote = rw more (Writes-body c.args.bound.now.tables c.args.name.now c.args.start.now c.loop-placed.position front c.placed-item.result.entry c.in_ok-body.body.body _ _ _
          c.in_ok-body.ensures.body c.loop-placed.invariant.position c.loop-placed.invariant.wrote c.in_ok-send_body.ensures.wrote);
      sendable = rw more (AreSendable-more c.args.bound.now.tables c.args.name.now front c.placed-item.result.entry c.loop-placed.invariant.sendable c.in_ok-body.ensures.sendable);
      position = rw more (c.in_ok-send_body.ensures.position ∙ ap (λ q. added q c.placed-item.result.entry.gtid) c.loop-placed.invariant.position ∙ sym (position_after-more c.args.start.now front c.placed-item.result.entry));
      fits = rw more (FitAlong-more c.args.start.now front c.placed-item.result.entry c.loop-placed.invariant.fits
          (subst (λ q. length (added q c.placed-item.result.entry.gtid) ≤ 1024) c.loop-placed.invariant.position c.in_ok-send_body.ensures.fits));
      later = omega (arith, c.in_ok-send_body.ensures.later, c.loop-placed.invariant.later);
    }

pub returns-in_default-new_room-clause-wrote : goal.returns-in_default-new_room-clause-wrote
returns-in_default-new_room-clause-wrote g c =
    Writes-unsent (IsPlaced c.args.entries.now) c.args.bound.now.tables c.args.name.now c.args.start.now (lacking c.args.start.now (entries_of c.args.entries.now)) (g.O.Sink.sent c.args.output.now)

pub returns-in_err-send_body-clause-oversized : goal.returns-in_err-send_body-clause-oversized
returns-in_err-send_body-clause-oversized g c at bytes told =
    let p = err_from_is_err_and c.from_residual-in_err-send_body.result c.from_residual-in_err-send_body.ensures.1 in
    let is : Err p.0 ≡ Err (TooLarge at bytes) = sym p.1 ∙ told in
    let same : c.in_err-send_body.field-0.0 ≡ TooLarge at bytes = cc in
    absurd (c.in_err-send_body.ensures.sized at bytes (ap (λ x. Err x) same))

pub returns-clause-wrote : goal.returns-clause-wrote
returns-clause-wrote g c =
    Writes-sent (IsPlaced c.args.entries.now) c.args.bound.now.tables c.args.name.now c.args.start.now (lacking c.args.start.now (entries_of (take c.loop-placed.placed-index c.args.entries.now)))
    (lacking c.args.start.now (entries_of c.args.entries.now)) _ _ (ap (λ es. lacking c.args.start.now (entries_of es)) (take_all c.loop-placed.placed-index c.args.entries.now (omega arith))) c.loop-placed.invariant.wrote
