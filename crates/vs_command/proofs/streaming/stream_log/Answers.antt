use Rattle.std.proofs.Common.{◌≡◌, ap, refl, subst, sym, ◌∙◌}
use Rattle.std.specs.Prelude.{◌⊎◌, None, Err}
use Rattle.vs_log.specs.Laws.{FitAlong}
use Rattle.vs_outside.specs.Told.{Writes}
use Rattle.vs_command.specs.Causes.{LogAsksFor}
use Rattle.vs_command.specs.Fetched.{IsPlaced, entries_of, read_as}
use Rattle.vs_command.specs.Sending.{IsTooLargeAlong, StopsAtOversized}
use Rattle.vs_command.specs.Sizes.{AreSendable, sendable_front}
use Rattle.vs_command.specs.Stages.{IsBroughtOf}
use Rattle.vs_command.specs.Streaming.{IsStreamedFrom}
use Rattle.vs_command.proofs.CauseLemmas.{asks_purged, due_end, refused_due}
use Rattle.vs_command.proofs.StopLemmas.{end_is}
use Rattle.vs_command.proofs.StreamLemmas.{IsEndOf, StartsAt, Writes-ended, Writes-purged, Writes-refused}
use Rattle.vs_command.proofs.streaming.stream_log.Goals as goal

pub returns-in-Some-clause-wrote : goal.returns-in-Some-clause-wrote
returns-in-Some-clause-wrote g c =
    let at : StartsAt (read_as c.args.fetched) c.args.start (c.args.fetched.mark ≡ None) c.in-Ok.start = record { is_start = c.in-Ok.ensures.start; canonical = c.first_missing.ensures.right.canonical } in
    Writes-purged (IsPlaced c.args.fetched.entries) c.args.bound.now.tables c.args.name (read_as c.args.fetched) c.args.start (c.args.fetched.mark ≡ None) c.in-Ok.start c.in-Some.missing _ at c.in-Some.ensures.missing

pub returns-in-Err-clause-wrote : goal.returns-in-Err-clause-wrote
returns-in-Err-clause-wrote g c =
    let at : StartsAt (read_as c.args.fetched) c.args.start (c.args.fetched.mark ≡ None) c.in-Ok.start = record { is_start = c.in-Ok.ensures.start; canonical = c.first_missing.ensures.right.canonical } in
    let d = rw c.as_slice-entries.ensures at c.due_entries-due.ensures in
    subst (λ x. Writes (g.O.Sink.sent c.args.output.now) (g.O.Sink.sent c.send_entries.new.output) (IsStreamedFrom (IsPlaced c.args.fetched.entries) c.args.bound.now.tables c.args.name (read_as c.args.fetched) c.args.start (c.args.fetched.mark ≡ None) x)) (sym c.refused.ensures.status)
    (Writes-refused (IsPlaced c.due_entries-due.result.entries.now) (IsPlaced c.args.fetched.entries) d.placed c.args.bound.now.tables c.args.name (read_as c.args.fetched) c.args.start (c.args.fetched.mark ≡ None) c.in-Ok.start (entries_of c.due_entries-due.result.entries.now) c.in-Err.end _ _ at c.in_default-first_missing.ensures.missing d.due.due c.in-Err.ensures.wrote)

pub returns-clause-wrote : goal.returns-clause-wrote
returns-clause-wrote g c =
    let at : StartsAt (read_as c.args.fetched) c.args.start (c.args.fetched.mark ≡ None) c.in-Ok.start = record { is_start = c.in-Ok.ensures.start; canonical = c.first_missing.ensures.right.canonical } in
    let d = rw c.as_slice-entries.ensures at c.due_entries-due.ensures in
    let ends = subst (λ x. IsEndOf c.args.name (read_as c.args.fetched) c.in-Ok.start x) (sym c.end_of.ensures.status) (end_is c.args.name (read_as c.args.fetched) c.in-Ok.start c.due_entries-due.result.stop (read_as c.args.fetched).fault _ refl d.due.stop refl) in
    Writes-ended (IsPlaced c.due_entries-due.result.entries.now) (IsPlaced c.args.fetched.entries) d.placed c.args.bound.now.tables c.args.name (read_as c.args.fetched) c.args.start (c.args.fetched.mark ≡ None) c.in-Ok.start (entries_of c.due_entries-due.result.entries.now) c.end_of.result _ _ at c.in_default-first_missing.ensures.missing d.due.due ends c.in-Ok-send_entries.ensures.wrote

pub returns-in-Some-clause-due : goal.returns-in-Some-clause-due
returns-in-Some-clause-due g c =
    let at : StartsAt (read_as c.args.fetched) c.args.start (c.args.fetched.mark ≡ None) c.in-Ok.start = record { is_start = c.in-Ok.ensures.start; canonical = c.first_missing.ensures.right.canonical } in
    ◌⊎◌.inr (asks_purged (IsPlaced c.args.fetched.entries) c.args.bound.now.tables c.args.name (read_as c.args.fetched) c.args.start (c.args.fetched.mark ≡ None) c.in-Ok.start c.in-Some.missing at c.in-Ok.ensures.fits c.in-Some.ensures.missing)

pub returns-in-Err-clause-due : goal.returns-in-Err-clause-due
returns-in-Err-clause-due g c =
    let at : StartsAt (read_as c.args.fetched) c.args.start (c.args.fetched.mark ≡ None) c.in-Ok.start = record { is_start = c.in-Ok.ensures.start; canonical = c.first_missing.ensures.right.canonical } in
    let d = rw c.as_slice-entries.ensures at c.due_entries-due.ensures in
    subst (λ x. IsBroughtOf (read_as c.args.fetched) c.args.start x ⊎ LogAsksFor (IsPlaced c.args.fetched.entries) c.args.bound.now.tables c.args.name (read_as c.args.fetched) c.args.start x) (sym c.refused.ensures.status)
    (refused_due (IsPlaced c.due_entries-due.result.entries.now) (IsPlaced c.args.fetched.entries) d.placed c.args.bound.now.tables c.args.name (read_as c.args.fetched) c.args.start (c.args.fetched.mark ≡ None) c.in-Ok.start c.in-Err.end at c.in-Ok.ensures.fits c.in_default-first_missing.ensures.missing
    (λ h. subst (λ es. IsTooLargeAlong c.in-Ok.start (sendable_front c.args.bound.now.tables c.args.name es)) d.due.due (c.in-Err.ensures.large (ap (λ x. Err x) h)))
    (λ place bytes h. subst (λ es. StopsAtOversized (IsPlaced c.due_entries-due.result.entries.now) c.args.bound.now.tables c.args.name c.in-Ok.start es place bytes) d.due.due (c.in-Err.ensures.oversized place bytes (ap (λ x. Err x) h))))

pub returns-clause-due : goal.returns-clause-due
returns-clause-due g c =
    let at : StartsAt (read_as c.args.fetched) c.args.start (c.args.fetched.mark ≡ None) c.in-Ok.start = record { is_start = c.in-Ok.ensures.start; canonical = c.first_missing.ensures.right.canonical } in
    let d = rw c.as_slice-entries.ensures at c.due_entries-due.ensures in
    let ends = subst (λ x. IsEndOf c.args.name (read_as c.args.fetched) c.in-Ok.start x) (sym c.end_of.ensures.status) (end_is c.args.name (read_as c.args.fetched) c.in-Ok.start c.due_entries-due.result.stop (read_as c.args.fetched).fault _ refl d.due.stop refl) in
    let all = subst (λ es. AreSendable c.args.bound.now.tables c.args.name es) d.due.due c.in-Ok-send_entries.ensures.sendable in
    let fits = subst (λ es. FitAlong c.in-Ok.start es) d.due.due c.in-Ok-send_entries.ensures.fits in
    ◌⊎◌.inr (due_end (IsPlaced c.args.fetched.entries) c.args.bound.now.tables c.args.name (read_as c.args.fetched) c.args.start (c.args.fetched.mark ≡ None) c.in-Ok.start c.end_of.result at c.in-Ok.ensures.fits c.in_default-first_missing.ensures.missing all fits ends)
