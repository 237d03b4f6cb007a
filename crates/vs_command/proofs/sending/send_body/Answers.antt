use Rattle.std.proofs.Common.{◌≡◌, ◌∙◌, ◌++◌, ap, subst}
use Rattle.vs_gtid.specs.Joins.{added}
use Rattle.vs_gtid.specs.Positions.{IsCanonical}
use Rattle.vs_render.specs.Bodies.{frame_with}
use Rattle.vs_render.specs.Events.{head_of}
use Rattle.vs_command.specs.Sending.{vector_at}
use Rattle.vs_command.proofs.SendLemmas.{Writes-part, Writes-whole}
use Rattle.vs_command.proofs.sending.send_body.Goals as goal

pub returns-in-Ok-write_all-clause-wrote : goal.returns-in-Ok-write_all-clause-wrote
returns-in-Ok-write_all-clause-wrote g c =
    let grown : c.add.new.self ≡ added c.args.position.now c.args.entry.now.gtid = c.in-Ok.ensures.ok in
    let canonical : IsCanonical (added c.args.position.now c.args.entry.now.gtid) = subst IsCanonical grown c.in-Ok.ensures.position.canonical in
    let added_to = ap (λ l. l ++ frame_with (head_of c.args.name.now c.args.entry.now.time) (vector_at c.args.name.now c.add.new.self) c.args.body.now.body) c.clear.ensures.items in
    let moved = ap (λ q. frame_with (head_of c.args.name.now c.args.entry.now.time) (vector_at c.args.name.now q) c.args.body.now.body) grown in
    Writes-whole _ _ c.as_slice.result.now c.args.position.now c.args.entry.now.gtid _ _ (c.in-Ok-put_frame_of.ensures ∙ added_to ∙ moved) c.as_slice.ensures.value canonical c.in-Ok-write_all.ensures.wrote

pub returns-in-Err-write_all-clause-wrote : goal.returns-in-Err-write_all-clause-wrote
returns-in-Err-write_all-clause-wrote g c =
    let grown : c.add.new.self ≡ added c.args.position.now c.args.entry.now.gtid = c.in-Ok.ensures.ok in
    let canonical : IsCanonical (added c.args.position.now c.args.entry.now.gtid) = subst IsCanonical grown c.in-Ok.ensures.position.canonical in
    let added_to = ap (λ l. l ++ frame_with (head_of c.args.name.now c.args.entry.now.time) (vector_at c.args.name.now c.add.new.self) c.args.body.now.body) c.clear.ensures.items in
    let moved = ap (λ q. frame_with (head_of c.args.name.now c.args.entry.now.time) (vector_at c.args.name.now q) c.args.body.now.body) grown in
    Writes-part _ _ c.as_slice.result.now c.args.position.now c.args.entry.now.gtid _ _ (c.in-Ok-put_frame_of.ensures ∙ added_to ∙ moved) c.as_slice.ensures.value canonical c.in-Err-write_all.ensures.wrote
