use Rattle.std.proofs.lemmas.Result.{err_from_is_err_and}
use Rattle.vs_show.proofs.PieceLemmas.{next-stop, next-too_long, next-whole}
use Rattle.vs_show.proofs.frames.put_next.Goals as goal

pub returns-in_ok-put_message-in-Ok-Some-clause-puts : goal.returns-in_ok-put_message-in-Ok-Some-clause-puts
returns-in_ok-put_message-in-Ok-Some-clause-puts c =
    let gives = rw c.in-Ok-Some.field-0-is at c.in-Ok-Some.ensures in
    next-whole c.args.number c.args.framer.now.bytes c.in-Ok-Some.message c.next_frame.new.self.bytes c.args.text.now.items c.put_message.new.text.items
    c.as_bytes.result.now c.as_bytes.ensures gives.1 c.in_ok-put_message-in-Ok-Some.ensures

pub returns-in_err-put_message-in-Ok-Some-clause-puts : goal.returns-in_err-put_message-in-Ok-Some-clause-puts
returns-in_err-put_message-in-Ok-Some-clause-puts c =
    let p = err_from_is_err_and c.from_residual.result c.from_residual.ensures.1 in
    let gives = rw c.in-Ok-Some.field-0-is at c.in-Ok-Some.ensures in
    rw (p.1, p.2)
    (next-stop c.args.number c.args.framer.now.bytes c.in-Ok-Some.message c.next_frame.new.self.bytes c.args.text.now.items c.put_message.new.text.items
    c.as_bytes.result.now c.in_err-put_message-in-Ok-Some.field-0.0 c.as_bytes.ensures gives.1 c.in_err-put_message-in-Ok-Some.ensures)

pub returns-in-Err-FrameTooLong-clause-puts : goal.returns-in-Err-FrameTooLong-clause-puts
returns-in-Err-FrameTooLong-clause-puts c =
    let gives = rw c.in-Err-FrameTooLong.field-0-is at c.in-Err-FrameTooLong.ensures in
    next-too_long c.args.number c.args.framer.now c.next_frame.new.self c.args.text.now.items _ c.requires gives
