use Rattle.tokio_util.specs.Codec.Next.{partial}
use Rattle.tokio_util.specs.Codec.LengthDelimited.{gives_frames}
use Rattle.tokio_util.proofs.CodecLemmas.Next.{Resumes_now}
use Rattle.vs_frame.proofs.CodecLemmas.{cut_whole}
use Rattle.vs_frame.proofs.FrameLemmas.{begins_alike}
use Rattle.vs_frame.proofs.codec.take_message.Goals as goal

pub unreachable-requires : goal.unreachable-requires
unreachable-requires c =
    let whole = c.requires.whole in
    let next = rw c.in-Ok-None.field-0-is at c.in-Ok-None.ensures.next in
    let unfinished = Resumes_now gives_frames c.args.codec.now c.args.buffer.now.items c.decode.new.self c.decode.new.src.items partial next.1 next.0 in
    rw (cut_whole c.args.codec.now c.args.buffer.now.items whole.0 whole.1 c.requires.waits whole.2) at unfinished

pub returns-in-Ok-Some-clause-frame : goal.returns-in-Ok-Some-clause-frame
returns-in-Ok-Some-clause-frame c =
    let whole = c.requires.whole in
    let next = rw (c.in-Ok-Some.field-0-is, cut_whole c.args.codec.now c.args.buffer.now.items whole.0 whole.1 c.requires.waits whole.2) at c.in-Ok-Some.ensures.next in
    begins_alike c.args.buffer.now.items whole.0 whole.1 _ _ whole.2 next.0 next.2
