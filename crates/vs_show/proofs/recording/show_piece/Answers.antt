use Rattle.std.proofs.Common.{ap}
use Rattle.vs_frame.specs.Frames.{Held}
use Rattle.vs_show.proofs.ShowLemmas.{piece-cut}
use Rattle.vs_show.proofs.recording.show_piece.Goals as goal

pub returns-in-Ok-put_frames-clause-shows : goal.returns-in-Ok-put_frames-clause-shows
returns-in-Ok-put_frames-clause-shows g c =
    piece-cut c.args.number c.in-Ok-put_frames.next _ c.feed.new.self.bytes c.put_frames.new.framer.bytes c.new-text.result.items c.put_frames.new.text.items c.deref.result.now _ _
    (ap (λ (h : Held). h.bytes) c.in-Ok.ensures.ok) c.new-text.ensures.items c.deref.ensures.value c.in-Ok-put_frames.ensures.puts c.in-Err.ensures.wrote
