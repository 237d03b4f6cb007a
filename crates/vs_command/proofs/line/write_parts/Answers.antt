use Rattle.std.proofs.Common.{take, drop, get_or, ◌+◌, ◌++◌, [], Err}
use Rattle.std.proofs.lemmas.Result.{err_from_is_err_and}
use Rattle.vs_command.specs.declared.line.Part.TheVariants.{Words}
use Rattle.vs_command.specs.Lines.{part_text, text_of}
use Rattle.vs_command.proofs.LineLemmas.{Writes-both, Writes-longer, text_of-split}
use Rattle.vs_command.proofs.line.write_parts.Goals as goal

pub returns-in_err-write_part-clause-wrote : goal.returns-in_err-write_part-clause-wrote
returns-in_err-write_part-clause-wrote g c =
    let p = err_from_is_err_and c.from_residual.result c.from_residual.ensures.1 in
    let none = Words (record { ref_ptr = (0, 0); now = [] }) in
    let front = text_of (take c.loop-part.part-index c.args.parts.now) in
    let part = part_text (get_or c.args.parts.now c.loop-part.part-index none) in
    let behind = text_of (drop (c.loop-part.part-index + 1) c.args.parts.now) in
    rw p.1 (Writes-longer (g.O.Sink.sent c.args.output.now) (g.O.Sink.sent c.write_part.new.output) (front ++ part) behind (text_of c.args.parts.now)
    (text_of-split c.args.parts.now c.loop-part.part-index none c.loop-part-test.true)
    (Writes-both (g.O.Sink.sent c.args.output.now) (g.O.Sink.sent c.loop-part.output) (g.O.Sink.sent c.write_part.new.output) front part (Err c.in_err-write_part.field-0.0)
    c.loop-part.invariant.wrote c.in_err-write_part.ensures.wrote))
