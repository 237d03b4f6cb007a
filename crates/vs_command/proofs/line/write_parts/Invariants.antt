use Rattle.std.proofs.Common.{◌≡◌, ◌≤◌, take}
use Rattle.vs_outside.specs.Told.{Writes}
use Rattle.vs_command.specs.Lines.{text_of}
use Rattle.vs_command.proofs.line.write_parts.Given as goal

abbrev pub invariant-loop-part : goal.invariant-loop-part
invariant-loop-part g l = record {
  wrote : Writes (g.O.Sink.sent l.fn.output) (g.O.Sink.sent l.output) (λ w. w ≡ text_of (take l.part-index l.parts));
  later : g.O.Sink.faults l.fn.output ≤ g.O.Sink.faults l.output;
}
