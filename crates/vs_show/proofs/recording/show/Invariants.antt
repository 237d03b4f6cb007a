use Rattle.std.proofs.Common.{◌≡◌, ◌≤◌, ◌+◌, ◌-◌, None, length}
use Rattle.vs_frame.specs.Frames.{IsPart}
use Rattle.vs_outside.specs.Told.{Takes}
use Rattle.vs_show.proofs.ShowLemmas.{HasShown, OnTold}
use Rattle.vs_show.proofs.recording.show.Given as goal

-- what was shown so far, and how many bytes were taken
abbrev pub invariant-loop-taken : goal.invariant-loop-taken
invariant-loop-taken g l = record {
  shown : OnTold (g.I.Source.left l.fn.input) (g.I.Source.left l.input) (HasShown l.number l.framer.bytes (g.O.Sink.sent l.fn.output) (g.O.Sink.sent l.output));
  count : Takes (g.I.Source.left l.fn.input) (g.I.Source.left l.input) (λ t. length t ≡ l.taken);
  part : IsPart l.framer.bytes;
  fresh : l.framer.refused ≡ None;
  room : l.number + length l.framer.bytes ≤ l.taken + 1;
  bound : l.taken ≤ 4611686018427387904 + 65536;
  input_later : g.I.Source.faults l.fn.input ≤ g.I.Source.faults l.input;
  output_later : g.O.Sink.faults l.fn.output ≤ g.O.Sink.faults l.output;
}

abbrev pub decreases-loop-taken : goal.decreases-loop-taken
decreases-loop-taken g l = 4611686018427387904 - l.taken
