use Rattle.std.proofs.Common.{◌≡◌, ◌≤◌, take}
use Rattle.vs_outside.specs.Told.{Writes}
use Rattle.vs_log.specs.Laws.{FitAlong}
use Rattle.vs_command.specs.Sizes.{AreSendable}
use Rattle.vs_command.specs.Fetched.{entries_of}
use Rattle.vs_command.specs.Sending.{lacking, position_after}
use Rattle.vs_command.proofs.SendLemmas.{WroteFirst}
use Rattle.vs_command.proofs.sending.send_entries.Given as goal

-- the frames of the first entries that the start lacks were written, and the position is the one after them
abbrev pub invariant-loop-placed : goal.invariant-loop-placed
invariant-loop-placed g l = record {
  wrote : Writes (g.O.Sink.sent l.fn.output) (g.O.Sink.sent l.output) (WroteFirst l.bound.tables l.name l.start (lacking l.start (entries_of (take l.placed-index l.entries))));
  sendable : AreSendable l.bound.tables l.name (lacking l.start (entries_of (take l.placed-index l.entries)));
  fits : FitAlong l.start (lacking l.start (entries_of (take l.placed-index l.entries)));
  position : l.position ≡ position_after l.start (lacking l.start (entries_of (take l.placed-index l.entries)));
  later : g.O.Sink.faults l.fn.output ≤ g.O.Sink.faults l.output;
}
