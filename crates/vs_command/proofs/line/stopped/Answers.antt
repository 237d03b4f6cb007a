use Rattle.std.proofs.Common.{append_assoc, append-nil}
use Rattle.std.proofs.Math.Facts.{to_z-of_z}
use Rattle.vs_command.proofs.line.stopped.Goals as goal

pub returns : goal.returns
returns c = rw (to_z-of_z c.ranges.id, c.as_bytes.ensures, c.as_bytes-2.ensures) (simp (append_assoc, append-nil))
