use Rattle.std.proofs.Common.{◌≡◌, ◌≤◌, ◌+◌, None, length}
use Rattle.vs_show.proofs.PieceLemmas.{HasPut}
use Rattle.vs_show.proofs.frames.put_frames.Given as goal

-- the lines of the frames so far were appended
abbrev pub invariant-loop-number : goal.invariant-loop-number
invariant-loop-number l = record {
  fresh : l.framer.refused ≡ None;
  room : l.number + length l.framer.bytes ≤ l.first + length l.fn.framer.bytes;
  has : HasPut l.first l.fn.framer.bytes l.fn.text.items l.number l.framer.bytes l.text.items;
}

abbrev pub decreases-loop-number : goal.decreases-loop-number
decreases-loop-number l = length l.framer.bytes
