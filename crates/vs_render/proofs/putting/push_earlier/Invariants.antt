-- What is written, and what is still to be written from the place on, are all of it.
use Rattle.std.proofs.Common.{◌≡◌, ◌++◌, ◌+◌, drop, length, take}
use Rattle.std.specs.List.{flat_map}
use Rattle.vs_base.specs.Frames.{framed}
use Rattle.vs_render.specs.Bodies.{pieces, total_length}
use Rattle.vs_render.proofs.putting.push_earlier.Given as goal

abbrev pub invariant-loop-n : goal.invariant-loop-n
invariant-loop-n l =
    (l.place + total_length (drop l.n-index l.fn.lengths) ≡ total_length l.fn.lengths)
    × (l.out.items ++ flat_map framed (pieces (drop l.n-index l.fn.lengths) (drop l.place (l.fn.room.buf.bytes ++ l.fn.room.rest.items))) ≡ l.fn.out.items ++ flat_map framed (pieces l.fn.lengths (l.fn.room.buf.bytes ++ l.fn.room.rest.items)))
    × (take (length l.fn.out.items) l.out.items ≡ l.fn.out.items)
