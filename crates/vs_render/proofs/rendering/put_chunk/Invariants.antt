use Rattle.std.proofs.Common.{◌≡◌, ◌++◌, drop, map}
use Rattle.vs_render.specs.Bodies.{columns_in}
use Rattle.vs_render.specs.Events.{Changed, chunk_said, copied_row, head_of}
use Rattle.vs_render.specs.Spelling.{said_bytes}
use Rattle.vs_render.proofs.rendering.put_chunk.Given as goal

-- what is written and the rows that are still to come are all of it
abbrev pub invariant-loop-row : goal.invariant-loop-row
invariant-loop-row l =
    said_bytes (head_of l.fn.name l.fn.time) (chunk_said (columns_in l.fn.bound.tables) l.fn.table l.fn.rows)
    ≡ l.out.items ++ said_bytes (head_of l.fn.name l.fn.time) (map (λ row. Changed (copied_row l.fn.table row)) (drop l.row-index l.fn.rows))
