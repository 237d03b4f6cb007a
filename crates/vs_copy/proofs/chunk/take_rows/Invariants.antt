use Rattle.std.proofs.Common.{filter_map, option_map}
use Rattle.std.specs.Map.{values_of}
use Rattle.vs_base.specs.Keys.{project}
use Rattle.vs_copy.specs.Chunks.{told_row}
use Rattle.vs_copy.proofs.ChunkLemmas.{IsFilled}
use Rattle.vs_copy.proofs.chunk.take_rows.Given as goal

abbrev pub invariant-loop-row : goal.invariant-loop-row
invariant-loop-row l =
    IsFilled (filter_map (told_row l.table) (values_of l.fn.rows)) l.taken (option_map (project l.table.table.key) l.last) l.size
    (filter_map (told_row l.table) (values_of l.row-iterator))
