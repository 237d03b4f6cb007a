use Rattle.std.proofs.Common.{◌≡◌, ◌++◌, true, drop, map}
use Rattle.vs_proto.specs.Shapes.{all_set, values_bytes}
use Rattle.vs_proto.specs.Tables.{field}
use Rattle.vs_render.specs.Events.{field_of}
use Rattle.vs_render.proofs.columns.put_columns.Given as goal

-- the fields of the columns so far, and those of the others
abbrev pub invariant-loop-column : goal.invariant-loop-column
invariant-loop-column l =
    l.fn.out.items ++ values_bytes 2 (all_set (field true) (map field_of l.columns)) ≡ l.out.items ++ values_bytes 2 (all_set (field true) (map field_of (drop l.column-index l.columns)))
