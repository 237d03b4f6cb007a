use Rattle.std.proofs.Common.{◌++◌, ◌+◌, true, drop, map}
use Rattle.vs_proto.specs.Shapes.{all_set, values_bytes}
use Rattle.vs_proto.specs.Tables.{field}
use Rattle.vs_render.specs.Events.{field_of}
use Rattle.vs_render.proofs.EventLemmas.{column_more}
use Rattle.vs_render.proofs.TakeLemmas.{next_item}
use Rattle.vs_render.proofs.columns.put_columns.Goals as goal

pub loop-column-preserved : goal.loop-column-preserved
loop-column-preserved c =
    column_more c.column-item.result (drop c.loop-column.column-index c.args.columns.now) (drop (c.loop-column.column-index + 1) c.args.columns.now)
    (c.args.out.now.items ++ values_bytes 2 (all_set (field true) (map field_of c.args.columns.now))) c.loop-column.out.items c.put_column.new.out.items
    c.loop-column.invariant (next_item c.args.columns.now c.loop-column.column-index c.column-item.result c.loop-column-test.true c.column-item.is) c.in_ok-put_column.ensures
