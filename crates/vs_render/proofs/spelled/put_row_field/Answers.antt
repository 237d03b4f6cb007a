use Rattle.std.proofs.Common.{rules, ◌≡◌, List, ℕ, true, length}
use Rattle.vs_base.specs.Keys.{project}
use Rattle.vs_proto.specs.Shapes.{spelling}
use Rattle.vs_proto.specs.Tables.{row}
use Rattle.vs_vector.specs.Messages.{row_of}
use Rattle.vs_wire.specs.Fields.{field_bytes, sized}
use Rattle.vs_render.proofs.FieldLemmas.{behind_front}
use Rattle.vs_render.proofs.spelled.put_row_field.Goals as goal

pub returns : goal.returns
returns c =
    let first : c.len-start.result ≡ length c.args.out.now.items = search rules in
    behind_front (λ (bs : List ℕ). field_bytes c.args.field (sized bs)) c.args.out.now.items (spelling (row true) (row_of (project c.args.places.now c.args.cells.now))) c.put_row.new.out.items c.enclose.new.out.items c.len-start.result first c.in_ok-put_row.ensures c.in_ok-enclose.ensures
