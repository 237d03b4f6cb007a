use Rattle.std.proofs.Common.{rules, ◌≡◌, List, ℕ, length, map, refl}
use Rattle.std.specs.List.{flat_map}
use Rattle.vs_base.specs.Keys.{project}
use Rattle.vs_base.specs.Rows.{cell_bytes, cell_length}
use Rattle.vs_proto.specs.Kinds.{if_any, packed_bytes}
use Rattle.vs_proto.specs.Shapes.{values_bytes}
use Rattle.vs_render.proofs.EventLemmas.{row_put}
use Rattle.vs_render.proofs.FieldLemmas.{behind_front}
use Rattle.vs_render.proofs.spelled.put_row.Goals as goal

pub returns : goal.returns
returns c =
    let first : c.len-lengths.result ≡ length c.args.out.now.items = search rules in
    let second : c.len-values.result ≡ length c.enclose_any.new.out.items = search rules in
    row_put (project c.args.places.now c.args.cells.now) (packed_bytes (map cell_length (project c.args.places.now c.args.cells.now))) (flat_map cell_bytes (project c.args.places.now c.args.cells.now)) c.enclose_any.new.out.items c.enclose_any-2.new.out.items c.args.out.now.items refl refl
    (behind_front (λ (bs : List ℕ). values_bytes 1 (if_any bs)) c.args.out.now.items (packed_bytes (map cell_length (project c.args.places.now c.args.cells.now))) c.put_lengths.new.out.items c.enclose_any.new.out.items c.len-lengths.result first c.in_ok-put_lengths.ensures c.in_ok-enclose_any.ensures)
    (behind_front (λ (bs : List ℕ). values_bytes 2 (if_any bs)) c.enclose_any.new.out.items (flat_map cell_bytes (project c.args.places.now c.args.cells.now)) c.put_values.new.out.items c.enclose_any-2.new.out.items c.len-values.result second c.in_ok-put_values.ensures c.in_ok-enclose_any-2.ensures)
