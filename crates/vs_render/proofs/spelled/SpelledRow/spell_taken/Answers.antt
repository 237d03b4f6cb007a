use Rattle.std.proofs.Common.{rules, ◌≡◌, ◌++◌, [], List, ℕ, true, length, refl, ap, ◌∙◌, append_assoc}
use Rattle.std.specs.Option.{option_and_then, option_map}
use Rattle.vs_proto.specs.Kinds.{if_any}
use Rattle.vs_proto.specs.Shapes.{if_set, values_bytes}
use Rattle.vs_proto.specs.Tables.{row}
use Rattle.vs_proto.specs.declared.event_kind.TheConstants.{ROW}
use Rattle.vs_select.specs.Rows.{taken_row}
use Rattle.vs_wire.specs.Fields.{field_bytes, sized}
use Rattle.vs_render.specs.Events.{head_of, table_name}
use Rattle.vs_render.specs.Rendering.{taken_change}
use Rattle.vs_render.specs.Spelling.{event_start}
use Rattle.vs_vector.specs.Messages.{row_of}
use Rattle.vs_render.proofs.EventLemmas.{change_put}
use Rattle.vs_render.proofs.FieldLemmas.{behind_front}
use Rattle.vs_render.proofs.spelled.SpelledRow.spell_taken.Goals as goal

pub returns-clause-spelled : goal.returns-clause-spelled
returns-clause-spelled c =
    let begin : List ℕ = event_start (head_of c.args.name.now c.args.time) ROW in
    let named : List ℕ = values_bytes 1 (if_any (table_name c.args.name.now.keyspace c.args.change.now.table)) in
    let before : List ℕ = values_bytes 1 (if_set (row true) (option_map row_of (option_and_then (taken_row c.args.select.now) c.args.change.now.before))) in
    let after : List ℕ = values_bytes 2 (if_set (row true) (option_map row_of (option_and_then (taken_row c.args.select.now) c.args.change.now.after))) in
    let started : c.put_start.new.out.items ≡ begin = c.in_ok-put_start.ensures ∙ ap (λ (bs : List ℕ). bs ++ begin) (c.in_ok-reserve.ensures.items ∙ c.clear.ensures.items) in
    let inside : c.len-inside.result ≡ length c.put_start.new.out.items = search rules in
    let change_start : c.len-change_start.result ≡ length c.put_table_name.new.out.items = search rules in
    let with_name : c.put_table_name.new.out.items ≡ begin ++ named =
    c.in_ok-put_table_name.ensures ∙ ap (λ (bs : List ℕ). bs ++ values_bytes 1 (if_any (table_name c.args.name.now.keyspace c.as_bytes.result.now))) started ∙ ap (λ (t : List ℕ). begin ++ values_bytes 1 (if_any (table_name c.args.name.now.keyspace t))) c.as_bytes.ensures in
    let images : c.put_image-2.new.out.items ≡ c.put_table_name.new.out.items ++ (before ++ after) =
    c.in_ok-after.ensures.put ∙ ap (λ (bs : List ℕ). bs ++ after) c.in_ok-before.ensures.put ∙ append_assoc c.put_table_name.new.out.items before after in
    let changed : c.enclose.new.out.items ≡ begin ++ (named ++ field_bytes 2 (sized (before ++ after))) =
    behind_front (λ (bs : List ℕ). field_bytes 2 (sized bs)) c.put_table_name.new.out.items (before ++ after) c.put_image-2.new.out.items c.enclose.new.out.items c.len-change_start.result change_start images c.in_ok-enclose.ensures
    ∙ ap (λ (bs : List ℕ). bs ++ field_bytes 2 (sized (before ++ after))) with_name ∙ append_assoc begin named (field_bytes 2 (sized (before ++ after))) in
    change_put (head_of c.args.name.now c.args.time) (taken_change c.args.select.now c.args.change.now) c.close_event.new.out.items
    (c.in_ok-close_event.ensures [] (named ++ field_bytes 2 (sized (before ++ after))) ROW changed refl (inside ∙ ap (λ (bs : List ℕ). length bs) started))
