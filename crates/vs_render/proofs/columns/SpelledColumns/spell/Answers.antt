use Rattle.std.proofs.Common.{rules, ◌≡◌, ◌++◌, [], List, ℕ, true, length, map, refl, ap, ◌∙◌, append_assoc}
use Rattle.vs_proto.specs.Kinds.{if_any}
use Rattle.vs_proto.specs.Shapes.{all_set, values_bytes}
use Rattle.vs_proto.specs.Tables.{field}
use Rattle.vs_proto.specs.declared.event_kind.TheConstants.{FIELD}
use Rattle.vs_render.specs.Bodies.{columns_in}
use Rattle.vs_render.specs.Events.{field_of, head_of, table_name}
use Rattle.vs_render.specs.Spelling.{event_start}
use Rattle.vs_render.proofs.EventLemmas.{columns_put}
use Rattle.vs_render.proofs.columns.SpelledColumns.spell.Goals as goal

pub returns : goal.returns
returns c =
    let begin : List ℕ = event_start (head_of c.args.name.now c.args.time) FIELD in
    let named : List ℕ = values_bytes 1 (if_any (table_name c.args.name.now.keyspace c.args.table.now)) in
    let fields : List ℕ = values_bytes 2 (all_set (field true) (map field_of (columns_in c.args.bound.now.tables c.args.table.now))) in
    let started : c.put_start.new.out.items ≡ begin = c.in_ok-put_start.ensures ∙ ap (λ (bs : List ℕ). bs ++ begin) (c.in_ok-reserve.ensures.items ∙ c.clear.ensures.items) in
    let inside : c.len-inside.result ≡ length c.put_start.new.out.items = search rules in
    columns_put (head_of c.args.name.now c.args.time) c.args.table.now (columns_in c.args.bound.now.tables c.args.table.now) c.close_event.new.out.items
    (c.in_ok-close_event.ensures [] (named ++ fields) FIELD
    (c.in_ok-put_taken.ensures ∙ ap (λ (bs : List ℕ). bs ++ fields) (c.in_ok-put_table_name.ensures ∙ ap (λ (bs : List ℕ). bs ++ named) started) ∙ append_assoc begin named fields)
    refl (inside ∙ ap (λ (bs : List ℕ). length bs) started))
