use Rattle.std.proofs.Common.{rules, ◌≡◌, ◌++◌, List, ℕ, ap, ◌∙◌}
use Rattle.std.specs.Int.{cast_unsigned, w64}
use Rattle.vs_proto.specs.Kinds.{if_any, if_some}
use Rattle.vs_proto.specs.Shapes.{values_bytes}
use Rattle.vs_render.specs.Events.{type_number}
use Rattle.vs_render.proofs.EventLemmas.{column_put}
use Rattle.vs_render.proofs.columns.put_column.Goals as goal

pub returns : goal.returns
returns c =
    let number : c.cast_unsigned.result ≡ cast_unsigned w64 (type_number c.args.column.now.kind) = search rules in
    column_put c.args.column.now c.args.out.now.items c.put_text.new.out.items c.put_nonzero.new.out.items c.enclose.new.out.items c.len-start.result (search rules)
    (c.in_ok-put_text.ensures ∙ ap (λ (ts : List ℕ). c.args.out.now.items ++ values_bytes 1 (if_any ts)) c.as_bytes.ensures)
    (c.in_ok-put_nonzero.ensures ∙ ap (λ (n : ℕ). c.put_text.new.out.items ++ values_bytes 2 (if_some n)) number) c.in_ok-enclose.ensures
