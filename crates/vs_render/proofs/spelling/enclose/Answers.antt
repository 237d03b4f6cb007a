use Rattle.std.proofs.Common.{rules, ◌≡◌, ◌++◌, ◌-◌, drop, length, take, ℕ, ap, sym, ◌∙◌}
use Rattle.std.proofs.Math.Seq.{take-append_seam}
use Rattle.vs_wire.specs.Fields.{field_bytes, sized}
use Rattle.vs_render.proofs.FieldLemmas.{enclosed}
use Rattle.vs_render.proofs.spelling.enclose.Goals as goal

pub returns : goal.returns
returns c =
    let put : c.bring_forward.new.bytes ≡ take c.args.start c.args.out.now.items ++ field_bytes c.args.field (sized (drop c.args.start c.args.out.now.items)) =
    enclosed c.args.out.now.items c.put_varint-2.new.out.items c.bring_forward.new.bytes c.args.start c.args.field (length c.args.out.now.items - c.args.start) c.requires.within (search rules) (search rules) (search rules) in
    let count : c.put_varint-2.new.out.len ≡ length c.bring_forward.new.bytes = sym (c.bring_forward.ensures.len ∙ c.as_mut_slice.ensures.len) in
    ap (λ (n : ℕ). take n (c.bring_forward.new.bytes ++ drop (length c.bring_forward.new.bytes) c.put_varint-2.new.out.items)) count ∙ take-append_seam c.bring_forward.new.bytes (drop (length c.bring_forward.new.bytes) c.put_varint-2.new.out.items) ∙ put
