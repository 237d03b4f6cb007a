use Rattle.std.proofs.Common.{sym, ◌∙◌, length, [], refl}
use Rattle.std.proofs.lemmas.Bool.{eqb-true}
use Rattle.vs_wire.specs.Seen.{seen_value}
use Rattle.vs_wire.proofs.FieldLemmas.{fields_from-end, fields_from-next, fields_from-fault, take_rest}
use Rattle.vs_wire.proofs.fields.Fields.next_field.Goals as goal

pub returns-then-is_empty : goal.returns-then-is_empty
returns-then-is_empty c =
    let rest = c.self.inside.bytes.now in
    let gone = sym c.self.view_is ∙ fields_from-end c.self.inside.at rest (eqb-true (length rest) 0 (sym c.if-is_empty.ensures)) in
    (gone, gone)

pub returns-in-Ok : goal.returns-in-Ok
returns-in-Ok c =
    let bytes = c.self.inside.bytes.now in
    sym c.self.view_is
    ∙ fields_from-next c.self.inside.at bytes _ (c.in-Ok.number, seen_value c.in-Ok.value, c.in-Ok.taken) c.in-Ok.ensures.value (take_rest c.in-Ok.taken bytes)

pub returns-in-Err : goal.returns-in-Err
returns-in-Err c =
    let at = c.self.inside.at in (
      at,
      c.in-Err.flaw,
      c.new.ensures,
      sym c.self.view_is ∙ fields_from-fault at c.self.inside.bytes.now c.in-Err.flaw c.if-is_empty.ensures c.in-Err.ensures.value,
      fields_from-end at [] refl,
    )
