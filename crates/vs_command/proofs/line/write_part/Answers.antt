use Rattle.std.proofs.Common.{ap, sym, subst, ◌∙◌}
use Rattle.uuid.specs.Text.{hyphenated_text, lower}
use Rattle.vs_outside.specs.Told.{Writes}
use Rattle.vs_command.specs.Lines.{IsWritten, part_text}
use Rattle.vs_command.proofs.line.write_part.Goals as goal

pub returns-in-Server-clause-wrote : goal.returns-in-Server-clause-wrote
returns-in-Server-clause-wrote g c =
    subst (λ t. Writes (g.O.Sink.sent c.args.output.now) (g.O.Sink.sent c.write_all-in-Server.new.output) (IsWritten t c.write_all-in-Server.result))
    (c.as_bytes-in-Server.ensures.value ∙ c.encode_lower.ensures.text ∙ ap (hyphenated_text lower) (c.hyphenated-uuid.ensures ∙ c.from_bytes.ensures) ∙ sym (ap part_text c.in-Server.is))
    c.write_all-in-Server.ensures.wrote
