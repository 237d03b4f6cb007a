use Rattle.std.proofs.Common.{◌∙◌, ap, length, zero-add}
use Rattle.vs_wire.specs.Fields.{fields_from, placed, spelled, then_from}
use Rattle.vs_wire.proofs.SpellingLemmas.{fields_from-spelled}
use Rattle.vs_wire.proofs.fields.law_fields.Goals as goal

pub returns : goal.returns
returns c = λ fs after all.
    fields_from-spelled 0 fs after all ∙ ap (λ n. then_from (placed 0 fs) (fields_from n after)) (zero-add (length (spelled fs)))
