use Rattle.std.proofs.Common.{◌≡◌, ◌<◌, ◌+◌, ◌-◌, ℕ, List, take, drop, ap, sym, subst, ◌∙◌, arith}
use Rattle.std.proofs.lemmas.List.{drop-take}
use Rattle.vs_gtid.specs.declared.part.Part.{Part}
use Rattle.vs_gtid.specs.declared.part.Part.TheVariants.{UuidText}
use Rattle.vs_gtid.specs.Parts.{in_uuid, next, IsWithin}
use Rattle.vs_gtid.proofs.part.Part.next.Goals as goal

-- the bytes from a place to another
between : (text : List ℕ) (from at : ℕ) → from < at → take (at - from) (drop from text) ≡ drop from (take at text)
between text from at h =
    let n : from + (at - from) ≡ at = omega arith in
    sym (drop-take from (at - from) text) ∙ ap (λ (k : ℕ). drop from (take k text)) n

pub returns-in-UuidText-clause-next : goal.returns-in-UuidText-clause-next
returns-in-UuidText-clause-next c =
    let from = c.in-UuidText.from in
    let w : IsWithin c.args.at (UuidText from) = subst (λ (p : Part). IsWithin c.args.at p) c.in-UuidText.is c.requires.within in
    c.in_uuid.ensures.uuid
    ∙ (ap (λ (t : List ℕ). in_uuid t from c.args.byte) (between c.args.text.now from c.args.at w.0)
    ∙ ap (λ (p : Part). next (take c.args.at c.args.text.now) p c.args.byte) (sym c.in-UuidText.is))
