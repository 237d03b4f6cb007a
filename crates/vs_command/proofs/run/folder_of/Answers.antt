use Rattle.std.proofs.Common.{◌≡◌, [], ◌∷◌, ap, ◌∙◌, arith, length, ◌≤◌, ◌<◌, sym}
use Rattle.std.specs.Prelude.{codes}
use Rattle.std.specs.String.{string_bytes}
use Rattle.std.proofs.lemmas.Slice.Eq.{bytes_eq-Decides}
use Rattle.vs_command.proofs.WordLemmas.{two_items}
use Rattle.vs_command.proofs.run.folder_of.Goals as goal

pub returns-then-eq : goal.returns-then-eq
returns-then-eq c =
    let long : 2 ≤ length c.args.words.now = omega arith in
    let short : length c.args.words.now < 3 = omega arith in
    let both = two_items string_bytes c.args.words.now c.command-item.result c.folder-item.result long short c.command-item.is c.folder-item.is in
    let command : string_bytes c.command-item.result ≡ codes "stream" =
    sym c.as_str.ensures.value ∙ (bytes_eq-Decides c.as_str.result.now (codes "stream")).0 (sym c.eq.ensures ∙ c.if-eq.true) in
    both ∙ ap (λ w. w ∷ (string_bytes c.folder-item.result ∷ [])) command ∙ ap (λ w. codes "stream" ∷ (w ∷ [])) (sym c.as_str-then-eq.ensures.value)
