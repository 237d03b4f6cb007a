use Rattle.std.proofs.Common.{◌∷◌, [], ◌∙◌, ◌≤◌, ◌<◌, ap, arith, length, sym}
use Rattle.std.specs.Prelude.{codes}
use Rattle.std.specs.String.{string_bytes}
use Rattle.vs_command.proofs.WordLemmas.{one_item, one_word}
use Rattle.vs_command.proofs.plain.is_show.Goals as goal

pub returns-in-len1 : goal.returns-in-len1
returns-in-len1 c =
    let long : 1 ≤ length c.args.words.now = omega arith in
    let short : length c.args.words.now < 2 = omega arith in
    let are = one_item string_bytes c.args.words.now c.command-item.result long short c.command-item.is ∙ ap (λ b. b ∷ []) (sym c.as_str.ensures.value) in
    one_word c.as_str.result.now _ (codes "show") c.eq.result are c.eq.ensures
