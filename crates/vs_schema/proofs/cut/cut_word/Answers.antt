use Rattle.std.proofs.Common.{◌≡◌, ◌+◌, ◌-◌, ◌∷◌, ℕ, List, length, take, drop, ap, sym, ◌∙◌, arith, length-drop}
use Rattle.std.proofs.lemmas.List.{take_all}
use Rattle.vs_schema.specs.Lines.{words_of, is_space}
use Rattle.vs_schema.proofs.CutLemmas.{next_word, position_some}
use Rattle.vs_schema.proofs.cut.cut_word.Goals as goal

pub returns-in-Some : goal.returns-in-Some
returns-in-Some c =
    let text : List ℕ = c.args.text.now in
    let n : ℕ = c.in-Some.at in
    let at = position_some is_space text n (sym c.in-Some.ensures) in
    let rest : take (length text - (n + 1)) (drop (n + 1) text) ≡ drop (n + 1) text = take_all _ _ (omega (arith, length-drop (n + 1) text)) in (
      next_word text n (sym c.in-Some.ensures) ∙ ap (λ r. take n text ∷ words_of r) (sym rest),
      omega (arith, at.0, at.1, ap length rest, length-drop (n + 1) text),
    )
