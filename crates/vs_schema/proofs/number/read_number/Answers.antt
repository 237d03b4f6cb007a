use Rattle.std.proofs.Common.{◌≡◌, ◌∷◌, ℕ, List, suc, get_or, drop, ap, sym, ◌∙◌, arith, drop-cons}
use Rattle.vs_schema.specs.Kinds.{number_from}
use Rattle.vs_schema.proofs.NumberLemmas.{too_large}
use Rattle.vs_schema.proofs.number.read_number.Goals as goal

pub returns-then-number-limit : goal.returns-then-number-limit
returns-then-number-limit c =
    let text : List ℕ = c.args.text.now in
    let i : ℕ = c.loop-digit.digit-index in
    let cut : drop i text ≡ get_or text i 0 ∷ drop (suc i) text = drop-cons text i 0 (omega arith) in
    sym (too_large c.args.limit _ text (drop (suc i) text) c.if-number-limit.true (sym (ap (number_from c.loop-digit.number) cut) ∙ c.loop-digit.invariant.same))
