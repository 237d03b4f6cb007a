-- Texts one behind the other.
use Rattle.std.proofs.Common.{◌≡◌, ◌++◌, ◌∙◌, ◌+◌, ◌<◌, ℕ, List, ap, sym, append_assoc, drop, get_or, length, map}
use Rattle.std.specs.List.{flat_map}
use Rattle.vs_journal.proofs.JudgeLemmas.{item_at}

-- the text of one more
pub one_more : {X Y : Type 0} (f : Y → List ℕ) (g : X → Y) (text all : List ℕ) (xs : List X) (i : ℕ) (x : X) → i < length xs → x ≡ get_or xs i x → text ++ flat_map f (map g (drop i xs)) ≡ all → (text ++ f (g x)) ++ flat_map f (map g (drop (i + 1) xs)) ≡ all
one_more f g text all xs i x within at was =
    append_assoc text (f (g x)) (flat_map f (map g (drop (i + 1) xs))) ∙ ap (λ ys. text ++ flat_map f (map g ys)) (sym (item_at xs i x within at)) ∙ was
