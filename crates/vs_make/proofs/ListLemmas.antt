-- Lists that grow piece by piece.
use Rattle.std.proofs.Common.{◌≡◌, ◌∙◌, ◌++◌, ℕ, List, ap, append_assoc}

-- a list to which four pieces were appended
pub four_appended : (before a b c d s1 s2 s3 s4 : List ℕ) → s1 ≡ before ++ a → s2 ≡ s1 ++ b → s3 ≡ s2 ++ c → s4 ≡ s3 ++ d → s4 ≡ before ++ (a ++ (b ++ (c ++ d)))
four_appended before a b c d s1 s2 s3 s4 e f g h =
    h ∙ (ap (λ z. z ++ d) (g ∙ ap (λ z. z ++ c) (f ∙ ap (λ z. z ++ b) e))
    ∙ (append_assoc ((before ++ a) ++ b) c d ∙ (append_assoc (before ++ a) b (c ++ d) ∙ append_assoc before a (b ++ (c ++ d)))))
