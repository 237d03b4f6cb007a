-- Strings byte by byte.
use Rattle.std.proofs.Common.{◌≡◌, ◌++◌, ◌∙◌, ℕ, zero, suc, List, [], ◌∷◌, Result, Ok, Err, refl, ap, drop, append_assoc}
use Rattle.vs_journal.specs.Tokens.{string_from, with_first}

-- what was read behind what is in front of it
abbrev pub with_front : List ℕ → Result (List ℕ × List ℕ) ℕ → Result (List ℕ × List ℕ) ℕ
with_front front (Ok p) = Ok (front ++ p.0, p.1)
with_front front (Err left) = Err left

pub with_front_none : (r : Result (List ℕ × List ℕ) ℕ) → with_front [] r ≡ r
with_front_none (Ok p) = refl
with_front_none (Err left) = refl

pub with_front_more : (front : List ℕ) (c : ℕ) (r : Result (List ℕ × List ℕ) ℕ) → with_front front (with_first c r) ≡ with_front (front ++ c ∷ []) r
with_front_more front c (Err left) = refl
with_front_more front c (Ok p) = rw append_assoc refl

-- the bytes of an escape are passed over
pub skipped : (quote skip : ℕ) (text : List ℕ) → string_from quote skip text ≡ string_from quote zero (drop skip text)
skipped quote zero text = refl
skipped quote (suc skip) [] = refl
skipped quote (suc skip) (c ∷ cs) = skipped quote skip cs

pub with_front_escaped : (front : List ℕ) (value quote width : ℕ) (text : List ℕ) → with_front front (with_first value (string_from quote width text)) ≡ with_front (front ++ value ∷ []) (string_from quote zero (drop width text))
with_front_escaped front value quote width text = ap (λ r. with_front front (with_first value r)) (skipped quote width text) ∙ with_front_more front value (string_from quote zero (drop width text))
