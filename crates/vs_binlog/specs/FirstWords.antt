-- Which first word a text has, by what stands in front of it.
use Rattle.std.specs.Prelude.{◌≡◌, ◌⊎◌, ℕ, Bool, true, false, ◌||◌, List, [], ◌∷◌, ◌++◌}
use Rattle.std.specs.List.{AllByRecursion, concat, list_all}
use Rattle.vs_binlog.specs.Words.{begins_with, closes_comment, is_blank, is_word}

-- `*/` stands somewhere in the text
abbrev pub has_end : List ℕ → Bool
has_end [] = false
has_end (c ∷ cs) = closes_comment (c ∷ cs) || has_end cs

-- a comment, whole: `/*`, no `!` behind it, and all up to the first `*/`
pub record IsComment (text : List ℕ) : Type 0 where
  pub inner : List ℕ
  pub are : text ≡ 47 ∷ 42 ∷ (inner ++ 42 ∷ 47 ∷ [])
  pub plain : begins_with 33 inner ≡ false
  pub first : has_end (inner ++ 42 ∷ []) ≡ false

pub record IsBlank (text : List ℕ) : Type 0 where
  pub byte : ℕ
  pub are : text ≡ byte ∷ []
  pub blank : is_blank byte ≡ true

-- what may stand in front of a first word
abbrev pub IsSkipped : List ℕ → Type 0
IsSkipped text = IsBlank text ⊎ IsComment text

abbrev pub begins_word : List ℕ → Bool
begins_word [] = false
begins_word (c ∷ cs) = is_word c

-- The text is blanks and comments, as many as stand there, then the word, which goes on for as long as its letters do, and a rest.
pub record IsFirstWord (text word : List ℕ) : Type 0 where
  pub skipped : List (List ℕ)
  pub rest : List ℕ
  pub are : text ≡ concat skipped ++ (word ++ rest)
  pub each : AllByRecursion IsSkipped skipped
  pub letters : list_all is_word word ≡ true
  pub ends : begins_word rest ≡ false
  pub none_left : (part more : List ℕ) → IsSkipped part → word ++ rest ≡ part ++ more → ⊥
