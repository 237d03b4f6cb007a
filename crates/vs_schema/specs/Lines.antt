-- The lines of a text, and the words of a line.
use Rattle.std.specs.Prelude.{ℕ, ◌==◌, Bool, true, false, List, [], ◌∷◌, Option, Some, None}
use Rattle.std.specs.List.{slice_split}

abbrev pub is_line_feed : ℕ → Bool
is_line_feed c = c == 10

abbrev pub is_space : ℕ → Bool
is_space c = c == 32

-- the parts, but for an empty one at the end
abbrev pub without_empty_end : List (List ℕ) → List (List ℕ)
without_empty_end [] = []
without_empty_end ([] ∷ []) = []
without_empty_end ((c ∷ cs) ∷ []) = (c ∷ cs) ∷ []
without_empty_end (part ∷ next ∷ parts) = part ∷ without_empty_end (next ∷ parts)

-- the lines: each ends with a line feed, which the last may lack
abbrev pub lines_of : List ℕ → List (List ℕ)
lines_of text = without_empty_end (slice_split is_line_feed text)

-- the words: a space stands between each two
abbrev pub words_of : List ℕ → List (List ℕ)
words_of line = slice_split is_space line

-- the one word, where there is one
abbrev pub sole : List (List ℕ) → Option (List ℕ)
sole [] = None
sole (word ∷ []) = Some word
sole (word ∷ next ∷ words) = None

abbrev pub is_empty : List (List ℕ) → Bool
is_empty [] = true
is_empty (word ∷ words) = false
