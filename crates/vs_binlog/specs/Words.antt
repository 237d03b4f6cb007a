-- The first word of a statement, behind blanks and comments.
use Rattle.std.specs.Prelude.{ℕ, ◌-◌, ◌==◌, Bool, true, false, ◌&&◌, ◌||◌, not, nat_le, if◌then◌else◌, List, [], ◌∷◌, map}
use Rattle.std.specs.List.{take_while}
pub use Rattle.vs_base.specs.Blanks.{is_blank}

abbrev pub is_between : ℕ → ℕ → ℕ → Bool
is_between low high c = nat_le low c && nat_le c high

abbrev pub is_word : ℕ → Bool
is_word c = is_between 48 57 c || (is_between 65 90 c || (is_between 97 122 c || c == 95))

abbrev pub upper : ℕ → ℕ
upper c = if is_between 97 122 c then c - 32 else c

abbrev pub begins_with : ℕ → List ℕ → Bool
begins_with x [] = false
begins_with x (c ∷ cs) = c == x

-- the text begins with `/*`, and not with `/*!`
abbrev pub opens_comment : List ℕ → Bool
opens_comment [] = false
opens_comment (c ∷ []) = false
opens_comment (c ∷ d ∷ cs) = c == 47 && (d == 42 && not (begins_with 33 cs))

-- the text begins with `*/`
abbrev pub closes_comment : List ℕ → Bool
closes_comment [] = false
closes_comment (c ∷ []) = false
closes_comment (c ∷ d ∷ cs) = c == 42 && d == 47

-- The text behind the blanks and the comments at its front; inside is true behind `/*`. A comment `/*!` stays.
abbrev pub behind : Bool → List ℕ → List ℕ
behind inside [] = []
behind true (c ∷ []) = []
behind true (c ∷ d ∷ cs) = if c == 42 && d == 47 then behind false cs else behind true (d ∷ cs)
behind false (c ∷ []) = if is_blank c then [] else c ∷ []
behind false (c ∷ d ∷ cs) =
    if is_blank c then behind false (d ∷ cs)
    else if c == 47 && (d == 42 && not (begins_with 33 cs)) then behind true cs
    else c ∷ d ∷ cs

-- the first word, as it stands there; it may be empty
abbrev pub word_in : List ℕ → List ℕ
word_in text = take_while is_word (behind false text)

-- the first word in upper case
abbrev pub first_word : List ℕ → List ℕ
first_word text = map upper (word_in text)
