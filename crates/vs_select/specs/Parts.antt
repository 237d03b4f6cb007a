-- The parts of a select text, each with its place.
use Rattle.std.specs.Prelude.{ℕ, zero, suc, ◌+◌, ◌-◌, Bool, true, false, ◌&&◌, ◌||◌, ◌==◌, nat_eq, nat_le, List, [], ◌∷◌, length, drop, map, Option, Some, None, option_map}
use Rattle.std.specs.List.{take_while, prefix_len, list_all}
use Rattle.std.specs.Cmp.Lexicographic.{pointwise}
use Rattle.vs_base.specs.Numbers.{is_digit, small_value}
use Rattle.vs_select.specs.declared.select.Comparison.{Comparison}
use Rattle.vs_select.specs.declared.select.Comparison.TheVariants.{Equal, NotEqual, Less, AtMost, Greater, AtLeast}
use Rattle.vs_select.specs.declared.part.Part.{Part}
use Rattle.vs_select.specs.declared.part.Part.TheVariants.{Word, Quoted, Number, Bytes, Sign, Star, Comma, Wrong, Unclosed}
pub use Rattle.vs_base.specs.Blanks.{is_blank}

abbrev pub is_letter : ℕ → Bool
is_letter c = (nat_le 0x41 c && nat_le c 0x5A) || (nat_le 0x61 c && nat_le c 0x7A)

-- letters, digits and `_`
abbrev pub is_word_byte : ℕ → Bool
is_word_byte c = is_letter c || (is_digit c || c == 0x5F)

-- a text without the longest front whose bytes all pass
abbrev pub behind : (ℕ → Bool) → List ℕ → List ℕ
behind passes text = drop (prefix_len passes text) text

-- 1 to 19 digits are a number; all else is none
abbrev pub number_by : Bool → Option ℕ → Part
number_by negative None = Wrong
number_by negative (Some size) = Number negative size

abbrev pub number_of_run : Bool → List ℕ → Part
number_of_run negative run = elim (list_all is_digit run && (nat_le 1 (length run) && nat_le (length run) 19)) [ true ↦ number_by negative (small_value run) | false ↦ Wrong ]

-- the longest run of letters, digits and `_`, made into a part, and the text behind it
abbrev pub run_at : (List ℕ → Part) → List ℕ → Part × List ℕ
run_at make text = (make (take_while is_word_byte text), behind is_word_byte text)

-- the bytes up to the end of a quoted text, and the text behind that
abbrev pub with_byte : ℕ → Option (List ℕ × List ℕ) → Option (List ℕ × List ℕ)
with_byte c o = option_map (λ (p : List ℕ × List ℕ). (c ∷ p.0, p.1)) o

abbrev pub up_to_backquote : List ℕ → Option (List ℕ × List ℕ)
up_to_backquote [] = None
up_to_backquote (c ∷ cs) = elim (c == 0x60) [ true ↦ Some ([], cs) | false ↦ with_byte c (up_to_backquote cs) ]

-- Two quotes stand for one. The flag says that the byte before was a quote that stands for none so far.
abbrev pub up_to_quote : Bool → List ℕ → Option (List ℕ × List ℕ)
up_to_quote true [] = Some ([], [])
up_to_quote false [] = None
up_to_quote true (c ∷ cs) = elim (c == 0x27) [ true ↦ with_byte 0x27 (up_to_quote false cs) | false ↦ Some ([], c ∷ cs) ]
up_to_quote false (c ∷ cs) = elim (c == 0x27) [ true ↦ up_to_quote true cs | false ↦ with_byte c (up_to_quote false cs) ]

-- what isn't closed takes the whole text
abbrev pub closed : (List ℕ → Part) → Option (List ℕ × List ℕ) → Part × List ℕ
closed make None = (Unclosed, [])
closed make (Some p) = (make p.0, p.1)

-- the operators of two bytes, and those of one
abbrev pub long_sign : ℕ → ℕ → Option Comparison
long_sign c d =
    elim (c == 0x21 && d == 0x3D) [
      | true ↦ Some NotEqual
      | false ↦
          elim (c == 0x3C && d == 0x3E) [
            | true ↦ Some NotEqual
            | false ↦
                elim (c == 0x3C && d == 0x3D) [
                  | true ↦ Some AtMost
                  | false ↦
                      elim (c == 0x3E && d == 0x3D) [ true ↦ Some AtLeast | false ↦ None ]
                ]
          ]
    ]

abbrev pub short_sign : ℕ → Option Comparison
short_sign c =
    elim (c == 0x3D) [
      | true ↦ Some Equal
      | false ↦
          elim (c == 0x3C) [
            | true ↦ Some Less
            | false ↦
                elim (c == 0x3E) [ true ↦ Some Greater | false ↦ None ]
          ]
    ]

abbrev pub sign_part : Option Comparison → Part
sign_part None = Wrong
sign_part (Some by) = Sign by

abbrev pub sign_by : Option Comparison → ℕ → ℕ → List ℕ → Part × List ℕ
sign_by (Some by) c d cs = (Sign by, cs)
sign_by None c d cs = (sign_part (short_sign c), d ∷ cs)

-- the longest operator that stands there
abbrev pub sign_at : ℕ → List ℕ → Part × List ℕ
sign_at c [] = (sign_part (short_sign c), [])
sign_at c (d ∷ cs) = sign_by (long_sign c d) c d cs

-- the part with which a text begins that has no blank in front, and the text behind it
abbrev pub part_at : ℕ → List ℕ → Part × List ℕ
part_at c cs =
    elim (c == 0x60) [
      | true ↦ closed Quoted (up_to_backquote cs)
      | false ↦
          elim (c == 0x27) [
            | true ↦ closed Bytes (up_to_quote false cs)
            | false ↦
                elim (c == 0x2A) [
                  | true ↦ (Star, cs)
                  | false ↦
                      elim (c == 0x2C) [
                        | true ↦ (Comma, cs)
                        | false ↦
                            elim (c == 0x2D) [
                              | true ↦ run_at (number_of_run true) cs
                              | false ↦
                                  elim (is_digit c) [
                                    | true ↦ run_at (number_of_run false) (c ∷ cs)
                                    | false ↦
                                        elim (is_word_byte c) [ true ↦ run_at Word (c ∷ cs) | false ↦ sign_at c cs ]
                                  ]
                            ]
                      ]
                ]
          ]
    ]

-- how much of a text is left at a part that begins with so many bytes left; what isn't closed is missed at the text's end
abbrev pub left_at : Part → ℕ → ℕ
left_at Unclosed left = 0
left_at part left = left

-- the next part of a text, behind how much of the text is left there, and before the text behind it
abbrev pub Next : Type 0
Next = ℕ × (Part × List ℕ)

abbrev pub placed : ℕ → Part × List ℕ → Next
placed left part = (left_at part.0 left, part)

abbrev pub next_in : List ℕ → Option Next
next_in [] = None
next_in (c ∷ cs) = Some (placed (length (c ∷ cs)) (part_at c cs))

abbrev pub next_part : List ℕ → Option Next
next_part text = next_in (behind is_blank text)

-- a part with its place in a text of so many bytes, and the parts behind it
abbrev pub with_part : ℕ → Option Next → (List ℕ → List (ℕ × Part)) → List (ℕ × Part)
with_part size None more = []
with_part size (Some next) more = (size - next.0, next.1.0) ∷ more next.1.1

-- the parts of the last bytes of a text of so many bytes, each with its place; at most so many parts
abbrev pub parts_from : ℕ → ℕ → List ℕ → List (ℕ × Part)
parts_from zero size text = []
parts_from (suc n) size text = with_part size (next_part text) (parts_from n size)

-- all of them: a text has no more parts than bytes
abbrev pub parts : List ℕ → List (ℕ × Part)
parts text = parts_from (length text) (length text) text

abbrev pub lower : ℕ → ℕ
lower c = elim (nat_le 0x41 c && nat_le c 0x5A) [ true ↦ c + 0x20 | false ↦ c ]

-- the part is this keyword, in any case
abbrev pub is_keyword : List ℕ → Part → Bool
is_keyword keyword (Word w) = pointwise nat_eq (map lower w) keyword
is_keyword keyword part = false
