-- The tokens of a journal text, each with its place.
use Rattle.std.specs.Prelude.{ℕ, zero, suc, ◌-◌, Bool, true, false, not, ◌&&◌, ◌||◌, ◌==◌, nat_le, List, [], ◌∷◌, length, drop, Option, Some, None, Result, Ok, Err}
use Rattle.std.specs.List.{take_while, prefix_len, list_all}
use Rattle.vs_base.specs.Blanks.{is_blank}
use Rattle.vs_base.specs.Numbers.{is_digit, small_value}
use Rattle.vs_journal.specs.Escapes.{escape_at}
use Rattle.vs_journal.specs.declared.escape.Escape.{Escape}
use Rattle.vs_journal.specs.declared.escape.Escape.TheVariants.{Stands, Unknown, Cut}
use Rattle.vs_journal.specs.declared.token.Bracket.TheVariants.{Curly, Angle}
use Rattle.vs_journal.specs.declared.token.Token.{Token}
use Rattle.vs_journal.specs.declared.token.Token.TheVariants.{Word, Number, Bytes, Colon, Comma, Semicolon, OpenList, CloseList, Open, Close, Wrong, Faulty}

-- letters, digits and `_`
abbrev pub is_identifier_byte : ℕ → Bool
is_identifier_byte c = (nat_le 0x41 c && nat_le c 0x5A) || ((nat_le 0x61 c && nat_le c 0x7A) || (is_digit c || c == 0x5F))

-- Whether a byte belongs to a gap between tokens, and whether a comment is open behind it. A comment goes from `#` to the line's end.
abbrev pub gap_behind : Bool → ℕ → Option Bool
gap_behind true c = Some (not (c == 0x0A))
gap_behind false c = elim (c == 0x23) [ true ↦ Some true | false ↦ elim (is_blank c) [ true ↦ Some false | false ↦ None ] ]

-- a text without the gap that it begins with
abbrev pub past_gap : Bool → List ℕ → List ℕ
past_gap comment [] = []
past_gap comment (c ∷ cs) = elim (gap_behind comment c) [ None ↦ c ∷ cs | Some more ↦ past_gap more cs ]

-- a run of letters, digits and `_` that begins with a digit is a number where it is digits alone
abbrev pub number_token : Bool → List ℕ → Token
number_token negative run = elim (list_all is_digit run && nat_le 1 (length run)) [ true ↦ Number negative (small_value run) | false ↦ Wrong ]

-- a text without the longest run of letters, digits and `_`
abbrev pub past_run : List ℕ → List ℕ
past_run text = drop (prefix_len is_identifier_byte text) text

-- that run, made into a token, and the text behind it
abbrev pub run_token : (List ℕ → Token) → List ℕ → Token × List ℕ
run_token make text = (make (take_while is_identifier_byte text), past_run text)

abbrev pub with_first : ℕ → Result (List ℕ × List ℕ) ℕ → Result (List ℕ × List ℕ) ℕ
with_first c (Ok p) = Ok (c ∷ p.0, p.1)
with_first c (Err left) = Err left

-- behind a backslash, of which this much of the text is left
abbrev pub escaped : ℕ → Escape → (ℕ → Result (List ℕ × List ℕ) ℕ) → Result (List ℕ × List ℕ) ℕ
escaped left (Stands value width) more = with_first value (more width)
escaped left Unknown more = Err left
escaped left Cut more = Err 0

-- The bytes of a string up to its closing quote, and the text behind it; or how much of the text is left where it is no string:
-- at the backslash of an unknown escape, or at the text's end. The first so many bytes are passed over, as those of an escape.
abbrev pub string_from : ℕ → ℕ → List ℕ → Result (List ℕ × List ℕ) ℕ
string_from quote skip [] = Err 0
string_from quote (suc skip) (c ∷ cs) = string_from quote skip cs
string_from quote zero (c ∷ cs) =
    elim (c == quote) [
      | true ↦ Ok ([], cs)
      | false ↦
          elim (c == 0x5C) [
            | true ↦ escaped (length (c ∷ cs)) (escape_at cs) (λ width. string_from quote width cs)
            | false ↦ with_first c (string_from quote zero cs)
          ]
    ]

abbrev pub string_token : Result (List ℕ × List ℕ) ℕ → Token × List ℕ
string_token (Ok p) = (Bytes p.0, p.1)
string_token (Err left) = (Faulty left, [])

-- the token of one byte
abbrev pub mark_of : ℕ → Token
mark_of c =
    elim (c == 0x3A) [
      | true ↦ Colon
      | false ↦
          elim (c == 0x2C) [
            | true ↦ Comma
            | false ↦
                elim (c == 0x3B) [
                  | true ↦ Semicolon
                  | false ↦
                      elim (c == 0x5B) [
                        | true ↦ OpenList
                        | false ↦
                            elim (c == 0x5D) [
                              | true ↦ CloseList
                              | false ↦
                                  elim (c == 0x7B) [
                                    | true ↦ Open Curly
                                    | false ↦
                                        elim (c == 0x7D) [
                                          | true ↦ Close Curly
                                          | false ↦
                                              elim (c == 0x3C) [
                                                | true ↦ Open Angle
                                                | false ↦
                                                    elim (c == 0x3E) [ true ↦ Close Angle | false ↦ Wrong ]
                                              ]
                                        ]
                                  ]
                            ]
                      ]
                ]
          ]
    ]

-- the token with which a text begins that has no gap in front, and the text behind it
abbrev pub token_at : ℕ → List ℕ → Token × List ℕ
token_at c cs =
    elim (c == 0x22 || c == 0x27) [
      | true ↦ string_token (string_from c zero cs)
      | false ↦
          elim (c == 0x2D) [
            | true ↦ run_token (number_token true) (past_gap false cs)
            | false ↦
                elim (is_digit c) [
                  | true ↦ run_token (number_token false) (c ∷ cs)
                  | false ↦
                      elim (is_identifier_byte c) [ true ↦ run_token Word (c ∷ cs) | false ↦ (mark_of c, cs) ]
                ]
          ]
    ]

-- how much of a text is left at a token that begins with so much left; what is no string shows further on
abbrev pub place_left : Token → ℕ → ℕ
place_left (Faulty left) here = left
place_left token here = here

-- the next token of a text, behind how much of the text is left there, and before the text behind it
abbrev pub NextToken : Type 0
NextToken = ℕ × (Token × List ℕ)

abbrev pub placed_token : ℕ → Token × List ℕ → NextToken
placed_token here cut = (place_left cut.0 here, cut)

abbrev pub token_in : List ℕ → Option NextToken
token_in [] = None
token_in (c ∷ cs) = Some (placed_token (length (c ∷ cs)) (token_at c cs))

abbrev pub next_token : List ℕ → Option NextToken
next_token text = token_in (past_gap false text)

-- a token with its place in a text of so many bytes, and the tokens behind it
abbrev pub with_token : ℕ → Option NextToken → (List ℕ → List (ℕ × Token)) → List (ℕ × Token)
with_token size None more = []
with_token size (Some next) more = (size - next.0, next.1.0) ∷ more next.1.1

-- the tokens of the last bytes of a text of so many bytes, each with its place; at most so many
abbrev pub tokens_from : ℕ → ℕ → List ℕ → List (ℕ × Token)
tokens_from zero size text = []
tokens_from (suc n) size text = with_token size (next_token text) (tokens_from n size)

-- all of them: a text has no more tokens than bytes
abbrev pub tokens : List ℕ → List (ℕ × Token)
tokens text = tokens_from (length text) (length text) text
