-- Journal texts byte by byte: what may stand between two tokens, and how each token is spelled.
--   gap    = { blank | "#" { any byte but a line feed } line feed }
--   word   = letter { letter | digit }          `_` is a letter
--   number = [ "-" gap ] digit { digit }
--   string = quote { byte | "\" escape } quote
--   escape = '"' | "'" | "\" | "n" | "r" | "t" | "x" hex hex | octal [ octal [ octal ] ]
-- A word, a number and an octal escape are as long as their letters and digits go on.
use Rattle.std.specs.Prelude.{◌≡◌, ◌⊎◌, ◌≤◌, ◌+◌, ◌*◌, ◌-◌, ℕ, Bool, true, false, not, ◌==◌, List, [], ◌∷◌, ◌++◌, length, Option, Some}
use Rattle.std.specs.List.{list_all}
use Rattle.vs_base.specs.Blanks.{is_blank}
use Rattle.vs_base.specs.Numbers.{is_digit, small_value}
use Rattle.vs_journal.specs.Escapes.{hex_value, is_octal, simple_escape}
use Rattle.vs_journal.specs.Tokens.{is_identifier_byte}
use Rattle.vs_journal.specs.declared.token.Bracket.TheVariants.{Curly, Angle}
use Rattle.vs_journal.specs.declared.token.Token.{Token}
use Rattle.vs_journal.specs.declared.token.Token.TheVariants as token

-- ---- gaps

abbrev pub is_in_line : ℕ → Bool
is_in_line c = not (c == 0x0A)

abbrev pub IsBlank : List ℕ → Type 0
IsBlank text = (c : ℕ) × (text ≡ c ∷ []) × (is_blank c ≡ true)

-- a comment goes to its line's end
abbrev pub IsComment : List ℕ → Type 0
IsComment text = (line : List ℕ) × (text ≡ 0x23 ∷ (line ++ 0x0A ∷ [])) × (list_all is_in_line line ≡ true)

abbrev pub AreGapParts : List ℕ → List (List ℕ) → Type 0
AreGapParts text [] = text ≡ []
AreGapParts text (part ∷ parts) = (rest : List ℕ) × (text ≡ part ++ rest) × (IsBlank part ⊎ IsComment part) × AreGapParts rest parts

abbrev pub IsGap : List ℕ → Type 0
IsGap text = (parts : List (List ℕ)) × AreGapParts text parts

-- behind the last token the text may end within a comment
abbrev pub IsLastGap : List ℕ → Type 0
IsLastGap text = IsGap text ⊎ ((gap line : List ℕ) × (text ≡ gap ++ 0x23 ∷ line) × IsGap gap × (list_all is_in_line line ≡ true))

-- no gap goes on there
abbrev pub BeginsNoGap : List ℕ → Type 0
BeginsNoGap text = (c : ℕ) × (cs : List ℕ) × (text ≡ c ∷ cs) × (is_blank c ≡ false) × ((c == 0x23) ≡ false)

-- ---- words and numbers

-- no letter, digit or `_` stands there
abbrev pub EndsRun : List ℕ → Type 0
EndsRun [] = Unit {0}
EndsRun (c ∷ cs) = is_identifier_byte c ≡ false

abbrev pub IsWord : List ℕ → Type 0
IsWord text = (c : ℕ) × (cs : List ℕ) × (text ≡ c ∷ cs) × (is_digit c ≡ false) × (list_all is_identifier_byte text ≡ true)

abbrev pub AreDigits : List ℕ → Type 0
AreDigits text = (1 ≤ length text) × (list_all is_digit text ≡ true)

-- whether it is below zero, and how far from it where that is below 2^64
abbrev pub IsNumber : Bool → Option ℕ → List ℕ → Type 0
IsNumber false size text = AreDigits text × (small_value text ≡ size)
IsNumber true size text = (gap digits : List ℕ) × (text ≡ 0x2D ∷ (gap ++ digits)) × IsGap gap × AreDigits digits × (small_value digits ≡ size)

-- ---- strings

abbrev pub EndsOctal : List ℕ → Type 0
EndsOctal [] = Unit {0}
EndsOctal (c ∷ cs) = is_octal c ≡ false

-- one to three octal digits, as many as stand there, that are worth at most 255
abbrev pub IsOctal : List ℕ → ℕ → List ℕ → Type 0
IsOctal text value rest =
    ((a : ℕ) × (text ≡ a ∷ []) × (is_octal a ≡ true) × EndsOctal rest × (value ≡ a - 0x30))
    ⊎ (((a b : ℕ) × (text ≡ a ∷ b ∷ []) × (is_octal a ≡ true) × (is_octal b ≡ true) × EndsOctal rest × (value ≡ 8 * (a - 0x30) + (b - 0x30)))
    ⊎ ((a b c : ℕ) × (text ≡ a ∷ b ∷ c ∷ []) × (is_octal a ≡ true) × (is_octal b ≡ true) × (is_octal c ≡ true) × (value ≡ 64 * (a - 0x30) + (8 * (b - 0x30) + (c - 0x30))) × (value ≤ 255)))

-- what stands behind a backslash, before this rest, for this byte
abbrev pub IsEscape : List ℕ → ℕ → List ℕ → Type 0
IsEscape text value rest =
    ((c : ℕ) × (text ≡ c ∷ []) × (simple_escape c ≡ Some value))
    ⊎ (((a b x y : ℕ) × (text ≡ 0x78 ∷ a ∷ b ∷ []) × (hex_value a ≡ Some x) × (hex_value b ≡ Some y) × (value ≡ 16 * x + y))
    ⊎ IsOctal text value rest)

-- a byte of a string between quotes of this kind: as it is, or as an escape
abbrev pub IsStringByte : ℕ → List ℕ → ℕ → List ℕ → Type 0
IsStringByte quote text value rest =
    ((text ≡ value ∷ []) × ((value == quote) ≡ false) × ((value == 0x5C) ≡ false))
    ⊎ ((escape : List ℕ) × (text ≡ 0x5C ∷ escape) × IsEscape escape value rest)

-- the text begins with the spelling of these bytes, and this is left
abbrev pub SpellsBytes : ℕ → List ℕ → List ℕ → List ℕ → Type 0
SpellsBytes quote text [] rest = text ≡ rest
SpellsBytes quote text (b ∷ bs) rest = (part more : List ℕ) × (text ≡ part ++ more) × IsStringByte quote part b more × SpellsBytes quote more bs rest

abbrev pub IsQuote : ℕ → Type 0
IsQuote q = (q ≡ 0x22) ⊎ (q ≡ 0x27)

-- ---- tokens

-- the text begins with the spelling of this token, and this is left
abbrev pub IsTokenAt : List ℕ → Token → List ℕ → Type 0
IsTokenAt text (token.Word w) rest = (text ≡ w ++ rest) × IsWord w × EndsRun rest
IsTokenAt text (token.Number negative size) rest = (number : List ℕ) × (text ≡ number ++ rest) × IsNumber negative size number × EndsRun rest
IsTokenAt text (token.Bytes bytes) rest = (q : ℕ) × (body : List ℕ) × (text ≡ q ∷ body) × IsQuote q × SpellsBytes q body bytes (q ∷ rest)
IsTokenAt text token.Colon rest = text ≡ 0x3A ∷ rest
IsTokenAt text token.Comma rest = text ≡ 0x2C ∷ rest
IsTokenAt text token.Semicolon rest = text ≡ 0x3B ∷ rest
IsTokenAt text token.OpenList rest = text ≡ 0x5B ∷ rest
IsTokenAt text token.CloseList rest = text ≡ 0x5D ∷ rest
IsTokenAt text (token.Open Curly) rest = text ≡ 0x7B ∷ rest
IsTokenAt text (token.Close Curly) rest = text ≡ 0x7D ∷ rest
IsTokenAt text (token.Open Angle) rest = text ≡ 0x3C ∷ rest
IsTokenAt text (token.Close Angle) rest = text ≡ 0x3E ∷ rest
IsTokenAt text token.Wrong rest = ⊥
IsTokenAt text (token.Faulty left) rest = ⊥

-- the text begins with these tokens, each behind a gap, and this is left
abbrev pub SpellsTokens : List ℕ → List Token → List ℕ → Type 0
SpellsTokens text [] rest = text ≡ rest
SpellsTokens text (t ∷ ts) rest = (gap here behind : List ℕ) × (text ≡ gap ++ here) × IsGap gap × IsTokenAt here t behind × SpellsTokens behind ts rest

-- ---- where no token stands

-- no token begins the text, and it is no string's beginning
pub record HasNoToken (text : List ℕ) : Type 0 where
  pub no_gap : BeginsNoGap text
  pub no_token : (t : Token) (rest : List ℕ) → IsTokenAt text t rest → ⊥
  pub no_quote : (q : ℕ) (body : List ℕ) → text ≡ q ∷ body → IsQuote q → ⊥

-- no escape stands there
abbrev pub HasNoEscape : List ℕ → Type 0
HasNoEscape text = (escape rest : List ℕ) (value : ℕ) → text ≡ escape ++ rest → IsEscape escape value rest → ⊥

-- the text is the beginning of an escape
abbrev pub BeginsEscape : List ℕ → Type 0
BeginsEscape text = (more : List ℕ) × (value : ℕ) × IsEscape (text ++ more) value []

-- A string goes wrong where so many bytes are left: at the end of the text, which comes within the string, or at the backslash of what is no escape.
abbrev pub EndsWithin : List ℕ → ℕ → Type 0
EndsWithin rest left =
    ((rest ≡ []) × (left ≡ 0))
    ⊎ ((escape : List ℕ) × (rest ≡ 0x5C ∷ escape) × HasNoEscape escape × ((BeginsEscape escape × (left ≡ 0)) ⊎ ((BeginsEscape escape → ⊥) × (left ≡ length rest))))

-- the text begins a string, and goes wrong where so many bytes are left
abbrev pub HasNoString : List ℕ → ℕ → Type 0
HasNoString text left = (q : ℕ) × (body bytes rest : List ℕ) × (text ≡ q ∷ body) × IsQuote q × SpellsBytes q body bytes rest × EndsWithin rest left
