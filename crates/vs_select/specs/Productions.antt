-- Select texts by productions: which texts spell parts in a row, and which parts in a row are a select.
use Rattle.std.specs.Prelude.{◌≡◌, ◌≤◌, ◌-◌, ◌⊎◌, ℕ, Bool, true, false, not, ◌||◌, ◌==◌, List, [], ◌∷◌, ◌++◌, length, Option, Some, None, Ok, Err, codes, nat_eq}
use Rattle.std.specs.List.{IsDistinct, list_all}
use Rattle.std.specs.Cmp.Lexicographic.{pointwise}
use Rattle.vs_base.specs.Numbers.{digits_value, is_digit}
use Rattle.vs_select.specs.Grammar.{select_of}
use Rattle.vs_select.specs.Parts.{is_blank, is_keyword, is_word_byte}
use Rattle.vs_select.specs.declared.part.Part.{Part}
use Rattle.vs_select.specs.declared.part.Part.TheVariants as part
use Rattle.vs_select.specs.declared.select.Comparison.{Comparison}
use Rattle.vs_select.specs.declared.select.Comparison.TheVariants.{Equal, NotEqual, Less, AtMost, Greater, AtLeast}
use Rattle.vs_select.specs.declared.select.Literal.{Literal}
use Rattle.vs_select.specs.declared.select.Condition.{Condition}
use Rattle.vs_select.specs.declared.select.Condition.TheVariants.{Compares, IsNull, IsNotNull}
use Rattle.vs_select.specs.declared.select.Test.{Test}
use Rattle.vs_select.specs.declared.select.Select.{Select}
pub use Rattle.vs_base.specs.Blanks.{AreBlanks}

-- ---- how a part is spelled

-- bytes and the quote behind them, with two quotes for each of theirs
abbrev pub quoted_byte : Bool → ℕ → List ℕ → List ℕ
quoted_byte true c rest = 0x27 ∷ 0x27 ∷ rest
quoted_byte false c rest = c ∷ rest

abbrev pub in_quotes : List ℕ → List ℕ
in_quotes [] = 0x27 ∷ []
in_quotes (c ∷ cs) = quoted_byte (c == 0x27) c (in_quotes cs)

abbrev pub IsSign : Comparison → List ℕ → Type 0
IsSign Equal text = text ≡ 0x3D ∷ []
IsSign NotEqual text = (text ≡ 0x21 ∷ 0x3D ∷ []) ⊎ (text ≡ 0x3C ∷ 0x3E ∷ [])
IsSign Less text = text ≡ 0x3C ∷ []
IsSign AtMost text = text ≡ 0x3C ∷ 0x3D ∷ []
IsSign Greater text = text ≡ 0x3E ∷ []
IsSign AtLeast text = text ≡ 0x3E ∷ 0x3D ∷ []

-- letters, digits and `_`, not beginning with a digit
abbrev pub IsWord : List ℕ → Type 0
IsWord [] = ⊥
IsWord (c ∷ cs) = (is_digit c ≡ false) × (list_all is_word_byte (c ∷ cs) ≡ true)

abbrev pub number_text : Bool → List ℕ → List ℕ
number_text true ds = 0x2D ∷ ds
number_text false ds = ds

-- 1 to 19 digits of this value
abbrev pub AreDigitsOf : ℕ → List ℕ → Type 0
AreDigitsOf size ds = (list_all is_digit ds ≡ true) × (1 ≤ length ds) × (length ds ≤ 19) × (digits_value ds ≡ size)

abbrev pub Spells : Part → List ℕ → Type 0
Spells (part.Word w) text = (text ≡ w) × IsWord w
Spells (part.Quoted w) text = (text ≡ 0x60 ∷ (w ++ 0x60 ∷ [])) × (list_all (λ c. not (c == 0x60)) w ≡ true)
Spells (part.Number negative size) text = (ds : List ℕ) × (text ≡ number_text negative ds) × AreDigitsOf size ds
Spells (part.Bytes b) text = text ≡ 0x27 ∷ in_quotes b
Spells (part.Sign by) text = IsSign by text
Spells part.Star text = text ≡ 0x2A ∷ []
Spells part.Comma text = text ≡ 0x2C ∷ []
Spells part.Wrong text = ⊥
Spells part.Unclosed text = ⊥

-- what may not follow a part at once: a part is the longest that stands there
abbrev pub goes_on_with : Part → ℕ → Bool
goes_on_with (part.Word w) c = is_word_byte c
goes_on_with (part.Number negative size) c = is_word_byte c
goes_on_with (part.Bytes b) c = c == 0x27
goes_on_with (part.Sign Less) c = c == 0x3D || c == 0x3E
goes_on_with (part.Sign Greater) c = c == 0x3D
goes_on_with p c = false

abbrev pub PartEndsAt : Part → List ℕ → Type 0
PartEndsAt p [] = Unit {0}
PartEndsAt p (c ∷ cs) = goes_on_with p c ≡ false

-- the text begins with these parts, and this is left
abbrev pub BeginsWithParts : List ℕ → List Part → List ℕ → Type 0
BeginsWithParts text [] rest = (blanks : List ℕ) × (text ≡ blanks ++ rest) × AreBlanks blanks
BeginsWithParts text (p ∷ ps) rest = (blanks spelled behind : List ℕ) × (text ≡ blanks ++ (spelled ++ behind)) × AreBlanks blanks × Spells p spelled × PartEndsAt p behind × BeginsWithParts behind ps rest

-- ---- which parts in a row are a select

-- no word is reserved
abbrev pub IsName : Part → List ℕ → Type 0
IsName p name = (p ≡ part.Word name) ⊎ (p ≡ part.Quoted name)

-- in any case
abbrev pub IsKeyword : List ℕ → Part → Type 0
IsKeyword word p = is_keyword word p ≡ true

abbrev pub AreMoreNames : List Part → List (List ℕ) → Type 0
AreMoreNames ps [] = ps ≡ []
AreMoreNames ps (n ∷ names) = (p : Part) × (more : List Part) × (ps ≡ part.Comma ∷ p ∷ more) × IsName p n × AreMoreNames more names

-- all, or names with a comma between two, each but once
abbrev pub AreColumns : List Part → Option (List (List ℕ)) → Type 0
AreColumns ps None = ps ≡ part.Star ∷ []
AreColumns ps (Some []) = ⊥
AreColumns ps (Some (n ∷ names)) = (p : Part) × (more : List Part) × (ps ≡ p ∷ more) × IsName p n × AreMoreNames more names × IsDistinct (pointwise nat_eq) (n ∷ names)

abbrev pub IsLiteral : Part → Literal → Type 0
IsLiteral p (Literal.Number negative size) = p ≡ part.Number negative size
IsLiteral p (Literal.Bytes b) = p ≡ part.Bytes b

abbrev pub IsCondition : List Part → Condition → Type 0
IsCondition ps (Compares by literal) = (p : Part) × (ps ≡ part.Sign by ∷ p ∷ []) × IsLiteral p literal
IsCondition ps IsNull = (is null : Part) × (ps ≡ is ∷ null ∷ []) × IsKeyword (codes "is") is × IsKeyword (codes "null") null
IsCondition ps IsNotNull = (is no null : Part) × (ps ≡ is ∷ no ∷ null ∷ []) × IsKeyword (codes "is") is × IsKeyword (codes "not") no × IsKeyword (codes "null") null

-- tests, the first behind this keyword, and each other behind `and`
abbrev pub AreTests : List ℕ → List Part → List Test → Type 0
AreTests word ps [] = ps ≡ []
AreTests word ps (t ∷ tests) = (k p : Part) × (condition more : List Part) × (ps ≡ k ∷ p ∷ (condition ++ more)) × IsKeyword word k × IsName p t.column × IsCondition condition t.condition × AreTests (codes "and") more tests

pub record AreSelect (ps : List Part) (s : Select) : Type 0 where
  pub select : Part
  pub columns : List Part
  pub from : Part
  pub table : Part
  pub tests : List Part
  pub are : ps ≡ select ∷ (columns ++ (from ∷ table ∷ tests))
  pub begins : IsKeyword (codes "select") select
  pub columns_are : AreColumns columns s.columns
  pub from_is : IsKeyword (codes "from") from
  pub table_is : IsName table s.table
  pub tests_are : AreTests (codes "where") tests s.tests

-- ---- a text is a select, or none from a place on

-- the text is this select
abbrev pub IsSelect : List ℕ → Select → Type 0
IsSelect text s = (ps : List Part) × BeginsWithParts text ps [] × AreSelect ps s

-- some select begins with these parts
abbrev pub CanGoOn : List Part → Type 0
CanGoOn ps = (more : List Part) × (s : Select) × AreSelect (ps ++ more) s

-- a quote or a backquote with which no part begins, since the text doesn't close it
abbrev pub IsUnclosed : List ℕ → Type 0
IsUnclosed rest = (c : ℕ) × (cs : List ℕ) × (rest ≡ c ∷ cs) × ((c == 0x27 || c == 0x60) ≡ true) × ((p : Part) (behind : List ℕ) → BeginsWithParts rest (p ∷ []) behind → ⊥)

-- the place at which the text is missed of which this is left
abbrev pub IsMissedAt : List ℕ → List ℕ → ℕ → Type 0
IsMissedAt text rest at = (IsUnclosed rest → at ≡ length text) × ((IsUnclosed rest → ⊥) → at ≡ length text - length rest)

-- The parts before the place can go on to a select; and the part there can't, or the text ends there, or no part stands there.
pub record IsNoneFrom (text : List ℕ) (at : ℕ) : Type 0 where
  pub before : List Part
  pub rest : List ℕ
  pub begins : BeginsWithParts text before rest
  pub no_blank : (c : ℕ) (cs : List ℕ) → rest ≡ c ∷ cs → is_blank c ≡ false
  pub goes_on : CanGoOn before
  pub none : rest ≡ [] → (s : Select) → AreSelect before s → ⊥
  pub stops : (p : Part) (behind : List ℕ) → BeginsWithParts rest (p ∷ []) behind → CanGoOn (before ++ p ∷ []) → ⊥
  pub place : IsMissedAt text rest at

-- a text is a select, or none from a place on, exactly as it is read
pub record SelectsAreProductions : Type 0 where
  pub some : (text : List ℕ) (s : Select) → select_of text ≡ Ok s → IsSelect text s
  pub all : (text : List ℕ) (s : Select) → IsSelect text s → select_of text ≡ Ok s
  pub place : (text : List ℕ) (at : ℕ) → select_of text ≡ Err at → IsNoneFrom text at
  pub only : (text : List ℕ) (at : ℕ) → IsNoneFrom text at → select_of text ≡ Err at
